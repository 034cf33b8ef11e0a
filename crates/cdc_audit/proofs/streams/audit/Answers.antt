use Rattle.cdc_audit.proofs.Words.{IfSome, StepLeadsTo, subst}
use Rattle.cdc_audit.proofs.AuditLemmas.{goes_from, goes_keeps, goes_on, goes_stop, keeps_on_error}
use Rattle.cdc_audit.proofs.streams.audit.Goals as goal

pub returns-in_err-next-clause-err : goal.returns-in_err-next-clause-err
returns-in_err-next-clause-err g c =
    keeps_on_error c.args.auditor.now c.loop-number.auditor c.audit_line.new.auditor c.loop-number.number
    (g.B.Read.remaining c.args.reader.now) (g.B.Read.remaining c.loop-number.reader) c.from_residual.result
    c.loop-number.invariant c.in_err-next.ensures.err

pub loop-number-preserved : goal.loop-number-preserved
loop-number-preserved g c =
    goes_on c.args.auditor.now c.loop-number.auditor c.audit_line.new.auditor c.loop-number.number c.in_ok-next.next
    (g.B.Read.remaining c.args.reader.now) (g.B.Read.remaining c.loop-number.reader)
    (g.B.Read.remaining c.audit_line.new.reader) c.loop-number.invariant c.in_default.is c.in_ok-next.ensures.leads

pub returns-clause-err : goal.returns-clause-err
returns-clause-err g c =
    goes_keeps c.args.auditor.now c.loop-number.auditor c.loop-number.number (g.B.Read.remaining c.args.reader.now)
    (g.B.Read.remaining c.loop-number.reader) c.loop-number.invariant

pub returns-in-Some-clause-stops : goal.returns-in-Some-clause-stops
returns-in-Some-clause-stops g c =
    goes_stop c.args.auditor.now c.loop-number.auditor c.audit_line.new.auditor c.loop-number.number c.in-Some.stop
    (g.B.Read.remaining c.args.reader.now) (g.B.Read.remaining c.loop-number.reader)
    (g.B.Read.remaining c.audit_line.new.reader) c.loop-number.invariant
    (subst (λ stops. IfSome (g.B.Read.remaining c.loop-number.reader) (λ bytes. StepLeadsTo c.loop-number.number
    c.loop-number.auditor bytes stops c.audit_line.new.auditor (g.B.Read.remaining c.audit_line.new.reader)))
    c.in-Some.is c.in_ok-next.ensures.leads)

pub loop-number-init : goal.loop-number-init
loop-number-init g c = goes_from c.args.auditor.now (g.B.Read.remaining c.args.reader.now)
