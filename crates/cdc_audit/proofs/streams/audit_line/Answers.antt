use Rattle.cdc_audit.proofs.Words.{IfOk, LineLeadsTo, None, subst}
use Rattle.cdc_audit.proofs.AuditLemmas.{step_long, step_none, step_taken}
use Rattle.cdc_audit.proofs.streams.audit_line.Goals as goal

pub returns-in-Ok-true-clause-leads : goal.returns-in-Ok-true-clause-leads
returns-in-Ok-true-clause-leads g c =
    step_taken c.args.number c.args.auditor.now _ (g.B.Read.remaining c.args.reader.now)
    (g.B.Read.remaining c.read_line.new.reader) c.read_line.new.line.items c.in-Ok-true.field-0 c.audit_bytes.result
    c.in-Ok-true.field-0-test c.in-Ok-true.ensures.line
    (subst (λ l. IfOk c.audit_bytes.result (λ stop. LineLeadsTo c.args.number l c.args.auditor.now stop
    c.audit_bytes.new.auditor)) c.deref.ensures.value c.audit_bytes.ensures.leads)

pub returns-in-Ok-false-clause-leads : goal.returns-in-Ok-false-clause-leads
returns-in-Ok-false-clause-leads g c =
    step_none c.args.number c.args.auditor.now (g.B.Read.remaining c.args.reader.now)
    (g.B.Read.remaining c.read_line.new.reader) c.read_line.new.line.items c.in-Ok-false.field-0
    c.in-Ok-false.field-0-test c.in-Ok-false.ensures.line

pub returns-in-Err-TooLong-clause-leads : goal.returns-in-Err-TooLong-clause-leads
returns-in-Err-TooLong-clause-leads g c =
    step_long c.args.number c.args.auditor.now (g.B.Read.remaining c.args.reader.now) None
    (c.in-Err-TooLong.ensures.long c.in-Err-TooLong.field-0-is)
