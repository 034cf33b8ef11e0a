use Rattle.cdc_audit_command.proofs.SkipLemmas.{plain_audited, plain_stops}
use Rattle.cdc_audit_command.proofs.turns.take_turn.Goals as goal

pub returns-in-Ok-None-clause-leads : goal.returns-in-Ok-None-clause-leads
returns-in-Ok-None-clause-leads g c =
    plain_audited c.args.skips c.args.number c.args.auditor.now _ (g.B.Read.remaining c.args.reader.now)
    (g.B.Read.remaining c.audit_line.new.reader) c.if-skips.false
    (rw c.in-Ok-None.field-0-is at c.in-Ok-None.ensures.leads)

pub returns-in-Ok-Some-clause-leads : goal.returns-in-Ok-Some-clause-leads
returns-in-Ok-Some-clause-leads g c =
    plain_stops c.args.skips c.args.number c.args.auditor.now _ c.in-Ok-Some.stop
    (g.B.Read.remaining c.args.reader.now) (g.B.Read.remaining c.audit_line.new.reader) c.if-skips.false
    (rw c.in-Ok-Some.field-0-is at c.in-Ok-Some.ensures.leads)
