use Rattle.std.proofs.Common.{None}
use Rattle.cdc_audit_command.proofs.SkipLemmas.{step_long, step_none, step_taken}
use Rattle.cdc_audit_command.proofs.turns.audit_new_line.Goals as goal

pub returns-in-Ok-true-clause-leads : goal.returns-in-Ok-true-clause-leads
returns-in-Ok-true-clause-leads g c =
    step_taken c.args.number c.args.auditor.now _ (g.B.Read.remaining c.args.reader.now)
    (g.B.Read.remaining c.read_line.new.reader) c.read_line.new.line.items c.in-Ok-true.field-0
    c.audit_new_bytes.result c.in-Ok-true.field-0-test c.in-Ok-true.ensures.line
    (rw c.as_slice.ensures.value at c.audit_new_bytes.ensures.leads)

pub returns-in-Ok-false-clause-leads : goal.returns-in-Ok-false-clause-leads
returns-in-Ok-false-clause-leads g c =
    step_none c.args.number c.args.auditor.now (g.B.Read.remaining c.args.reader.now)
    (g.B.Read.remaining c.read_line.new.reader) c.read_line.new.line.items c.in-Ok-false.field-0
    c.in-Ok-false.field-0-test c.in-Ok-false.ensures.line

pub returns-in-Err-TooLong-clause-leads : goal.returns-in-Err-TooLong-clause-leads
returns-in-Err-TooLong-clause-leads g c =
    step_long c.args.number c.args.auditor.now (g.B.Read.remaining c.args.reader.now) None
    (c.in-Err-TooLong.ensures.long c.in-Err-TooLong.field-0-is)
