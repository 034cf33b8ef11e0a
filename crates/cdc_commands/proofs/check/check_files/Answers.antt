use Rattle.cdc_commands.proofs.Terms.{IfErr-weaker, MayFailScript}
use Rattle.cdc_commands.proofs.OutputLemmas.{read_before, writes_made}
use Rattle.cdc_commands.proofs.check.check_files.Goals as goal

pub returns-clause-writes : goal.returns-clause-writes
returns-clause-writes g c =
    writes_made _ g.F.Form.prints_fault _ _ c.validate_files-output.result _ c.print_output.ensures.text
    c.print_output.ensures.fault
    c.validate_files-output.ensures.output
    (IfErr-weaker c.validate_files-output.result MayFailScript _
    (λ why may line stated. (may, stated)) c.validate_files-output.ensures.fault)

pub returns-clause-order : goal.returns-clause-order
returns-clause-order g c = λ read.
    c.validate_files-output.ensures.order (read_before g.F.Form.prints_fault _ _ c.validate_files-output.result _
    c.print_output.ensures.text c.print_output.ensures.fault read)
