use Rattle.cdc_commands.proofs.Terms.{IfErr-weaker, MayFailScript}
use Rattle.cdc_commands.proofs.OutputLemmas.{writes_made}
use Rattle.cdc_commands.proofs.check.check.Goals as goal

pub returns-clause-writes : goal.returns-clause-writes
returns-clause-writes g c =
    writes_made _ g.F.Form.prints_fault _ _ c.validate-output.result _ c.print_output.ensures.text
    c.print_output.ensures.fault
    c.validate-output.ensures.output
    (IfErr-weaker c.validate-output.result MayFailScript _ (λ why may line stated. (may, stated))
    c.validate-output.ensures.fault)
