use Rattle.cdc_commands.proofs.Terms.{IfErr-weaker, MayFailScript}
use Rattle.cdc_commands.proofs.OutputLemmas.{writes_made}
use Rattle.cdc_commands.proofs.messages.messages.Goals as goal

pub returns-clause-writes : goal.returns-clause-writes
returns-clause-writes g c =
    writes_made _ g.F.Form.prints_fault _ _ c.read_messages-output.result _ c.print_output.ensures.text
    c.print_output.ensures.fault
    c.read_messages-output.ensures.output
    (IfErr-weaker c.read_messages-output.result MayFailScript _
    (λ why may line stated. (may, stated)) c.read_messages-output.ensures.fault)
