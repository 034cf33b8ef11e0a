use Rattle.cdc_commands.proofs.Terms.{IfErr-weaker, MayFailScript}
use Rattle.cdc_commands.proofs.OutputLemmas.{read_before, writes_made}
use Rattle.cdc_commands.proofs.simulate.simulate_command.Goals as goal

pub returns-clause-writes : goal.returns-clause-writes
returns-clause-writes g c =
    writes_made _ g.F.Form.prints_fault _ _ c.read_simulation-output.result _ c.print_output.ensures.text
    c.print_output.ensures.fault
    c.read_simulation-output.ensures.output
    (IfErr-weaker c.read_simulation-output.result MayFailScript _
    (λ why may line stated. (may, stated)) c.read_simulation-output.ensures.fault)

pub returns-clause-seen : goal.returns-clause-seen
returns-clause-seen g c =
    writes_made _ g.F.Form.prints_fault _ _ c.read_simulation-output.result _ c.print_output.ensures.text
    c.print_output.ensures.fault
    c.read_simulation-output.ensures.seen
    (IfErr-weaker c.read_simulation-output.result MayFailScript _
    (λ why may line stated. (may, tt)) c.read_simulation-output.ensures.fault)

pub returns-clause-order : goal.returns-clause-order
returns-clause-order g c = λ read.
    c.read_simulation-output.ensures.order (read_before g.F.Form.prints_fault _ _ c.read_simulation-output.result _
    c.print_output.ensures.text c.print_output.ensures.fault read)
