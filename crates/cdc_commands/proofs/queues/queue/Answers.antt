use Rattle.cdc_commands.proofs.Terms.{IfErr-weaker, MayFailScript}
use Rattle.cdc_commands.proofs.OutputLemmas.{writes_made}
use Rattle.cdc_commands.proofs.queues.queue.Goals as goal

pub returns-clause-writes : goal.returns-clause-writes
returns-clause-writes g c =
    writes_made _ g.F.Form.prints_fault _ _ c.read_queue-output.result _ c.print_output.ensures.text
    c.print_output.ensures.fault
    c.read_queue-output.ensures.output
    (IfErr-weaker c.read_queue-output.result MayFailScript _
    (λ why may line stated. (may, stated)) c.read_queue-output.ensures.fault)
