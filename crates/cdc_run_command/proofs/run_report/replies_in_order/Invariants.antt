use Rattle.std.proofs.Common.{map}
use Rattle.cdc_run_command.proofs.ReplyLemmas.{HasFound}
use Rattle.cdc_run_command.proofs.run_report.replies_in_order.Given as goal

abbrev pub invariant-loop-client : goal.invariant-loop-client
invariant-loop-client l =
    HasFound l.order (map (λ v. v.items) l.replies) l.client-index l.taken.items (map (λ r. r.now) l.found.items)
