use Rattle.cdc_run_command.proofs.Words.{client_count, take, ◌≡◌}
use Rattle.cdc_run_command.proofs.shares.greatest_client.Given as goal

abbrev pub invariant-loop-item : goal.invariant-loop-item
invariant-loop-item l = l.greatest ≡ client_count (take l.item-index l.batches)
