use Rattle.cdc_run_command.proofs.Words.{owners_of, take, ◌≡◌}
use Rattle.cdc_run_command.proofs.shares.owners.Given as goal

abbrev pub invariant-loop-item : goal.invariant-loop-item
invariant-loop-item l = l.owners.items ≡ owners_of (take l.item-index l.batches)
