use Rattle.cdc_run_command.proofs.Words.{entries_of, ◌≡◌}
use Rattle.cdc_run_command.proofs.shares.entries_of.Given as goal

abbrev pub invariant-loop-client : goal.invariant-loop-client
invariant-loop-client l = l.entries.items ≡ entries_of l.yielded
