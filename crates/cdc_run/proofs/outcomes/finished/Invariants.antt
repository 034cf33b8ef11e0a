use Rattle.cdc_run.proofs.Words.{finished_in, ◌≡◌}
use Rattle.cdc_run.proofs.outcomes.finished.Given as goal

-- those so far
abbrev pub invariant-loop-outcome : goal.invariant-loop-outcome
invariant-loop-outcome g l = l.actors.items ≡ finished_in l.yielded
