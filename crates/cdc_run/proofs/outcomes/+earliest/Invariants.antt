use Rattle.std.proofs.Common.{length}
use Rattle.cdc_run.proofs.outcomes.+earliest.Given as goal

-- each call has an outcome less
abbrev pub decreases-earliest : goal.decreases-earliest
decreases-earliest g l = length l.outcomes.now
