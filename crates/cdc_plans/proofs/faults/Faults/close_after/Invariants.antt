use Rattle.cdc_plans.specs.Faults.{IsLeastClose}
use Rattle.std.proofs.Common.{take}
use Rattle.cdc_plans.proofs.faults.Faults.close_after.Given as goal

-- it is the least of those so far
abbrev pub invariant-loop-entry : goal.invariant-loop-entry
invariant-loop-entry l = IsLeastClose l.subscriber (take l.entry-index l.entry-items) l.least
