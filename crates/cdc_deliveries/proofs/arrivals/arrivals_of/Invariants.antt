use Rattle.cdc_deliveries.proofs.Words.{arriving, drop, fold, with_step, ◌≡◌}
use Rattle.cdc_deliveries.proofs.arrivals.arrivals_of.Given as goal

-- what the steps that are left make of what has arrived is what all steps make
abbrev pub invariant-loop-step : goal.invariant-loop-step
invariant-loop-step l =
    fold (with_step l.subscriber) l.arriving (drop l.step-index l.steps) ≡ arriving l.subscriber l.steps
