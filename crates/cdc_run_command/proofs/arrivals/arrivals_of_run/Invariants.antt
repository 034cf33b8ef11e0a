use Rattle.cdc_run_command.proofs.Words.{arrived, arrived_from, drop, ◌++◌, ◌≡◌}
use Rattle.cdc_run_command.proofs.arrivals.arrivals_of_run.Given as goal

-- what has arrived, and what the deliveries that are left make, are all that arrives
abbrev pub invariant-loop-delivery : goal.invariant-loop-delivery
invariant-loop-delivery l =
    l.arrived.items ++ arrived_from l.furthest (drop l.delivery-index l.received) ≡ arrived l.received
