use Rattle.std.proofs.Common.{◌≡◌, map}
use Rattle.cdc_broker_actors.specs.Seats.{subscriber_seat}
use Rattle.cdc_run_tests.specs.Systems.{sits_at}
use Rattle.cdc_run_tests.proofs.settle.turn_subscribers.Given as goal

-- each keeps its seat
abbrev pub invariant-loop-end : goal.invariant-loop-end
invariant-loop-end g l = map (sits_at subscriber_seat) l.end-items ≡ map (sits_at subscriber_seat) l.fn.ends.items
