use Rattle.std.proofs.Common.{◌∙◌}
use Rattle.std.proofs.Math.Seq.{map-set_same}
use Rattle.cdc_broker_actors.specs.Seats.{subscriber_seat}
use Rattle.cdc_run_tests.specs.Systems.{sits_at}
use Rattle.cdc_run_tests.proofs.settle.turn_subscribers.Goals as goal

pub loop-end-preserved : goal.loop-end-preserved
loop-end-preserved g c =
    map-set_same (sits_at subscriber_seat) c.loop-end.end-items c.loop-end.end-index c.turn_subscriber.new.end
    c.end-item.result
    c.turn_subscriber.ensures
    ∙ c.loop-end.invariant
