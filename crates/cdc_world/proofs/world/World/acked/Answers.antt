use Rattle.cdc_world.proofs.Words.{taken_items, ◌∙◌}
use Rattle.cdc_world.proofs.MovedReadings.{acked_read}
use Rattle.cdc_world.proofs.world.World.acked.Goals as goal

pub returns : goal.returns
returns g c = λ w st s there.
    c.acked.ensures
    ∙ acked_read c.broker.result.now (taken_items w) w.subscriptions c.args.i s (c.broker.ensures.queues w st) there
