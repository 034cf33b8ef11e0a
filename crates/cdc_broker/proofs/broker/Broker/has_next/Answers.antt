use Rattle.std.proofs.Common.{◌-◌, ◌<◌, refl, ap, ◌∙◌, length}
use Rattle.std.specs.Prelude.{is_some}
use Rattle.cdc_broker.specs.Queues.{QueueState, next_delivery}
use Rattle.cdc_broker.proofs.States.{has_next_by, in_order_at, queue_seen, within_queues}
use Rattle.cdc_broker.proofs.broker.Broker.has_next.Goals as goal

pub returns : goal.returns
returns c =
    let accepted = c.self.inside.accepted.items in
    let queues = c.self.inside.queues.items in
    let i = c.args.i in
    let q = c.index.result.now in
    let inside : i - 1 < length queues =
    within_queues c.self.inside.connection c.self.inside.expected accepted queues c.args.self.now i c.self.view_is
    c.requires.first c.requires.last in
    c.has_next.ensures
    ∙ has_next_by accepted q (in_order_at accepted queues (i - 1) q inside c.index.ensures c.self.invariant.in_order)
    ∙ ap (λ (x : QueueState). is_some (next_delivery x))
    (queue_seen c.self.inside.connection c.self.inside.expected accepted accepted queues c.args.self.now i q
    c.self.view_is refl c.requires.first c.requires.last c.index.ensures)
