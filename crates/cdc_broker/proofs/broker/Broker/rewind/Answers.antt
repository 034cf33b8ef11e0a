use Rattle.std.proofs.Common.{◌≡◌, ◌-◌, ◌<◌, sym, ap, ◌∙◌, length, subst, arith}
use Rattle.cdc_broker.specs.Broker.{BrokerState, HasAccepted, queue_of, with_queue}
use Rattle.cdc_broker.specs.Queues.{QueueState, rewound_queue}
use Rattle.std.proofs.lemmas.List.Elements.{All-set}
use Rattle.cdc_broker.specs.Kept.{IsInOrder, IsLeft, queue_state}
use Rattle.cdc_broker.proofs.Accepted.{HasAccepted-rewound}
use Rattle.cdc_broker.proofs.States.{broker_of, queue_of-broker_of, broker_of-set, in_order_at, left_at, rewound_in_order, within_queues}
use Rattle.cdc_broker.proofs.broker.Broker.rewind.Goals as goal

pub returns-clause-state : goal.returns-clause-state
returns-clause-state c =
    let queues = c.self.inside.queues.items in
    let accepted = c.self.inside.accepted.items in
    let i = c.args.i in
    let q = c.index_mut-queue.result.now in
    let connection = c.self.inside.connection in
    let expected = c.self.inside.expected in
    let inside : i - 1 < length queues =
    within_queues connection expected accepted queues c.args.self.now i c.self.view_is c.requires.first
    c.requires.last in
    let this : queue_of (broker_of connection expected accepted queues) i ≡ queue_state accepted q =
    queue_of-broker_of connection expected accepted queues i q inside c.index_mut-queue.ensures.value in
    let turn : BrokerState → BrokerState = λ s. with_queue i (rewound_queue (queue_of s i)) s in
    broker_of-set connection expected accepted queues i q inside c.index_mut-queue.ensures.value c.rewind.new.self
    ∙ ap (λ (x : QueueState). with_queue i x (broker_of connection expected accepted queues))
    (ap (queue_state accepted) c.rewind.ensures)
    ∙ ap (λ (x : QueueState). with_queue i (rewound_queue x) (broker_of connection expected accepted queues)) (sym this)
    ∙ ap turn c.self.view_is

pub returns-clause-accepted : goal.returns-clause-accepted
returns-clause-accepted c =
    let inside : c.args.i - 1 < length c.args.self.now.queues = omega arith in
    λ accepted has. subst (λ (s : BrokerState). HasAccepted s accepted) (sym (returns-clause-state c))
    (HasAccepted-rewound c.args.self.now c.args.i accepted inside has)

pub invariant_of-self : goal.invariant_of-self
invariant_of-self c =
    let queues = c.self.inside.queues.items in
    let accepted = c.self.inside.accepted.items in
    let i = c.args.i in
    let q = c.index_mut-queue.result.now in
    let inside : i - 1 < length queues =
    within_queues c.self.inside.connection c.self.inside.expected accepted queues c.args.self.now i c.self.view_is
    c.requires.first c.requires.last in
    let order = in_order_at accepted queues (i - 1) q inside c.index_mut-queue.ensures.value
    c.self.invariant.in_order in
    let needed = left_at c.self.inside.accepted.gone queues (i - 1) q inside c.index_mut-queue.ensures.value
    c.self.invariant.left in
    record {
      in_order = All-set (IsInOrder accepted) queues (i - 1) c.rewind.new.self
          (subst (IsInOrder accepted) (sym c.rewind.ensures) (rewound_in_order accepted q order))
          c.self.invariant.in_order;
      left = All-set (IsLeft c.self.inside.accepted.gone) queues (i - 1) c.rewind.new.self
          (subst (IsLeft c.self.inside.accepted.gone) (sym c.rewind.ensures)
          (record { acked = needed.acked; cursor = needed.acked }))
          c.self.invariant.left;
    }
