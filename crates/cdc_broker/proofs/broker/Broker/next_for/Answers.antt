use Rattle.std.proofs.Common.{◌≡◌, ◌-◌, ◌<◌, refl, sym, ap, ◌∙◌, length, subst, arith}
use Rattle.std.specs.Prelude.{IfOk, IsSome, OnErr}
use Rattle.std.proofs.lemmas.Result.{on_ok_weaker, on_err_weaker}
use Rattle.cdc_broker.specs.Broker.{BrokerState, HasAccepted, queue_of, with_queue}
use Rattle.cdc_broker.specs.Queues.{QueueState, delivered_event, next_delivery, with_delivery}
use Rattle.std.proofs.lemmas.List.Elements.{All-set}
use Rattle.cdc_broker.specs.Kept.{IsInOrder, IsLeft, queue_state}
use Rattle.cdc_broker.proofs.Accepted.{HasAccepted-with_delivery, either_way}
use Rattle.cdc_broker.proofs.States.{broker_of, queue_of-broker_of, queue_seen, broker_of-set, with_queue-same, within_queues}
use Rattle.cdc_broker.proofs.broker.Broker.next_for.Goals as goal

pub returns-clause-ok : goal.returns-clause-ok
returns-clause-ok c =
    let queues = c.self.inside.queues.items in
    let accepted = c.self.inside.accepted.items in
    let i = c.args.i in
    let q = c.index_mut-queue.result.now in
    let connection = c.self.inside.connection in
    let expected = c.self.inside.expected in
    let inside : i - 1 < length queues =
    within_queues connection expected accepted queues c.args.self.now i c.self.view_is c.requires.first
    c.requires.last in
    let this : queue_of (broker_of connection expected accepted queues) i ≡ queue_state accepted q =
    queue_of-broker_of connection expected accepted queues i q inside c.index_mut-queue.ensures.value in
    let turn : BrokerState → BrokerState =
    λ s. with_queue i (with_delivery (next_delivery (queue_of s i)) (queue_of s i)) s in
    on_ok_weaker c.deliver.result
    (λ moved. broker_of-set connection expected accepted queues i q inside c.index_mut-queue.ensures.value
    c.deliver.new.self
    ∙ ap (λ (x : QueueState). with_queue i x (broker_of connection expected accepted queues)) moved
    ∙ ap (λ (x : QueueState).
    with_queue i (with_delivery (next_delivery x) x) (broker_of connection expected accepted queues))
    (sym this)
    ∙ ap turn c.self.view_is)
    c.deliver.ensures.ok

pub returns-clause-err : goal.returns-clause-err
returns-clause-err c =
    let queues = c.self.inside.queues.items in
    let accepted = c.self.inside.accepted.items in
    let i = c.args.i in
    let q = c.index_mut-queue.result.now in
    let connection = c.self.inside.connection in
    let expected = c.self.inside.expected in
    let inside : i - 1 < length queues =
    within_queues connection expected accepted queues c.args.self.now i c.self.view_is c.requires.first
    c.requires.last in
    on_err_weaker c.deliver.result
    (λ same. broker_of-set connection expected accepted queues i q inside c.index_mut-queue.ensures.value
    c.deliver.new.self
    ∙ ap (λ (x : QueueState). with_queue i x (broker_of connection expected accepted queues))
    (ap (queue_state accepted) same)
    ∙ with_queue-same connection expected accepted queues i q inside c.index_mut-queue.ensures.value
    ∙ c.self.view_is)
    c.deliver.ensures.err

pub returns-clause-accepted : goal.returns-clause-accepted
returns-clause-accepted c =
    let s = c.args.self.now in
    let inside : c.args.i - 1 < length s.queues = omega arith in
    λ accepted has. either_way c.deliver.result (returns-clause-ok c) (returns-clause-err c)
    (λ moved. subst (λ (s : BrokerState). HasAccepted s accepted) (sym moved)
    (HasAccepted-with_delivery s c.args.i (next_delivery (queue_of s c.args.i)) accepted inside has))
    (λ same. subst (λ (s : BrokerState). HasAccepted s accepted) (sym same) has)

pub invariant_of-self : goal.invariant_of-self
invariant_of-self c =
    let accepted = c.self.inside.accepted in
    let queues = c.self.inside.queues.items in
    record {
      in_order = All-set (IsInOrder accepted.items) queues (c.args.i - 1) c.deliver.new.self c.deliver.ensures.in_order
          c.self.invariant.in_order;
      left = All-set (IsLeft accepted.gone) queues (c.args.i - 1) c.deliver.new.self c.deliver.ensures.left
          c.self.invariant.left;
    }

pub returns-clause-answer : goal.returns-clause-answer
returns-clause-answer c =
    subst (λ (x : QueueState). IfOk c.deliver.result (λ delivery. delivery ≡ next_delivery x))
    (queue_seen c.self.inside.connection c.self.inside.expected c.self.inside.accepted.items
    c.self.inside.accepted.items c.self.inside.queues.items c.args.self.now c.args.i c.index_mut-queue.result.now
    c.self.view_is refl c.requires.first c.requires.last c.index_mut-queue.ensures.value)
    c.deliver.ensures.answer

pub returns-clause-memory : goal.returns-clause-memory
returns-clause-memory c =
    subst (λ (x : QueueState). OnErr c.deliver.result (IsSome (delivered_event (next_delivery x))))
    (queue_seen c.self.inside.connection c.self.inside.expected c.self.inside.accepted.items
    c.self.inside.accepted.items c.self.inside.queues.items c.args.self.now c.args.i c.index_mut-queue.result.now
    c.self.view_is refl c.requires.first c.requires.last c.index_mut-queue.ensures.value)
    c.deliver.ensures.memory
