use Rattle.std.proofs.Common.{◌≡◌, ◌-◌, ◌<◌, refl, sym, ap, ◌∙◌, length, subst, arith}
use Rattle.std.specs.Prelude.{not, if◌then◌else◌}
use Rattle.cdc_broker.specs.Broker.{BrokerState, HasAccepted, queue_of, with_queue}
use Rattle.cdc_broker.specs.Queues.{QueueState, acknowledged, is_unknown}
use Rattle.std.proofs.lemmas.List.Elements.{All-set}
use Rattle.cdc_broker.specs.Kept.{IsInOrder, IsLeft, queue_state}
use Rattle.cdc_broker.proofs.Accepted.{HasAccepted-acknowledged}
use Rattle.cdc_broker.proofs.States.{broker_of, queue_of-broker_of, queue_seen, broker_of-set_if, within_queues}
use Rattle.cdc_broker.proofs.broker.Broker.ack.Goals as goal

pub returns-clause-state : goal.returns-clause-state
returns-clause-state c =
    let queues = c.self.inside.queues.items in
    let accepted = c.self.inside.accepted.items in
    let i = c.args.i in
    let q = c.index_mut-queue.result.now in
    let connection = c.self.inside.connection in
    let expected = c.self.inside.expected in
    let inside : i - 1 < length queues =
    within_queues connection expected accepted queues c.args.self.now i c.self.view_is c.requires.first
    c.requires.last in
    let this : queue_of (broker_of connection expected accepted queues) i ≡ queue_state accepted q =
    queue_of-broker_of connection expected accepted queues i q inside c.index_mut-queue.ensures.value in
    let turn : BrokerState → BrokerState = λ s.
    if c.ack.result then with_queue i (acknowledged c.args.position (queue_of s i)) s else s in
    broker_of-set_if connection expected accepted queues i q inside c.index_mut-queue.ensures.value c.ack.result
    c.ack.new.self
    (acknowledged c.args.position (queue_state accepted q))
    c.ack.ensures.state
    ∙ ap (λ (x : QueueState). if c.ack.result
    then with_queue i (acknowledged c.args.position x) (broker_of connection expected accepted queues)
    else broker_of connection expected accepted queues) (sym this)
    ∙ ap turn c.self.view_is

pub returns-clause-accepted : goal.returns-clause-accepted
returns-clause-accepted c =
    let inside : c.args.i - 1 < length c.args.self.now.queues = omega arith in
    λ accepted has. subst (λ (s : BrokerState). HasAccepted s accepted) (sym (returns-clause-state c))
    (HasAccepted-acknowledged c.args.self.now c.args.i c.args.position c.ack.result accepted inside has)

pub invariant_of-self : goal.invariant_of-self
invariant_of-self c =
    let accepted = c.self.inside.accepted in
    let queues = c.self.inside.queues.items in
    record {
      in_order = All-set (IsInOrder accepted.items) queues (c.args.i - 1) c.ack.new.self c.ack.ensures.in_order
          c.self.invariant.in_order;
      left = All-set (IsLeft accepted.gone) queues (c.args.i - 1) c.ack.new.self c.ack.ensures.left
          c.self.invariant.left;
    }

pub returns-clause-answer : goal.returns-clause-answer
returns-clause-answer c =
    c.ack.ensures.answer
    ∙ ap (λ (x : QueueState). not (is_unknown x c.args.position))
    (queue_seen c.self.inside.connection c.self.inside.expected c.self.inside.accepted.items
    c.self.inside.accepted.items c.self.inside.queues.items c.args.self.now c.args.i c.index_mut-queue.result.now
    c.self.view_is refl c.requires.first c.requires.last c.index_mut-queue.ensures.value)
