use Rattle.cdc_broker_actors.proofs.Words.{Carries, Delivery, IsBrought, IsSubscriberActor, SubscriberCore, inr, passed_on, rules}
use Rattle.cdc_broker_actors.specs.Subscriber.{HasReceived}
use Rattle.cdc_broker_actors.specs.Subscriber.SoFar.{HasFailed}
use Rattle.cdc_broker_actors.proofs.SubscriberLemmas.Fields.{seen}
use Rattle.cdc_broker_actors.proofs.SubscriberLemmas.Fails.{acknowledged_so, unacknowledged_so}
use Rattle.cdc_broker_actors.proofs.SubscriberLemmas.Taking.{may_acknowledge}
use Rattle.cdc_broker_actors.proofs.subscriber.cores.SubscriberCore.turn.Goals as goal
use Rattle.cdc_broker_actors.proofs.subscriber.cores.SubscriberCore.turn.Goals.{in-EndMark-3, in-Event-3}

pub acknowledge-requires : goal.acknowledge-requires
acknowledge-requires g c =
    let core : SubscriberCore = seen c.self.inside in
    let is : IsSubscriberActor core = rw c.self.view_is c.requires.kept in
    let delivery : Delivery = c.in-Delivery.delivery in
    let position = rw c.in-Delivery.is at c.in_ok-delivery.ensures.brought.follows.may in
    may_acknowledge core is delivery position

pub returns-in_err-acknowledge-in-Delivery-clause-failed : goal.returns-in_err-acknowledge-in-Delivery-clause-failed
returns-in_err-acknowledge-in-Delivery-clause-failed g c =
    let now = c.args.self.now in
    let core : SubscriberCore = seen c.self.inside in
    let delivery : Delivery = c.in-Delivery.delivery in
    let gone = c.in_err-acknowledge-in-Delivery.ensures.refused in
    let brought : IsBrought now.inbox (Carries delivery) c.receive_next.new.inbox = search rules in
    passed_on (λ fault. HasFailed now fault _) _ _ c.from_residual-in_err-acknowledge-in-Delivery.ensures.1
    (rw gone.0 (record {
      working = search rules;
      comes = inr (
        delivery,
        (
          brought,
          unacknowledged_so core now c.self.view_is c.receive_next.new.inbox c.take.new.subscriber
              c.take.new.arrivals.items delivery brought.after c.requires.kept.keeps c.requires.kept.arrives
              c.in_ok-take-in-Delivery.ensures.reception c.in_ok-take-in-Delivery.ensures.arrivals
              c.acknowledge.new.acks gone.1,
        ),
      );
    }))

-- a delivery was taken and acknowledged
pub returns-in_ok-acknowledge-in-Delivery-clause-turned : goal.returns-in_ok-acknowledge-in-Delivery-clause-turned
returns-in_ok-acknowledge-in-Delivery-clause-turned g c =
    let now = c.args.self.now in
    let core : SubscriberCore = seen c.self.inside in
    let new : SubscriberCore = record core {
      inbox = c.receive_next.new.inbox;
      acks = c.acknowledge.new.acks;
      subscriber = c.take.new.subscriber;
      arrivals = c.take.new.arrivals.items;
    } in
    let delivery : Delivery = c.in-Delivery.delivery in
    let brought : IsBrought now.inbox (Carries delivery) c.receive_next.new.inbox = search rules in
    let has : HasReceived now new = record {
      message = Carries delivery;
      brought = brought;
      after = acknowledged_so core now c.self.view_is c.receive_next.new.inbox c.take.new.subscriber
          c.take.new.arrivals.items delivery brought.after c.requires.kept.keeps c.requires.kept.arrives
          c.in_ok-take-in-Delivery.ensures.reception c.in_ok-take-in-Delivery.ensures.arrivals
          c.acknowledge.new.acks c.in_ok-acknowledge-in-Delivery.ensures.sent;
    } in
    elim c.match-delivery-3.branch [
      | in-Event-3 w ↦ rw w.self-is has
      | in-EndMark-3 w ↦ rw w.self-is has
    ]
