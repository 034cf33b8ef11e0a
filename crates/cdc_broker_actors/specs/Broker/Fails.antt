-- What the parts of a turn of the broker actor leave if they fail. Only private contracts and proofs cite this file.
use Rattle.std.specs.Prelude.{◌≡◌, ◌⊎◌, ℕ, false, true, Some, List, [], is_some, length, map, slice_get}
use Rattle.cdc_broker.specs.Broker.{BrokerState, queue_of, with_queue}
use Rattle.cdc_broker.specs.Queues.{QueueState, next_delivery, with_delivery}
use Rattle.cdc_broker_actors.specs.Broker.{BrokerCore, IsConsumerServed, deliveries_in}
use Rattle.cdc_broker_actors.specs.Broker.SoFar.{AreDelivered, IsBrokerSoFar, IsServedSoFar}
use Rattle.cdc_broker_actors.specs.Broker.Turns.{HasSameLinks, with_coming, with_counted, with_stop}
use Rattle.cdc_broker_actors.specs.declared.broker.consumers.Consumer.{Consumer}
use Rattle.cdc_actor_work.specs.declared.faults.RunFault.{RunFault}
use Rattle.cdc_actor_work.specs.declared.faults.RunFault.TheVariants.{PeerGone, OutOfMemory, Store, SessionsExhausted, NotOneSystem, StartNotAllowed}
use Rattle.cdc_laws.specs.Brokers.{HasDelivered}
use Rattle.cdc_message.specs.declared.packets.Packet.{Packet}
use Rattle.cdc_types.specs.Widths.{max_64}

-- a publish wasn't taken, by the fault: there is no further number for one that is accepted, or no memory
abbrev pub IsUnpublished : BrokerCore → RunFault → BrokerCore → Type 0
IsUnpublished old PeerGone new = (old.accepted ≡ max_64) × (new ≡ old)
IsUnpublished old OutOfMemory new = new ≡ old
IsUnpublished old (Store why) new = ⊥
IsUnpublished old SessionsExhausted new = ⊥
IsUnpublished old NotOneSystem new = ⊥
IsUnpublished old StartNotAllowed new = ⊥

-- a packet wasn't answered, by the fault: it hasn't come to the broker, since numbers or memory ran out; or it has
-- come, and the connector is gone
abbrev pub IsUnanswered : Packet → BrokerCore → RunFault → BrokerCore → Type 0
IsUnanswered packet old PeerGone new =
    (((old.publishes ≡ max_64) ⊎ (old.accepted ≡ max_64)) × (new ≡ record old { publishes = new.publishes }))
    ⊎ (new ≡ record (with_coming packet old) { confirms = old.confirms })
IsUnanswered packet old OutOfMemory new = new ≡ with_counted packet old
IsUnanswered packet old (Store why) new = ⊥
IsUnanswered packet old SessionsExhausted new = ⊥
IsUnanswered packet old NotOneSystem new = ⊥
IsUnanswered packet old StartNotAllowed new = ⊥

-- the next delivery of a queue wasn't sent, by the fault: the subscriber is gone, and the queue has gone on without it;
-- or there was no memory for it, and nothing has changed
abbrev pub DeliversSoFar : ℕ → BrokerState → Consumer → RunFault → BrokerState → Consumer → Type 0
DeliversSoFar number old c PeerGone new after =
    (is_some (next_delivery (queue_of old number)) ≡ true)
    × (new ≡ with_queue number (with_delivery (next_delivery (queue_of old number)) (queue_of old number)) old)
    × (after.link ≡ c.link)
DeliversSoFar number old c OutOfMemory new after = (new ≡ old) × (after ≡ c)
DeliversSoFar number old c (Store why) new after = ⊥
DeliversSoFar number old c SessionsExhausted new after = ⊥
DeliversSoFar number old c NotOneSystem new after = ⊥
DeliversSoFar number old c StartNotAllowed new after = ⊥

-- delivery from a queue has stopped: the queue has the items that it had, and what was sent from it is a replay of
-- them. If memory ran out, exactly what it has delivered was sent
pub record IsStuck (number prefetch : ℕ) (old : BrokerState) (c : Consumer) (fault : RunFault) (new : BrokerState)
    (after : Consumer) : Type 0 where
  pub queue : QueueState
  pub binding : queue.binding ≡ (queue_of old number).binding
  pub items : queue.items ≡ (queue_of old number).items
  pub broker : new ≡ with_queue number queue old
  pub link : after.link.link ≡ c.link.link
  pub served : (acks : ℕ) → IsConsumerServed false prefetch acks (queue_of old number) c → IsServedSoFar queue after
  pub memory : fault ≡ OutOfMemory → (acks : ℕ) → IsConsumerServed false prefetch acks (queue_of old number) c
      → HasDelivered queue (deliveries_in after.link.sent)

-- a part of a turn that receives nothing has failed: how far the actor has come by then
pub record IsCutOff (old : BrokerCore) (fault : RunFault) (new : BrokerCore) : Type 0 where
  pub links : HasSameLinks old new
  pub plan : new.plan ≡ old.plan
  pub finished : new.finished ≡ old.finished
  pub inbox : new.inbox ≡ old.inbox
  pub so_far : IsBrokerSoFar new
  pub memory : fault ≡ OutOfMemory → (so_far.unsent ≡ []) × AreDelivered new

-- some of the subscribers were sent their last message, and the others weren't
pub record AreStopping (old new : List Consumer) : Type 0 where
  pub many : length new ≡ length old
  pub links : map (λ c. c.link.link) new ≡ map (λ c. c.link.link) old
  pub each : (place : ℕ) (c : Consumer) → slice_get new place ≡ Some c
      → (before : Consumer) × ((slice_get old place ≡ Some before) × ((c ≡ before) ⊎ (c ≡ with_stop before)))
