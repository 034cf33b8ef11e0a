-- How far the broker actor has come, whether it has met a fault or not.
use Rattle.std.specs.Prelude.{◌≡◌, ℕ, ◌+◌, ◌≤◌, Bool, Some, List, [], ◌++◌, length, map, slice_get}
use Rattle.cdc_broker.specs.Broker.{queue_of}
use Rattle.cdc_broker.specs.Queues.{QueueState}
use Rattle.cdc_broker_actors.specs.Broker.{BrokerCore, IsBrokerActor, as_confirm, as_sent, dealings, deliveries_in, stop_sent_if}
use Rattle.cdc_actor_work.specs.Packets.{packets_in}
use Rattle.cdc_broker_actors.specs.Broker.Turns.{HasSameLinks}
use Rattle.cdc_actor_work.specs.Faults.{IsTurnFault}
use Rattle.cdc_broker_actors.specs.declared.broker.consumers.Consumer.{Consumer}
use Rattle.cdc_actor_work.specs.declared.faults.RunFault.{RunFault}
use Rattle.cdc_actor_work.specs.declared.faults.RunFault.TheVariants.{OutOfMemory}
use Rattle.cdc_laws.specs.Brokers.{HasArrived, HasDelivered}
use Rattle.cdc_laws.specs.Deliveries.{deliveries}
use Rattle.cdc_links.specs.Links.{TakesMany, of_sender}
use Rattle.cdc_message.specs.Replays.{IsReplay}
use Rattle.cdc_message.specs.declared.packets.Confirm.{Confirm}
use Rattle.cdc_message.specs.declared.packets.Packet.{Packet}
use Rattle.cdc_traffic.specs.Following.{FollowsToBroker}

-- ---- at any time

-- what was sent to a subscriber: deliveries, which are a replay of its queue, and then its last message perhaps
pub record IsServedSoFar (q : QueueState) (c : Consumer) : Type 0 where
  pub broker : c.link.number ≡ 0
  pub stopped : Bool
  pub sent : c.link.sent ≡ map as_sent (deliveries_in c.link.sent) ++ stop_sent_if stopped
  pub replay : IsReplay (deliveries_in c.link.sent) (deliveries q.items)

-- with a fault or without one. The packets received have come to the broker, except possibly the last one. The broker
-- is what it took of those that have come, less those that were lost. Each of them was answered, in their order, and
-- nothing else was, except possibly the last one. Each subscriber was sent a replay of its queue
pub record IsBrokerSoFar (d : BrokerCore) : Type 0 where
  pub senders : d.inbox.senders ≡ length d.consumers + 1
  pub own : d.confirms.number ≡ 1
  pub queues : length d.broker.queues ≡ length d.consumers
  pub come : List Packet
  pub uncome : List Packet
  pub all : packets_in (of_sender 0 d.inbox.received) ≡ come ++ uncome
  pub confirms : List Confirm
  pub unsent : List Confirm
  pub answered : (dealings d.plan come).confirms ≡ confirms ++ unsent
  pub at_most_one : length uncome + length unsent ≤ 1
  pub arrived : HasArrived d.broker (dealings d.plan come).arrived (dealings d.plan come).confirms
  pub confirmed : d.confirms.sent ≡ map as_confirm confirms
  pub served : (place : ℕ) (c : Consumer) → slice_get d.consumers place ≡ Some c
      → IsServedSoFar (queue_of d.broker (place + 1)) c

-- ---- a turn that fails

-- each queue has delivered exactly what its subscriber was sent
abbrev pub AreDelivered : BrokerCore → Type 0
AreDelivered d = (place : ℕ) (c : Consumer) → slice_get d.consumers place ≡ Some c
    → HasDelivered (queue_of d.broker (place + 1)) (deliveries_in c.link.sent)

-- a failed turn keeps links, bindings and plan, and doesn't finish the actor. If memory runs out, nothing is half
-- sent
pub record HasFailed (old : BrokerCore) (fault : RunFault) (new : BrokerCore) : Type 0 where
  pub links : HasSameLinks old new
  pub plan : new.plan ≡ old.plan
  pub finished : new.finished ≡ old.finished
  pub inbox : (n : ℕ) × TakesMany FollowsToBroker n old.inbox new.inbox
  pub kind : IsTurnFault fault
  pub so_far : IsBrokerSoFar new
  pub memory : fault ≡ OutOfMemory → (so_far.unsent ≡ []) × AreDelivered new

-- ---- laws

-- this holds of the broker actor between two turns, as it does after a turn that has failed
abbrev pub BrokersComeSoFar : Type 0
BrokersComeSoFar = (d : BrokerCore) → IsBrokerActor d → IsBrokerSoFar d
