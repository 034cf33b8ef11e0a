-- What the broker actor has made of the packets that came to it, and what it has delivered to each subscriber.
pub mod Fails
pub mod SoFar
pub mod Steps
pub mod Turns
use Rattle.std.specs.Prelude.{◌≡◌, ◌==◌, ◌&&◌, ℕ, ◌+◌, ◌<◌, ◌≤◌, Bool, true, false, Option, Some, None, List, [], ◌∷◌, ◌++◌, filter_map, fold, length, map, slice_get, if◌then◌else◌}
use Rattle.std.specs.List.{list_all, list_any}
use Rattle.cdc_broker.specs.Broker.{BrokerState, queue_of}
use Rattle.cdc_broker.specs.Packets.{is_taken, items_of}
use Rattle.cdc_broker.specs.Queues.{QueueState, next_delivery}
use Rattle.cdc_actor_work.specs.Packets.{packets_in}
use Rattle.cdc_broker_actors.specs.declared.broker.plans.BrokerPlan.{BrokerPlan}
use Rattle.cdc_broker_actors.specs.declared.broker.consumers.Consumer.{Consumer}
use Rattle.cdc_laws.specs.Arrivals.{AreAmong, taken_of}
use Rattle.cdc_laws.specs.Brokers.{HasArrived, HasDelivered}
use Rattle.cdc_laws.specs.Takings.{session_of}
use Rattle.cdc_links.specs.Links.{Incoming, Outgoing, of_sender}
use Rattle.cdc_message.specs.declared.items.Delivery.{Delivery}
use Rattle.cdc_message.specs.declared.packets.Answer.{Answer}
use Rattle.cdc_message.specs.declared.packets.Answer.TheVariants.{Connected, Confirmed, Ignored, Broken}
use Rattle.cdc_message.specs.declared.packets.Confirm.{Confirm}
use Rattle.cdc_message.specs.declared.packets.Packet.{Packet}
use Rattle.cdc_message.specs.declared.packets.Packet.TheVariants.{Connect, Publish}
use Rattle.cdc_traffic.specs.Following.{ends_to_broker, has_ended}
use Rattle.cdc_traffic.specs.declared.messages.ToBroker.{ToBroker}
use Rattle.cdc_traffic.specs.declared.messages.ToConnector.{ToConnector}
use Rattle.cdc_traffic.specs.declared.messages.ToConnector.TheVariants as to_connector
use Rattle.cdc_traffic.specs.declared.messages.ToSubscriber.{ToSubscriber}
use Rattle.cdc_traffic.specs.declared.messages.ToSubscriber.TheVariants as to_subscriber
use Rattle.cdc_traffic.specs.declared.pasts.Past.{Past}

-- ---- packets

-- a plan names this number, once or more often
abbrev pub is_listed : List ℕ → ℕ → Bool
is_listed numbers n = list_any (λ m. m == n) numbers

-- how many publishes there are with this packet, after so many before it
abbrev pub counted : ℕ → Packet → ℕ
counted n (Connect session) = n
counted n (Publish session tag item) = n + 1

-- the plan loses a packet that comes after so many publishes: it names a publish by its place among them, from 1
abbrev pub is_lost : BrokerPlan → ℕ → Packet → Bool
is_lost plan publishes (Connect session) = false
is_lost plan publishes (Publish session tag item) = is_listed plan.lose_publish.items (publishes + 1)

-- the answer to a packet that was taken, after so many accepted publishes. The plan names a publish whose confirm is
-- lost by its place among the accepted ones, from 1
abbrev pub taken_answer : BrokerPlan → ℕ → Packet → Answer
taken_answer plan accepted (Connect session) = Connected
taken_answer plan accepted (Publish session tag item) =
    if is_listed plan.lose_confirm.items (accepted + 1) then Broken else Confirmed tag

-- the answer as a confirm of the packet's session
abbrev pub confirm_of : Packet → Answer → Confirm
confirm_of (Connect session) answer = record { session = session; answer = answer }
confirm_of (Publish session tag item) answer = record { session = session; answer = answer }

-- what a broker makes of packets: how many publishes are among them, which packets aren't lost, and its confirms
pub record Dealings : Type 0 where
  pub publishes : ℕ
  pub arrived : List Packet
  pub confirms : List Confirm

abbrev pub no_dealings : Dealings
no_dealings = record { publishes = 0; arrived = []; confirms = [] }

-- the answer to a packet that isn't lost, after these were taken
abbrev pub answer_after : BrokerPlan → List Packet → Packet → Answer
answer_after plan taken packet =
    if is_taken taken packet then taken_answer plan (length (items_of taken)) packet else Ignored

-- one more packet: it is answered, and arrives unless it is lost
abbrev pub with_packet : BrokerPlan → Dealings → Packet → Dealings
with_packet plan d packet = if is_lost plan d.publishes packet
    then record {
      publishes = counted d.publishes packet;
      arrived = d.arrived;
      confirms = d.confirms ++ confirm_of packet Broken ∷ [];
    }
    else record {
      publishes = counted d.publishes packet;
      arrived = d.arrived ++ packet ∷ [];
      confirms = d.confirms ++ confirm_of packet (answer_after plan (taken_of d.arrived) packet) ∷ [];
    }

-- packets that come one after another
abbrev pub dealings : BrokerPlan → List Packet → Dealings
dealings plan packets = fold (with_packet plan) no_dealings packets

-- a confirm as it is sent: it names no past
abbrev pub as_confirm : Confirm → ToConnector × Option Past
as_confirm confirm = (to_connector.Confirm confirm, None)

-- ---- deliveries

-- the delivery of a message, if it has one, and those of the messages that were sent
abbrev pub delivery_in : ToSubscriber → Option Delivery
delivery_in (to_subscriber.Delivery delivery) = Some delivery
delivery_in to_subscriber.Stop = None

abbrev pub deliveries_in : List (ToSubscriber × Unit {0}) → List Delivery
deliveries_in sent = filter_map (λ m. delivery_in m.0) sent

-- a delivery as it is sent
abbrev pub as_sent : Delivery → ToSubscriber × Unit {0}
as_sent delivery = (to_subscriber.Delivery delivery, tt)

-- the last message to a subscriber, once the broker actor has finished
abbrev pub stop_sent_if : Bool → List (ToSubscriber × Unit {0})
stop_sent_if finished = if finished then (to_subscriber.Stop, tt) ∷ [] else []

-- what was sent to a subscriber whose queue received so many acknowledgements: deliveries, and the last message once
-- the broker actor has finished. The queue has delivered them. All but at most `prefetch` of them are acknowledged
pub record IsConsumerServed (finished : Bool) (prefetch acks : ℕ) (q : QueueState) (c : Consumer) : Type 0 where
  pub broker : c.link.number ≡ 0
  pub sent : c.link.sent ≡ map as_sent (deliveries_in c.link.sent) ++ stop_sent_if finished
  pub delivered : HasDelivered q (deliveries_in c.link.sent)
  pub greatest : c.delivered ≡ q.delivered
  pub copies : length (deliveries_in c.link.sent) ≡ c.unacked + acks
  pub at_most : c.unacked ≤ prefetch

-- ---- the broker actor

-- the broker actor without its faults: its inbox; the confirms that it has sent; its subscribers, by place; the
-- broker; its planned faults; how many copies of a queue may be without an acknowledgement; how many publishes it has
-- received, and how many of them it has accepted; whether the connector is done; and whether all is done
pub record BrokerCore : Type 0 where
  pub inbox : Incoming ToBroker (Unit {0})
  pub confirms : Outgoing ToConnector (Option Past)
  pub consumers : List Consumer
  pub broker : BrokerState
  pub plan : BrokerPlan
  pub prefetch : ℕ
  pub publishes : ℕ
  pub accepted : ℕ
  pub connector_done : Bool
  pub finished : Bool

-- what it has made of the packets that it has received
abbrev pub dealings_of : BrokerCore → Dealings
dealings_of d = dealings d.plan (packets_in (of_sender 0 d.inbox.received))

-- how many acknowledgements it has received of the subscriber at a place
abbrev pub acks_at : BrokerCore → ℕ → ℕ
acks_at d place = length (of_sender (place + 1) d.inbox.received)

-- what holds of it also in the middle of a turn. The broker is what it took of the packets received, less those that
-- were lost. Each packet received was answered, and nothing else was. Each subscriber was sent what its queue has
-- delivered
pub record IsBrokerCore (d : BrokerCore) : Type 0 where
  pub senders : d.inbox.senders ≡ length d.consumers + 1
  pub own : d.confirms.number ≡ 1
  pub queues : length d.broker.queues ≡ length d.consumers
  pub some : 0 < d.prefetch
  pub few : d.prefetch ≤ 64
  pub arrived : HasArrived d.broker (dealings_of d).arrived (dealings_of d).confirms
  pub confirmed : d.confirms.sent ≡ map as_confirm (dealings_of d).confirms
  pub publishes : d.publishes ≡ (dealings_of d).publishes
  pub accepted : d.accepted ≡ length (items_of (taken_of (dealings_of d).arrived))
  pub connector : d.connector_done ≡ has_ended ends_to_broker (of_sender 0 d.inbox.received)
  pub served : (place : ℕ) (c : Consumer) → slice_get d.consumers place ≡ Some c
      → IsConsumerServed d.finished d.prefetch (acks_at d place) (queue_of d.broker (place + 1)) c

-- the connector is done, and no copy is without an acknowledgement
abbrev pub is_over : BrokerCore → Bool
is_over d = d.connector_done && list_all (λ c. c.unacked == 0) d.consumers

-- the actor has finished with one of its subscribers: all items of its queue were delivered, and each copy was
-- acknowledged
pub record IsWhole (acks : ℕ) (q : QueueState) (c : Consumer) : Type 0 where
  pub delivered : q.delivered ≡ length q.items
  pub acknowledged : length (deliveries_in c.link.sent) ≡ acks

-- between two turns each queue has delivered what it may: until `prefetch` copies are without an acknowledgement, or
-- all up to its cursor. The actor has finished exactly if all is over, and then it has finished with each subscriber
pub record IsBrokerActor (d : BrokerCore) : Type 0 where
  pub core : IsBrokerCore d
  pub eager : (place : ℕ) (c : Consumer) → slice_get d.consumers place ≡ Some c → c.unacked < d.prefetch
      → next_delivery (queue_of d.broker (place + 1)) ≡ None
  pub over : d.finished ≡ is_over d
  pub whole : (place : ℕ) (c : Consumer) → slice_get d.consumers place ≡ Some c → d.finished ≡ true
      → IsWhole (acks_at d place) (queue_of d.broker (place + 1)) c

-- ---- laws

-- what arrives is of what was received
abbrev pub ArrivedWasReceived : Type 0
ArrivedWasReceived = (plan : BrokerPlan) (packets : List Packet) → AreAmong (dealings plan packets).arrived packets

-- each packet received is answered once, in their order, and the answer is of its session
abbrev pub EachPacketIsAnswered : Type 0
EachPacketIsAnswered = (plan : BrokerPlan) (packets : List Packet)
    → map (λ c. c.session) (dealings plan packets).confirms ≡ map session_of packets

-- if the plan loses no publish, all that was received arrives
abbrev pub UnlostArrives : Type 0
UnlostArrives = (plan : BrokerPlan) (packets : List Packet) → plan.lose_publish.items ≡ []
    → (dealings plan packets).arrived ≡ packets
