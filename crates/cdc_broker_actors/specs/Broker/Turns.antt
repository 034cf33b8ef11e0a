-- What a turn of the broker actor does: it receives and answers a message, and the queues deliver.
use Rattle.std.specs.Prelude.{◌≡◌, ◌==◌, ◌&&◌, ℕ, zero, suc, ◌+◌, ◌-◌, ◌<◌, max, nat_lt, Bool, true, false, Option, Some, None, List, [], length, map, slice_get, slice_set, if◌then◌else◌}
use Rattle.std.specs.List.{list_any}
use Rattle.cdc_broker.specs.Broker.{BrokerState, after_packet, queue_of, takes_packet, with_queue}
use Rattle.cdc_broker.specs.Queues.{QueueState, acknowledged, is_unknown, next_delivery, rewound_queue, with_delivery}
use Rattle.cdc_broker_actors.specs.Broker.{BrokerCore, taken_answer, as_confirm, as_sent, confirm_of, counted, is_lost, is_over}
use Rattle.cdc_broker_actors.specs.declared.broker.plans.BrokerPlan.{BrokerPlan}
use Rattle.cdc_broker_actors.specs.declared.broker.consumers.Consumer.{Consumer}
use Rattle.cdc_links.specs.Links.{Incoming, Outgoing, of_sender, with_received, with_sent}
use Rattle.cdc_message.specs.declared.items.Delivery.{Delivery}
use Rattle.cdc_message.specs.declared.packets.Answer.{Answer}
use Rattle.cdc_message.specs.declared.packets.Answer.TheVariants.{Ignored, Broken}
use Rattle.cdc_message.specs.declared.packets.Packet.{Packet}
use Rattle.cdc_traffic.specs.Following.{FollowsToBroker}
use Rattle.cdc_traffic.specs.declared.messages.Ack.{Ack}
use Rattle.cdc_traffic.specs.declared.messages.ToBroker.{ToBroker}
use Rattle.cdc_traffic.specs.declared.messages.ToBroker.TheVariants as to_broker
use Rattle.cdc_traffic.specs.declared.messages.ToConnector.{ToConnector}
use Rattle.cdc_traffic.specs.declared.messages.ToSubscriber.{ToSubscriber}
use Rattle.cdc_traffic.specs.declared.messages.ToSubscriber.TheVariants.{Stop}
use Rattle.cdc_traffic.specs.declared.pasts.Past.{Past}

-- ---- the first state

-- a subscriber to which nothing was sent
abbrev pub first_consumer : Outgoing ToSubscriber (Unit {0}) → Consumer
first_consumer link = record { link = link; unacked = 0; delivered = 0 }

-- nothing has come yet
abbrev pub first_broker : Incoming ToBroker (Unit {0}) → Outgoing ToConnector (Option Past)
    → List (Outgoing ToSubscriber (Unit {0})) → BrokerState → BrokerPlan → ℕ → BrokerCore
first_broker inbox confirms links broker plan prefetch = record {
  inbox = inbox;
  confirms = confirms;
  consumers = map first_consumer links;
  broker = broker;
  plan = plan;
  prefetch = prefetch;
  publishes = 0;
  accepted = 0;
  connector_done = false;
  finished = false;
}

-- the broker's endpoint, number 0, of a link on which nothing was sent
abbrev pub IsFreshLink : Outgoing ToSubscriber (Unit {0}) → Type 0
IsFreshLink link = (link.number ≡ 0) × (link.sent ≡ [])

-- ---- packets

-- a packet was answered so
abbrev pub answered : Packet → Answer → BrokerCore → BrokerCore
answered packet answer d = record d { confirms = with_sent d.confirms (as_confirm (confirm_of packet answer)) }

-- a packet is counted
abbrev pub with_counted : Packet → BrokerCore → BrokerCore
with_counted packet d = record d { publishes = counted d.publishes packet }

-- a packet is taken
abbrev pub with_taken : Packet → BrokerCore → BrokerCore
with_taken packet d =
    record d { broker = after_packet d.broker packet; accepted = counted d.accepted packet }

-- the broker takes a packet or passes it over, and this is its answer
abbrev pub admitted : Bool → Packet → BrokerCore → BrokerCore
admitted takes packet d = if takes then with_taken packet d else d

abbrev pub answer_if : Bool → Packet → BrokerCore → Answer
answer_if takes packet d = if takes then taken_answer d.plan d.accepted packet else Ignored

-- a packet comes: it is lost, and the answer is that it was; or it comes to the broker
abbrev pub coming_if : Bool → Bool → Packet → BrokerCore → BrokerCore
coming_if true takes packet d = answered packet Broken d
coming_if false takes packet d = answered packet (answer_if takes packet d) (admitted takes packet d)

abbrev pub with_coming : Packet → BrokerCore → BrokerCore
with_coming packet d =
    coming_if (is_lost d.plan d.publishes packet) (takes_packet d.broker packet) packet (with_counted packet d)

-- ---- deliveries

-- a queue with its subscriber
pub record Lane : Type 0 where
  pub queue : QueueState
  pub consumer : Consumer

-- the queue of this number and its subscriber
abbrev pub lane_of : BrokerState → ℕ → Consumer → Lane
lane_of b number c = record { queue = queue_of b number; consumer = c }

-- the plan has the queue of this number go back after this delivery, which is the first one of its position
abbrev pub goes_back : List (ℕ × ℕ) → ℕ → Consumer → Delivery → Bool
goes_back repeats number c d =
    nat_lt c.delivered d.position && list_any (λ r. (r.0 == number) && (r.1 == d.position)) repeats

-- a subscriber that was sent one more copy
abbrev pub with_copy : Delivery → Consumer → Consumer
with_copy d c = record {
  link = with_sent c.link (as_sent d);
  unacked = c.unacked + 1;
  delivered = max c.delivered d.position;
}

abbrev pub back_if : Bool → QueueState → QueueState
back_if goes q = if goes then rewound_queue q else q

-- a delivery, if there is one, is sent
abbrev pub with_next : List (ℕ × ℕ) → ℕ → Option Delivery → Lane → Lane
with_next repeats number None lane = lane
with_next repeats number (Some d) lane = record {
  queue = back_if (goes_back repeats number lane.consumer d) (with_delivery (Some d) lane.queue);
  consumer = with_copy d lane.consumer;
}

-- up to so many of the queue's next deliveries are sent
abbrev pub delivered_some : List (ℕ × ℕ) → ℕ → ℕ → Lane → Lane
delivered_some repeats number zero lane = lane
delivered_some repeats number (suc n) lane =
    delivered_some repeats number n (with_next repeats number (next_delivery lane.queue) lane)

-- the subscriber at a place and its queue are these now
abbrev pub with_lane : ℕ → Lane → BrokerCore → BrokerCore
with_lane place lane d = record d {
  broker = with_queue (place + 1) lane.queue d.broker;
  consumers = slice_set d.consumers place lane.consumer;
}

-- the queue at a place delivers while fewer than `prefetch` copies are without an acknowledgement
abbrev pub served_if : ℕ → Option Consumer → BrokerCore → BrokerCore
served_if place None d = d
served_if place (Some c) d =
    with_lane place
    (delivered_some d.plan.repeat.items (place + 1) (d.prefetch - c.unacked) (lane_of d.broker (place + 1) c)) d

abbrev pub with_served : ℕ → BrokerCore → BrokerCore
with_served place d = served_if place (slice_get d.consumers place) d

-- so do the first so many queues, one after another
abbrev pub all_served : ℕ → BrokerCore → BrokerCore
all_served zero d = d
all_served (suc n) d = with_served n (all_served n d)

-- ---- acknowledgements

-- a subscriber of which one more copy is acknowledged
abbrev pub with_one_fewer : Consumer → Consumer
with_one_fewer c = record c { unacked = c.unacked - 1 }

-- the subscriber at a place acknowledges a position
abbrev pub acked_if : ℕ → ℕ → Option Consumer → BrokerCore → BrokerCore
acked_if place position None d = d
acked_if place position (Some c) d =
    with_lane place
    (record { queue = acknowledged position (queue_of d.broker (place + 1)); consumer = with_one_fewer c }) d

abbrev pub with_ack : Ack → BrokerCore → BrokerCore
with_ack ack d =
    acked_if (ack.subscriber - 1) ack.position (slice_get d.consumers (ack.subscriber - 1)) d

-- an acknowledgement may come: the position was delivered, and some copy is without an acknowledgement
abbrev pub MayAck : Ack → BrokerCore → Type 0
MayAck ack d = (is_unknown (queue_of d.broker ack.subscriber) ack.position ≡ false)
    × ((c : Consumer) → slice_get d.consumers (ack.subscriber - 1) ≡ Some c → 0 < c.unacked)

-- ---- a turn

-- a message is received
abbrev pub with_message : ToBroker → BrokerCore → BrokerCore
with_message (to_broker.Packet packet) d = with_coming packet d
with_message to_broker.Finish d = record d { connector_done = true }
with_message (to_broker.Ack ack) d = with_ack ack d

abbrev pub reception : ℕ × (ToBroker × Unit {0}) → BrokerCore → BrokerCore
reception entry d = with_message entry.1.0 (record d { inbox = with_received d.inbox entry })

-- a message that may come; what isn't due is a fault
abbrev pub IsDue : ToBroker → BrokerCore → Type 0
IsDue (to_broker.Packet packet) d = Unit {0}
IsDue to_broker.Finish d = Unit {0}
IsDue (to_broker.Ack ack) d = MayAck ack d

-- a subscriber was sent the last message
abbrev pub with_stop : Consumer → Consumer
with_stop c = record c { link = with_sent c.link (Stop, tt) }

-- all are, if all is over
abbrev pub stopped_if : Bool → BrokerCore → BrokerCore
stopped_if over d = if over then record d { consumers = map with_stop d.consumers; finished = true } else d

abbrev pub stopped : BrokerCore → BrokerCore
stopped d = stopped_if (is_over d) d

-- a message that may come was received and handled
pub record HasReceivedNext (old new : BrokerCore) : Type 0 where
  pub entry : ℕ × (ToBroker × Unit {0})
  pub sender : entry.0 < old.inbox.senders
  pub follows : FollowsToBroker entry.0 (of_sender entry.0 old.inbox.received) entry.1
  pub due : IsDue entry.1.0 old
  pub after : new ≡ reception entry old

-- so many were, one after another
abbrev pub HasReceived : ℕ → BrokerCore → BrokerCore → Type 0
HasReceived zero old new = new ≡ old
HasReceived (suc n) old new = (mid : BrokerCore) × HasReceived n old mid × HasReceivedNext mid new

-- one was, and so many more; none more if the plan repeats deliveries, since a second message could acknowledge a
-- position that is about to be redelivered
pub record HasReceivedAll (old new : BrokerCore) : Type 0 where
  pub more : ℕ
  pub alone : 0 < length old.plan.repeat.items → more ≡ 0
  pub received : HasReceived (suc more) old new

-- messages that may come were received, one or more, and then all queues were served, and the last messages sent
pub record HasTurned (old new : BrokerCore) : Type 0 where
  pub received : BrokerCore
  pub has : HasReceivedAll old received
  pub after : new ≡ stopped (all_served (length old.consumers) received)

-- it works over the same links, by the same plan and prefetch, and its broker has the same bindings
pub record HasSameLinks (old new : BrokerCore) : Type 0 where
  pub inbox : new.inbox.link ≡ old.inbox.link
  pub confirms : new.confirms.link ≡ old.confirms.link
  pub consumers : map (λ c. c.link.link) new.consumers ≡ map (λ c. c.link.link) old.consumers
  pub bindings : map (λ q. q.binding) new.broker.queues ≡ map (λ q. q.binding) old.broker.queues
  pub plan : new.plan ≡ old.plan
  pub prefetch : new.prefetch ≡ old.prefetch

-- ---- what is left of the actor

-- these are its endpoints, and its broker
pub record ArePartsOf (d : BrokerCore) (inbox : Incoming ToBroker (Unit {0}))
    (confirms : Outgoing ToConnector (Option Past))
    (consumers : List Consumer) (broker : BrokerState) : Type 0 where
  pub inbox_is : inbox ≡ d.inbox
  pub confirms_are : confirms ≡ d.confirms
  pub consumers_are : consumers ≡ d.consumers
  pub broker_is : broker ≡ d.broker
