-- What a subscriber actor has received from the broker, what its subscriber has taken of that, and what was
-- acknowledged.
pub mod SoFar
use Rattle.std.specs.Prelude.{◌≡◌, ℕ, ◌<◌, ◌&&◌, nat_le, nat_lt, Bool, true, false, Option, Some, None, List, [], ◌∷◌, ◌++◌, fold, length, map, if◌then◌else◌}
use Rattle.std.specs.List.{filter_map}
use Rattle.cdc_broker_actors.specs.declared.subscriber.arrivals.Arrival.{Arrival}
use Rattle.cdc_broker_actors.specs.declared.subscriber.parts.SubscriberParts.{SubscriberParts}
use Rattle.cdc_laws.specs.Receiving.{HasTaken}
use Rattle.cdc_links.specs.Links.{Incoming, Outgoing, of_sender, with_received, with_sent}
use Rattle.cdc_message.specs.declared.items.Delivery.{Delivery}
use Rattle.cdc_message.specs.declared.items.Item.{Item}
use Rattle.cdc_message.specs.declared.items.Item.TheVariants.{EndMark, Event}
use Rattle.cdc_subscriber.specs.Reception.{Reception, applied_of, has_ended, kept_of, next, nothing}
use Rattle.cdc_subscriber.specs.SubscriberState.{SubscriberState}
use Rattle.cdc_traffic.specs.Following.{FollowsToSubscriber}
use Rattle.cdc_traffic.specs.declared.messages.ToBroker.{ToBroker}
use Rattle.cdc_traffic.specs.declared.messages.ToBroker.TheVariants.{Ack as Acknowledges}
use Rattle.cdc_traffic.specs.declared.messages.ToSubscriber.{ToSubscriber}
use Rattle.cdc_traffic.specs.declared.messages.ToSubscriber.TheVariants.{Delivery as Carries, Stop}

-- a subscriber over its links: its number, what it has received and what it has acknowledged, what it keeps, after
-- how many events it is to close, whether the broker's last message has come, and what it was delivered until it closed
pub record SubscriberCore : Type 0 where
  pub number : ℕ
  pub inbox : Incoming ToSubscriber (Unit {0})
  pub acks : Outgoing ToBroker (Unit {0})
  pub subscriber : SubscriberState
  pub close_after : Option ℕ
  pub finished : Bool
  pub arrivals : List Arrival

-- ---- what its subscriber receives

-- a subscriber is asked to close; 0 asks for nothing
abbrev pub is_asked : Option ℕ → Bool
is_asked None = false
is_asked (Some n) = nat_lt 0 n

-- the subscriber has applied as many events as it was asked to close after
abbrev pub is_due : Option ℕ → Reception → Bool
is_due None reception = false
is_due (Some n) reception = is_asked (Some n) && nat_le n (length (applied_of reception))

-- closed, if it is due
abbrev pub closed_if : Bool → Reception → Reception
closed_if due reception = if due then record reception { closed = true } else reception

-- what the subscriber has received after one more delivery, closed if that is due then
abbrev pub received_after : Option ℕ → Reception → Delivery → Reception
received_after close_after reception d = closed_if (is_due close_after (next reception d.item)) (next reception d.item)

-- what it has received after these deliveries, taken one after another
abbrev pub received_by : Option ℕ → List Delivery → Reception
received_by close_after taken = fold (received_after close_after) nothing taken

-- ---- what it was delivered until it closed

-- the event of a delivery, by its timestamp; the end mark has none
abbrev pub event_named : Item → Option ℕ
event_named (Event e) = Some e.timestamp
event_named EndMark = None

-- a delivery by name: its position, and its event
abbrev pub arrival_of : Delivery → Arrival
arrival_of d = record { position = d.position; event = event_named d.item }

-- one more delivery, if the subscriber wasn't closed before it
abbrev pub arrival_if : Bool → Delivery → List Arrival
arrival_if closed d = if closed then [] else arrival_of d ∷ []

abbrev pub with_arrival : Bool → Delivery → List Arrival → List Arrival
with_arrival closed d arrivals = arrivals ++ arrival_if closed d

-- what a subscriber with this reception is delivered until it closes, by these deliveries, one after another: each that
-- comes while it isn't closed, so the one after which it closes is the last
abbrev pub arrivals_from : Option ℕ → Reception → List Delivery → List Arrival
arrivals_from close_after reception [] = []
arrivals_from close_after reception (d ∷ rest) =
    arrival_if reception.closed d ++ arrivals_from close_after (received_after close_after reception d) rest

-- the same of a new subscriber
abbrev pub arrivals_by : Option ℕ → List Delivery → List Arrival
arrivals_by close_after taken = arrivals_from close_after nothing taken

-- ---- what is received and sent

-- the delivery that a message brings
abbrev pub delivery_of : ToSubscriber → Option Delivery
delivery_of (Carries d) = Some d
delivery_of Stop = None

-- the deliveries that were received, in order
abbrev pub taken_by : Incoming ToSubscriber (Unit {0}) → List Delivery
taken_by inbox = filter_map (λ e. delivery_of e.1.0) inbox.received

-- the broker's last message, once the actor has finished
abbrev pub stop_if : Bool → List ToSubscriber
stop_if finished = if finished then Stop ∷ [] else []

-- the acknowledgement of a delivery, by the subscriber of this number
abbrev pub ack_of : ℕ → Delivery → ToBroker
ack_of number d = Acknowledges (record { subscriber = number; position = d.position })

-- a subscriber actor has received deliveries from the broker, and then, if it has finished, the last message. It has
-- acknowledged each delivery, in their order and nothing else. Its subscriber is in the state that these deliveries
-- lead to, and its arrivals are those of these deliveries that came before it closed
pub record IsSubscriberActor (c : SubscriberCore) : Type 0 where
  pub first : 0 < c.number
  pub own : c.acks.number ≡ c.number
  pub alone : c.inbox.senders ≡ 1
  pub of_broker : of_sender 0 c.inbox.received ≡ map (λ e. e.1) c.inbox.received
  pub came : map (λ e. e.1.0) c.inbox.received ≡ map Carries (taken_by c.inbox) ++ stop_if c.finished
  pub acknowledged : map (λ m. m.0) c.acks.sent ≡ map (ack_of c.number) (taken_by c.inbox)
  pub keeps : c.subscriber ≡ kept_of (received_by c.close_after (taken_by c.inbox))
  pub receives : HasTaken (received_by c.close_after (taken_by c.inbox)) (taken_by c.inbox)
  pub arrives : c.arrivals ≡ arrivals_by c.close_after (taken_by c.inbox)

-- nothing was received yet
abbrev pub first_subscriber : ℕ → Incoming ToSubscriber (Unit {0}) → Outgoing ToBroker (Unit {0}) → Option ℕ
    → SubscriberCore
first_subscriber number inbox acks close_after = record {
  number = number;
  inbox = inbox;
  acks = acks;
  subscriber = kept_of nothing;
  close_after = close_after;
  finished = false;
  arrivals = [];
}

-- what it holds, once it is taken apart
pub record ArePartsOf (c : SubscriberCore) (parts : SubscriberParts) : Type 0 where
  pub number_is : parts.number ≡ c.number
  pub inbox_is : parts.inbox ≡ c.inbox
  pub acks_are : parts.acks ≡ c.acks
  pub subscriber_is : parts.subscriber ≡ c.subscriber
  pub arrivals_are : parts.arrivals.items ≡ c.arrivals

-- ---- a turn

-- the broker's next message was received
pub record IsBrought (old : Incoming ToSubscriber (Unit {0})) (message : ToSubscriber)
    (new : Incoming ToSubscriber (Unit {0})) : Type 0 where
  pub follows : FollowsToSubscriber 0 (of_sender 0 old.received) (message, tt)
  pub after : new ≡ with_received old (0, (message, tt))

-- the actor, once it has received one more message: a delivery is taken and acknowledged
abbrev pub with_message : ToSubscriber → SubscriberCore → SubscriberCore
with_message (Carries d) c = record c {
  inbox = with_received c.inbox (0, (Carries d, tt));
  acks = with_sent c.acks (ack_of c.number d, tt);
  subscriber = kept_of (received_by c.close_after (taken_by c.inbox ++ d ∷ []));
  arrivals = arrivals_by c.close_after (taken_by c.inbox ++ d ∷ []);
}
with_message Stop c = record c { inbox = with_received c.inbox (0, (Stop, tt)); finished = true }

-- the broker's next message was received, and nothing has changed but what follows from it
pub record HasReceived (old new : SubscriberCore) : Type 0 where
  pub message : ToSubscriber
  pub brought : IsBrought old.inbox message new.inbox
  pub after : new ≡ with_message message old

-- ---- laws

-- the state that deliveries lead to is that of a subscriber which takes them one after another, whenever it closes
abbrev pub DeliveriesAreReceived : Type 0
DeliveriesAreReceived = (close_after : Option ℕ) (taken : List Delivery)
    → HasTaken (received_by close_after taken) taken

-- a subscriber that wasn't asked to close isn't closed
abbrev pub UnaskedStayOpen : Type 0
UnaskedStayOpen = (close_after : Option ℕ) (taken : List Delivery) → is_asked close_after ≡ false
    → (received_by close_after taken).closed ≡ false

-- it is closed exactly if it has applied this many events, no more, and hasn't received the end mark; otherwise it
-- has applied fewer
pub record ClosesAfter (n : ℕ) (reception : Reception) : Type 0 where
  pub shut : reception.closed ≡ true → (length (applied_of reception) ≡ n) × (has_ended reception ≡ false)
  pub open_yet : reception.closed ≡ false → length (applied_of reception) < n

-- so is one that was asked to close after a number of events
abbrev pub AskedClose : Type 0
AskedClose = (n : ℕ) (taken : List Delivery) → 0 < n → ClosesAfter n (received_by (Some n) taken)
