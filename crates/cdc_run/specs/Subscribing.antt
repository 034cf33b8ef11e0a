-- What the subscribers of a run come to, once all actors have finished.
use Rattle.std.specs.Prelude.{◌≡◌, ℕ, ◌<◌, ◌≤◌, true, false, Option, Some, List, Contains, length}
use Rattle.cdc_broker.specs.Broker.{BrokerState}
use Rattle.cdc_broker.specs.Queues.{QueueState}
use Rattle.cdc_broker_actors.specs.Subscriber.{received_by, is_asked}
use Rattle.cdc_laws.specs.Arrivals.{AreAmong}
use Rattle.cdc_laws.specs.Brokers.{HasArrived, HasDelivered}
use Rattle.cdc_laws.specs.Connectors.{ConnectorState, held_start}
use Rattle.cdc_laws.specs.Faithful.{IsFaithful, applied}
use Rattle.cdc_laws.specs.Line.{feed_after}
use Rattle.cdc_laws.specs.Readings.{KeepsToReadings}
use Rattle.cdc_ledger.specs.History.{History}
use Rattle.cdc_links.specs.Links.{CanSend}
use Rattle.cdc_match.specs.Arguments.{Arguments}
use Rattle.cdc_message.specs.declared.items.Delivery.{Delivery}
use Rattle.cdc_message.specs.declared.packets.Confirm.{Confirm}
use Rattle.cdc_message.specs.declared.packets.Packet.{Packet}
use Rattle.cdc_message.specs.Replays.{IsPrefix}
use Rattle.cdc_laws.specs.Courses.{Course, is_done}
use Rattle.cdc_subscriber.specs.Reception.{Reception, has_ended}
use Rattle.cdc_traffic.specs.Following.{FollowsToConnector, last_named}
use Rattle.cdc_traffic.specs.Laws.{readings_of}
use Rattle.cdc_traffic.specs.Pasts.{Continues, history_of}
use Rattle.cdc_traffic.specs.declared.messages.ToConnector.{ToConnector}
use Rattle.cdc_traffic.specs.declared.pasts.Past.{Past}

-- what went between ledger, connector and broker of a run that has finished: the ledger's past; what the ledger has
-- sent to the connector, and what of that was received; the connector, and the course of its last session; the
-- broker; the packets that arrived at it, and the confirms that it has sent
pub record Passage : Type 0 where
  pub past : Past
  pub sent : List (ToConnector × Option Past)
  pub received : List (ToConnector × Option Past)
  pub connector : ConnectorState
  pub course : Course
  pub broker : BrokerState
  pub arrived : List Packet
  pub confirms : List Confirm

-- this holds if each actor has kept to its part. What was received is a prefix of what was sent, and the ledger's
-- past continues the one that it named last. The connector keeps to what it was answered. Packets that arrived were
-- sent, and confirms that came were sent. The broker has taken and confirmed nothing else. The end mark of the
-- connector's last session is confirmed
pub record HasPassed (p : Passage) : Type 0 where
  pub lawful : CanSend FollowsToConnector 0 p.sent
  pub front : IsPrefix p.received p.sent
  pub goes_on : Continues (last_named p.sent) p.past
  pub keeps : KeepsToReadings (readings_of p.received) p.connector
  pub arrives : HasArrived p.broker p.arrived p.confirms
  pub packets : AreAmong p.arrived p.connector.sent
  pub answers : AreAmong p.connector.confirms p.confirms
  pub runs : p.connector.session ≡ Some p.course
  pub done : is_done p.course ≡ true

-- a subscriber that has ended, and isn't closed
pub record EndsOpen (reception : Reception) : Type 0 where
  pub ended : has_ended reception ≡ true
  pub not_closed : reception.closed ≡ false

-- a subscriber that is closed after exactly so many events, before its end
pub record ClosesWith (n : ℕ) (reception : Reception) : Type 0 where
  pub shut : reception.closed ≡ true
  pub not_ended : has_ended reception ≡ false
  pub count : length (applied reception) ≡ n

-- against the ledger of this history a subscriber is faithful after the start. If it wasn't asked to close, it has
-- ended and isn't closed. If it was asked to close after a number of events, it is closed with exactly that many
-- applied if its binding takes as many after the start; otherwise it has ended and isn't closed
pub record HasCome (h : History) (start : ℕ) (binding : Arguments) (close_after : Option ℕ)
    (reception : Reception) : Type 0 where
  pub faithful : IsFaithful h start binding reception
  pub unasked : is_asked close_after ≡ false → EndsOpen reception
  pub enough : (n : ℕ) → close_after ≡ Some n → 0 < n → n ≤ length (feed_after h start binding) → ClosesWith n reception
  pub too_few : (n : ℕ) → close_after ≡ Some n → 0 < n → length (feed_after h start binding) < n → EndsOpen reception

-- this holds of each subscriber that took all that its queue has delivered, if the whole queue was delivered, after
-- the start that the connector holds
abbrev pub SubscribersCome : Type 0
SubscribersCome = (p : Passage) (q : QueueState) (taken : List Delivery) (close_after : Option ℕ) → HasPassed p
    → Contains p.broker.queues q → HasDelivered q taken → q.delivered ≡ length q.items
    → HasCome (history_of p.past) (held_start p.connector.held) q.binding close_after (received_by close_after taken)
