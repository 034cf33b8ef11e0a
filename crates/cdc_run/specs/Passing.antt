-- What is left of the actors between the ledger and the subscribers of a run, once all have finished and each link
-- was settled.
use Rattle.std.specs.Prelude.{◌≡◌, ℕ, ◌+◌, true, Option, Some, List, ◌++◌, slice_get}
use Rattle.cdc_broker.specs.Broker.{queue_of}
use Rattle.cdc_broker_actors.specs.Broker.{BrokerCore, IsBrokerActor, dealings_of}
use Rattle.cdc_connector_actor.specs.Connector.{IsAtStart, IsConnectorActor, ConnectorCore, connector_of, origin_of}
use Rattle.cdc_ledger_actors.specs.Ledger.{LedgerCore, IsLedgerActor, past_of_inbox}
use Rattle.cdc_broker_actors.specs.Subscriber.{SubscriberCore, IsSubscriberActor}
use Rattle.cdc_broker_actors.specs.declared.broker.consumers.Consumer.{Consumer}
use Rattle.cdc_links.specs.Links.{CanSend, of_sender}
use Rattle.cdc_laws.specs.Courses.{Course}
use Rattle.cdc_subscriber.specs.Reception.{Reception, kept_of}
use Rattle.cdc_traffic.specs.Following.{FollowsToConnector}
use Rattle.cdc_traffic.specs.declared.messages.ToBroker.{ToBroker}
use Rattle.cdc_traffic.specs.declared.messages.ToConnector.{ToConnector}
use Rattle.cdc_traffic.specs.declared.pasts.Past.{Past}
use Rattle.cdc_run.specs.SettledLinks.{IsAccounted}
use Rattle.cdc_run.specs.Subscribing.{HasCome, HasPassed, Passage}

-- a ledger actor, a connector and a broker that have finished, wired together, with what was left in the links to the
-- connector and to the broker. The run began at its start
pub record AreThrough (d : LedgerCore) (c : ConnectorCore) (b : BrokerCore) : Type 0 where
  pub core : IsLedgerActor d
  pub connector : IsConnectorActor c
  pub over : c.finished ≡ true
  pub origin : IsAtStart (origin_of c)
  pub broker : IsBrokerActor b
  pub finished : b.finished ≡ true
  pub lawful : CanSend FollowsToConnector 0 d.connector.sent
  pub left_of_replies : List (ℕ × (ToConnector × Option Past))
  pub replies : of_sender 0 (c.inbox.received ++ left_of_replies) ≡ d.connector.sent
  pub confirms : of_sender 1 (c.inbox.received ++ left_of_replies) ≡ b.confirms.sent
  pub left_of_packets : List (ℕ × (ToBroker × Unit {0}))
  pub packets : of_sender 0 (b.inbox.received ++ left_of_packets) ≡ c.packets.sent

-- what went between them
abbrev pub passage_of : LedgerCore → ConnectorCore → BrokerCore → Course → Passage
passage_of d c b course = record {
  past = past_of_inbox d.inbox;
  sent = d.connector.sent;
  received = of_sender 0 c.inbox.received;
  connector = connector_of c (Some course);
  course = course;
  broker = b.broker;
  arrived = (dealings_of b).arrived;
  confirms = (dealings_of b).confirms;
}

-- a subscriber that has finished, over its link of a broker
pub record HasStopped (consumer : Consumer) (s : SubscriberCore) : Type 0 where
  pub is : IsSubscriberActor s
  pub finished : s.finished ≡ true
  pub account : IsAccounted s.inbox consumer.link

-- against the ledger of a ledger's actor after this start, the subscriber of this queue has come so far, and its state
-- is what is kept of that
pub record ComesOf (d : LedgerCore) (start : ℕ) (b : BrokerCore) (place : ℕ) (s : SubscriberCore) : Type 0 where
  pub reception : Reception
  pub come : HasCome d.ledger start (queue_of b.broker (place + 1)).binding s.close_after reception
  pub keeps : s.subscriber ≡ kept_of reception

-- ---- laws

-- the actors of a run that have finished have kept to their parts
abbrev pub EndsPass : Type 0
EndsPass = (d : LedgerCore) (c : ConnectorCore) (b : BrokerCore) → AreThrough d c b
    → (course : Course) × HasPassed (passage_of d c b course)

-- and each subscriber has come to what it may rely on
abbrev pub EndsCome : Type 0
EndsCome = (d : LedgerCore) (c : ConnectorCore) (b : BrokerCore) (place : ℕ) (consumer : Consumer) (s : SubscriberCore)
    → AreThrough d c b → slice_get b.consumers place ≡ Some consumer → HasStopped consumer s
    → ComesOf d (origin_of c).start b place s
