-- What subscribers may rely on wherever a run is cut off.
use Rattle.std.specs.Prelude.{◌≡◌, ℕ, ◌+◌, true, Some, map, slice_get}
use Rattle.cdc_laws.specs.Broker.{queue_of}
use Rattle.cdc_links.specs.Links.{CanSend, of_sender}
use Rattle.cdc_message.specs.Replays.{IsPrefix}
use Rattle.cdc_laws.specs.Reception.{Reception, kept_of}
use Rattle.cdc_laws.specs.Faithful.{IsFaithful}
use Rattle.cdc_traffic.specs.Following.{FollowsToConnector}
use Rattle.cdc_broker_actors.specs.Broker.{BrokerCore, IsBrokerActor}
use Rattle.cdc_broker_actors.specs.Broker.SoFar as broker
use Rattle.cdc_actors.specs.Connector.{ConnectorCore, IsAtStart, IsConnectorActor, origin_of}
use Rattle.cdc_actors.specs.SoFar as connector
use Rattle.cdc_ledger_actors.specs.Ledger.{IsLedgerActor, LedgerCore}
use Rattle.cdc_ledger_actors.specs.Ledger.SoFar as ledger
use Rattle.cdc_broker_actors.specs.Subscriber.{IsSubscriberActor, SubscriberCore}
use Rattle.cdc_broker_actors.specs.Subscriber.SoFar as subscriber
use Rattle.cdc_broker_actors.specs.declared.broker.consumers.Consumer.{Consumer}
use Rattle.cdc_end_laws.specs.Said.{AtAnyTime}

-- a ledger's actor, a connector and a broker at any time, whichever of them have failed. Over each link a prefix of
-- what was sent was received. The connector's store is honest, and the run began at its start
pub record AreCutOff (d : LedgerCore) (c : ConnectorCore) (b : BrokerCore) : Type 0 where
  pub ledger : AtAnyTime IsLedgerActor ledger.HasFailed d
  pub connector : AtAnyTime IsConnectorActor connector.HasFailed c
  pub broker : AtAnyTime IsBrokerActor broker.HasFailed b
  pub honest : c.honest ≡ true
  pub origin : IsAtStart (origin_of c)
  pub lawful : CanSend FollowsToConnector 0 d.connector.sent
  pub replies : IsPrefix (of_sender 0 c.inbox.received) d.connector.sent
  pub confirms : IsPrefix (of_sender 1 c.inbox.received) b.confirms.sent
  pub packets : IsPrefix (of_sender 0 b.inbox.received) c.packets.sent

-- a subscriber's actor at any time, over its link of a broker
pub record IsServed (consumer : Consumer) (s : SubscriberCore) : Type 0 where
  pub subscriber : AtAnyTime IsSubscriberActor subscriber.HasFailed s
  pub deliveries : IsPrefix (map (λ e. e.1) s.inbox.received) consumer.link.sent

-- against what the ledger's actor has of the ledger, the subscriber of a queue is faithful; and its state is that of
-- what it has received
pub record IsFaithfulSoFar (d : LedgerCore) (start : ℕ) (b : BrokerCore) (place : ℕ) (s : SubscriberCore)
    : Type 0 where
  pub reception : Reception
  pub faithful : IsFaithful d.ledger start (queue_of b.broker (place + 1)).binding reception
  pub keeps : s.subscriber ≡ kept_of reception

-- so is each subscriber of a run that was cut off
abbrev pub CutOffSubscribersAreFaithful : Type 0
CutOffSubscribersAreFaithful = (d : LedgerCore) (c : ConnectorCore) (b : BrokerCore) (place : ℕ) (consumer : Consumer)
    (s : SubscriberCore) → AreCutOff d c b → slice_get b.consumers place ≡ Some consumer → IsServed consumer s
    → IsFaithfulSoFar d (origin_of c).start b place s
