-- What an actor has sent at any time, of what it owes for all that it has received: it lacks one message at most.
use Rattle.std.specs.Prelude.{◌≡◌, ◌⊎◌, ℕ, ◌+◌, ◌≤◌, ◌==◌, false, true, Some, List, ◌++◌, length, map, slice_get}
use Rattle.cdc_types.specs.declared.batches.Batch.{Batch}
use Rattle.cdc_laws.specs.Broker.{queue_of}
use Rattle.cdc_message.specs.declared.items.Delivery.{Delivery}
use Rattle.cdc_message.specs.Replays.{IsReplay}
use Rattle.cdc_laws.specs.Reception.{kept_of}
use Rattle.cdc_laws.specs.ConnectorRuns.{IsConnectorRun}
use Rattle.cdc_laws.specs.Deliveries.{deliveries}
use Rattle.cdc_links.specs.Links.{CanSend, Outgoing, of_sender}
use Rattle.cdc_traffic.specs.Following.{FollowsToConnector, last_named}
use Rattle.cdc_traffic.specs.Pasts.{history_of}
use Rattle.cdc_traffic.specs.declared.pasts.Past.{Past}
use Rattle.cdc_traffic.specs.declared.requests.Reply.{Reply}
use Rattle.cdc_broker_actors.specs.Broker.{BrokerCore, IsBrokerActor, as_confirm, dealings_of, deliveries_in}
use Rattle.cdc_broker_actors.specs.Broker.SoFar as broker
use Rattle.cdc_ledger_actors.specs.Client.{ClientCore, IsClient, requests_from}
use Rattle.cdc_ledger_actors.specs.Client.SoFar.{AsksSoFar}
use Rattle.cdc_actor_work.specs.Packets.{packets_in}
use Rattle.cdc_actors.specs.Connector.{ConnectorCore, IsAtStart, IsConnectorActor, confirms_in, origin_of}
use Rattle.cdc_actors.specs.SoFar as connector
use Rattle.cdc_ledger_actors.specs.Ledger.{IsLedgerActor, LedgerCore, order_of}
use Rattle.cdc_ledger_actors.specs.Ledger.SoFar as ledger
use Rattle.cdc_ledger_actors.specs.Orders.{batches_in, named_replies_to}
use Rattle.cdc_broker_actors.specs.Subscriber.{IsSubscriberActor, SubscriberCore, ack_of, received_by, taken_by}
use Rattle.cdc_broker_actors.specs.Subscriber.SoFar as subscriber
use Rattle.cdc_broker_actors.specs.declared.broker.consumers.Consumer.{Consumer}
use Rattle.cdc_actor_work.specs.declared.faults.RunFault.{RunFault}

-- this is all of a list but so many at most, from its end
pub record Lacks {X : Type 0} (n : ℕ) (some all : List X) : Type 0 where
  pub rest : List X
  pub whole : some ++ rest ≡ all
  pub few : length rest ≤ n

-- an actor at any time: this holds of it, as between two turns, or it held before a turn that has failed so
abbrev pub AtAnyTime : {C : Type 0} → (C → Type 0) → (C → RunFault → C → Type 0) → C → Type 0
AtAnyTime {C} Is HasFailed c = Is c ⊎ ((old : C) × (fault : RunFault) × (Is old × HasFailed old fault c))

-- ---- the ledger

-- its ledger is what all batches received make of it, but for the last one perhaps; and it has sent each client its
-- replies to all batches received, but for the last one perhaps
pub record HasLedgerSaid (d : LedgerCore) : Type 0 where
  pub taken : List Batch
  pub booked : Lacks 1 taken (batches_in (order_of d.inbox.received))
  pub ledger : d.ledger ≡ history_of (record { batches = taken; closed = d.clients_left == 0 })
  pub replied : (place : ℕ) (client : Outgoing Reply Past) → slice_get d.clients place ≡ Some client
      → Lacks 1 client.sent (named_replies_to (place + 1) (order_of d.inbox.received))

abbrev pub LedgersLackOne : Type 0
LedgersLackOne = (d : LedgerCore) → AtAnyTime IsLedgerActor ledger.HasFailed d → HasLedgerSaid d

-- ---- a client

-- a submission of one that hasn't finished has failed
abbrev pub SubmissionFails : ClientCore → RunFault → ClientCore → Type 0
SubmissionFails old fault new = (batch : Batch) × ((old.finished ≡ false) × AsksSoFar batch old fault new)

-- it has sent a request for each reply that it has kept, and one message more at most; and it has kept each reply that
-- it has received, but for the last one perhaps
pub record HasClientSaid (c : ClientCore) : Type 0 where
  pub asked : Lacks 1 (requests_from c.number 1 c.replies) (map (λ m. m.0) c.requests.sent)
  pub kept : Lacks 1 c.replies (map (λ e. e.1.0) c.answers.received)

abbrev pub ClientsLackOne : Type 0
ClientsLackOne = (c : ClientCore) → AtAnyTime IsClient SubmissionFails c → HasClientSaid c

-- ---- the connector

-- over an honest store, in a run that began at its start, its packets and the confirms that it has received are always
-- those of a connector run, of the history that the ledger's last reply names
abbrev pub ConnectorsKeepToRuns : Type 0
ConnectorsKeepToRuns = (c : ConnectorCore) → AtAnyTime IsConnectorActor connector.HasFailed c
    → CanSend FollowsToConnector 0 (of_sender 0 c.inbox.received) → c.honest ≡ true → IsAtStart (origin_of c)
    → IsConnectorRun (history_of (last_named (of_sender 0 c.inbox.received))) (origin_of c).start
    (packets_in c.packets.sent) (confirms_in (of_sender 1 c.inbox.received))

-- ---- the broker

-- it has confirmed all packets received, as its plan asks, but for the last one perhaps; and each subscriber was sent a
-- replay of its queue
pub record HasBrokerSaid (d : BrokerCore) : Type 0 where
  pub confirmed : Lacks 1 d.confirms.sent (map as_confirm (dealings_of d).confirms)
  pub delivered : (place : ℕ) (c : Consumer) → slice_get d.consumers place ≡ Some c
      → IsReplay (deliveries_in c.link.sent) (deliveries (queue_of d.broker (place + 1)).items)

abbrev pub BrokersLackOne : Type 0
BrokersLackOne = (d : BrokerCore) → AtAnyTime IsBrokerActor broker.HasFailed d → HasBrokerSaid d

-- ---- a subscriber

-- it has acknowledged all deliveries received, but for the last one perhaps; and its subscriber has taken them all, but
-- for the last one perhaps
pub record HasSubscriberSaid (c : SubscriberCore) : Type 0 where
  pub acknowledged : Lacks 1 (map (λ m. m.0) c.acks.sent) (map (ack_of c.number) (taken_by c.inbox))
  pub taken : List Delivery
  pub all : Lacks 1 taken (taken_by c.inbox)
  pub keeps : c.subscriber ≡ kept_of (received_by c.close_after taken)

abbrev pub SubscribersLackOne : Type 0
SubscribersLackOne = (c : SubscriberCore) → AtAnyTime IsSubscriberActor subscriber.HasFailed c → HasSubscriberSaid c
