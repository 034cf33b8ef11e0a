-- What goes from the ledger to the subscribers of a run, put together once all have finished.
use Rattle.std.specs.Prelude.{◌≡◌, ℕ, ◌+◌, true, Option, List, [], ◌∷◌, ◌++◌, All, length, map}
use Rattle.std.specs.List.{AllZip}
use Rattle.cdc_broker_actors.specs.Broker.{BrokerCore}
use Rattle.cdc_connector_actor.specs.Connector.{IsAtStart, IsConnectorActor, ConnectorCore, origin_of}
use Rattle.cdc_ledger_actors.specs.Ledger.{LedgerCore, IsLedgerActor}
use Rattle.cdc_broker_actors.specs.Subscriber.{SubscriberCore}
use Rattle.cdc_actors.specs.Ends.{ActorState}
use Rattle.cdc_links.specs.Links.{Incoming, Outgoing, of_sender}
use Rattle.cdc_traffic.specs.declared.messages.ToBroker.{ToBroker}
use Rattle.cdc_traffic.specs.declared.messages.ToConnector.{ToConnector}
use Rattle.cdc_traffic.specs.declared.pasts.Past.{Past}
use Rattle.cdc_run.specs.SettledLinks.{IsOnlySender}
use Rattle.cdc_run.specs.Passing.{ComesOf}
use Rattle.cdc_run.specs.Parts.{works_of}

-- the endpoints of a connector's links
pub record Middle : Type 0 where
  pub inbox : Incoming ToConnector (Option Past)
  pub replies : Outgoing ToConnector (Option Past)
  pub packets : Outgoing ToBroker (Unit {0})

-- they are wired to a broker actor, and that one to subscribers: the ledger and the broker send to the connector, the
-- connector and the subscribers to the broker, and the broker to each subscriber over that subscriber's link
pub record AreJoined (m : Middle) (b : BrokerCore) (subscribers : List (ActorState SubscriberCore)) : Type 0 where
  pub two : m.inbox.senders ≡ 2
  pub replies : m.replies.link ≡ m.inbox.link
  pub confirms : b.confirms.link ≡ m.inbox.link
  pub packets : m.packets.link ≡ b.inbox.link
  pub acks : All (λ s. s.work.acks.link ≡ b.inbox.link) subscribers
  pub inboxes : length subscribers ≡ length b.consumers
      → AllZip IsOnlySender (map (λ s. s.inbox) (works_of subscribers)) (map (λ c. c.link) b.consumers)

-- they are those of a ledger actor and of a connector that has finished. The run began at its start
pub record AreLeftBy (d : LedgerCore) (c : ConnectorCore) (m : Middle) : Type 0 where
  pub core : IsLedgerActor d
  pub connector : IsConnectorActor c
  pub over : c.finished ≡ true
  pub origin : IsAtStart (origin_of c)
  pub inbox : c.inbox ≡ m.inbox
  pub replies : d.connector ≡ m.replies
  pub packets : c.packets ≡ m.packets

-- with what was left in the link to the broker, what it has received of the connector is what that has sent
pub record ArePacketsTo (inbox : Incoming ToBroker (Unit {0})) (sent : List (ToBroker × Unit {0})) : Type 0 where
  pub left : List (ℕ × (ToBroker × Unit {0}))
  pub packets : of_sender 0 (inbox.received ++ left) ≡ sent

-- the subscribers from this place on have come to what they may rely on after this start
abbrev pub AllCome : LedgerCore → ℕ → BrokerCore → ℕ → List SubscriberCore → Type 0
AllCome d start b place [] = Unit {0}
AllCome d start b place (s ∷ subscribers) = ComesOf d start b place s × AllCome d start b (place + 1) subscribers
