-- Which links each actor of a run is wired to.
use Rattle.std.specs.Prelude.{◌≡◌, ℕ, ◌-◌, Some, List, All, slice_get}
use Rattle.cdc_links.specs.Links.{LinkId}
use Rattle.cdc_ledger_actors.specs.Seats.{ClientSeat, LedgerSeat, client_seat, ledger_seat}
use Rattle.cdc_connector_actor.specs.Seats.{ConnectorSeat, connector_seat}
use Rattle.cdc_broker_actors.specs.Seats.{BrokerSeat, SubscriberSeat, broker_seat, subscriber_seat}
use Rattle.cdc_run.specs.declared.ends.Ends.{Ends}
use Rattle.cdc_traffic.specs.declared.messages.ToBroker.{ToBroker}
use Rattle.cdc_traffic.specs.declared.messages.ToConnector.{ToConnector}
use Rattle.cdc_traffic.specs.declared.messages.ToLedger.{ToLedger}
use Rattle.cdc_traffic.specs.declared.messages.ToSubscriber.{ToSubscriber}
use Rattle.cdc_traffic.specs.declared.requests.Reply.{Reply}

-- the links of a system: those that lead to the ledger, to the connector and to the broker, and by place the one that
-- leads to each client and to each subscriber
pub record Wiring : Type 0 where
  pub to_ledger : LinkId ToLedger
  pub to_connector : LinkId ToConnector
  pub to_broker : LinkId ToBroker
  pub to_clients : List (LinkId Reply)
  pub to_subscribers : List (LinkId ToSubscriber)

-- the ledger receives over its link, replies to each client over that one's, and to the connector
pub record LedgerSits (w : Wiring) (seat : LedgerSeat) : Type 0 where
  pub inbox : seat.inbox ≡ w.to_ledger
  pub clients : seat.clients ≡ w.to_clients
  pub connector : seat.connector ≡ w.to_connector

-- a client asks the ledger, and is answered over the link of its number, which counts from 1
pub record ClientSits (w : Wiring) (seat : ClientSeat) : Type 0 where
  pub requests : seat.requests ≡ w.to_ledger
  pub answers : slice_get w.to_clients (seat.number - 1) ≡ Some seat.answers

-- the connector receives over its link, polls the ledger and publishes to the broker
pub record ConnectorSits (w : Wiring) (seat : ConnectorSeat) : Type 0 where
  pub inbox : seat.inbox ≡ w.to_connector
  pub polls : seat.polls ≡ w.to_ledger
  pub packets : seat.packets ≡ w.to_broker

-- the broker receives over its link, confirms to the connector, and delivers to each subscriber over that
-- subscriber's link
pub record BrokerSits (w : Wiring) (seat : BrokerSeat) : Type 0 where
  pub inbox : seat.inbox ≡ w.to_broker
  pub confirms : seat.confirms ≡ w.to_connector
  pub subscribers : seat.subscribers ≡ w.to_subscribers

-- a subscriber acknowledges to the broker, and receives deliveries over the link of its number, which counts from 1
pub record SubscriberSits (w : Wiring) (seat : SubscriberSeat) : Type 0 where
  pub acks : seat.acks ≡ w.to_broker
  pub inbox : slice_get w.to_subscribers (seat.number - 1) ≡ Some seat.inbox

-- each actor is where the wiring of its own system has it. So actors of several systems may be among them, if those
-- have different numbers
pub record AreSeated {S : Type 0} (wiring : ℕ → Wiring) (ends : Ends S) : Type 0 where
  pub ledger : LedgerSits (wiring ends.ledger.system) (ledger_seat ends.ledger.work)
  pub clients : All (λ c. ClientSits (wiring c.system) (client_seat c.work)) ends.clients.items
  pub connector : ConnectorSits (wiring ends.connector.system) (connector_seat ends.connector.work)
  pub broker : BrokerSits (wiring ends.broker.system) (broker_seat ends.broker.work)
  pub subscribers : All (λ s. SubscriberSits (wiring s.system) (subscriber_seat s.work)) ends.subscribers.items
