-- What a subscriber receives of its deliveries, and the whole way of an item to it.
use Rattle.std.specs.Prelude.{◌≡◌, ℕ, false, List, take}
use Rattle.cdc_broker.specs.Broker.{BrokerState}
use Rattle.cdc_broker.specs.Queues.{QueueState}
use Rattle.cdc_ledger.specs.History.{History}
use Rattle.cdc_laws.specs.Arrivals.{AreAmong}
use Rattle.cdc_laws.specs.Brokers.{HasArrived, HasDelivered}
use Rattle.cdc_laws.specs.ConnectorRuns.{IsConnectorRun}
use Rattle.cdc_laws.specs.Deliveries.{items_in}
use Rattle.cdc_message.specs.declared.items.Delivery.{Delivery}
use Rattle.cdc_message.specs.declared.packets.Confirm.{Confirm}
use Rattle.cdc_message.specs.declared.packets.Packet.{Packet}
use Rattle.cdc_message.specs.Replays.{IsPrefix}
use Rattle.cdc_subscriber.specs.Reception.{Reception, has_ended}

-- a subscriber that took these deliveries one after another: it received the first ones of them, and all while it is
-- neither closed nor ended
pub record HasTaken (reception : Reception) (taken : List Delivery) : Type 0 where
  pub some : (n : ℕ) × (reception.items ≡ items_in (take n taken))
  pub all : reception.closed ≡ false → has_ended reception ≡ false → reception.items ≡ items_in taken

-- what went between a connector and a broker: the packets that the connector sent, those that arrived of them, the
-- confirms that the broker sent, and those that the connector received of them
pub record Traffic : Type 0 where
  pub sent : List Packet
  pub arrived : List Packet
  pub confirms : List Confirm
  pub received : List Confirm

-- it is that of a connector run over this history after the start, to this broker: what arrived was sent, whatever
-- was lost, duplicated or reordered on the way, and the confirms that the connector received were sent by the broker
pub record IsTrafficOf (h : History) (start : ℕ) (b : BrokerState) (t : Traffic) : Type 0 where
  pub run : IsConnectorRun h start t.sent t.received
  pub packets : AreAmong t.arrived t.sent
  pub answers : AreAmong t.received t.confirms
  pub broker : HasArrived b t.arrived t.confirms

-- a subscriber received this from a queue: it took a prefix of what the queue has delivered
pub record ReceivesFrom (q : QueueState) (reception : Reception) : Type 0 where
  pub out : List Delivery
  pub delivered : HasDelivered q out
  pub taken : List Delivery
  pub front : IsPrefix taken out
  pub receives : HasTaken reception taken
