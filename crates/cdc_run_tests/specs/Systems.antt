-- Actors of one system, by their seats. Only the contracts of the settling tests' helpers use this.
use Rattle.std.specs.Prelude.{◌≡◌, ℕ, List, All, map}
use Rattle.cdc_actors.specs.Ends.{ActorState}
use Rattle.cdc_actors.specs.Seats.{ClientSeat, LedgerSeat, client_seat, ledger_seat}
use Rattle.cdc_run.specs.Seats.{ConnectorSeat, connector_seat}
use Rattle.cdc_broker_actors.specs.Seats.{BrokerSeat, SubscriberSeat, broker_seat, subscriber_seat}
use Rattle.cdc_run.specs.Wirings.{AreSeated, BrokerSits, ClientSits, ConnectorSits, LedgerSits, SubscriberSits, Wiring}
use Rattle.cdc_run.specs.declared.ends.Ends.{Ends}

-- an actor's place among systems: the number of its system, and its seat there
abbrev pub sits_at : {W Seat : Type 0} → (W → Seat) → ActorState W → ℕ × Seat
sits_at seat_of end = (end.system, seat_of end.work)

-- the seats of all actors of a run
pub record RunSeats : Type 0 where
  pub ledger : ℕ × LedgerSeat
  pub clients : List (ℕ × ClientSeat)
  pub connector : ℕ × ConnectorSeat
  pub broker : ℕ × BrokerSeat
  pub subscribers : List (ℕ × SubscriberSeat)

abbrev pub seats_of : {S : Type 0} → Ends S → RunSeats
seats_of ends = record {
  ledger = sits_at ledger_seat ends.ledger;
  clients = map (sits_at client_seat) ends.clients.items;
  connector = sits_at connector_seat ends.connector;
  broker = sits_at broker_seat ends.broker;
  subscribers = map (sits_at subscriber_seat) ends.subscribers.items;
}

-- all of one system, where its wiring has them
pub record AreOfSystem (system : ℕ) (seats : RunSeats) : Type 0 where
  pub wiring : Wiring
  pub ledger : LedgerSits wiring seats.ledger.1
  pub ledger_system : seats.ledger.0 ≡ system
  pub clients : All (λ c. (c.0 ≡ system) × ClientSits wiring c.1) seats.clients
  pub connector : ConnectorSits wiring seats.connector.1
  pub connector_system : seats.connector.0 ≡ system
  pub broker : BrokerSits wiring seats.broker.1
  pub broker_system : seats.broker.0 ≡ system
  pub subscribers : All (λ s. (s.0 ≡ system) × SubscriberSits wiring s.1) seats.subscribers

-- actors that may be passed to settle: each is where the wiring of its own system has it, whatever that is
abbrev pub MayBeSettled : {S : Type 0} → Ends S → Type 0
MayBeSettled ends = (wiring : ℕ → Wiring) × AreSeated wiring ends
