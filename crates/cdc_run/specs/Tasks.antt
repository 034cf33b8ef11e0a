-- What each actor of a run leaves once it has worked, and how it may have stopped before that.
use Rattle.std.specs.Prelude.{◌≡◌, Bool, true, Some, List, [], ◌∷◌, ◌++◌, map}
use Rattle.std.specs.List.{AllZip}
use Rattle.cdc_broker_actors.specs.Broker.{BrokerCore, IsBrokerActor}
use Rattle.cdc_ledger_actors.specs.Client.{IsClient, ClientCore}
use Rattle.cdc_connector_actor.specs.Connector.{IsConnectorActor, ConnectorCore}
use Rattle.cdc_connector_actor.specs.Connector.SoFar.{IsFaultOf}
use Rattle.cdc_ledger_actors.specs.Ledger.{LedgerCore, IsLedgerActor, is_over}
use Rattle.cdc_broker_actors.specs.Subscriber.{SubscriberCore, IsSubscriberActor}
use Rattle.cdc_actors.specs.Stops.{StopState}
use Rattle.cdc_actor_work.specs.declared.faults.RunFault.{RunFault}
use Rattle.cdc_actors.specs.declared.met.Met.{Met}
use Rattle.cdc_actors.specs.declared.met.Met.TheVariants.{Fault, Unstarted}
use Rattle.cdc_actor_work.specs.declared.places.Place.{Place}
use Rattle.cdc_actor_work.specs.declared.places.Place.TheVariants as place
use Rattle.cdc_run.specs.Scripted.{ScriptedState}
use Rattle.cdc_ledger_actors.specs.Seats.{client_seat, ledger_seat}
use Rattle.cdc_connector_actor.specs.Seats.{connector_seat}
use Rattle.cdc_broker_actors.specs.Seats.{broker_seat, subscriber_seat}
use Rattle.cdc_actors.specs.Ends.{ActorState, has_finished}
use Rattle.cdc_actor_work.specs.Faults.{IsTurnFault}
use Rattle.cdc_run.specs.declared.ends.Ends.{Ends}
use Rattle.cdc_run.specs.declared.actors.Actor.{Actor}
use Rattle.cdc_run.specs.declared.actors.Actor.TheVariants as actor
use Rattle.cdc_run.specs.declared.tasks.Task.{Task}
use Rattle.cdc_run.specs.declared.tasks.Task.TheVariants as task
use Rattle.cdc_types.specs.declared.batches.Batch.{Batch}

-- ---- their places

-- the actors of a run, clients and subscribers by place
pub record Placed : Type 0 where
  pub ledger : ActorState LedgerCore
  pub clients : List (ActorState ClientCore)
  pub connector : ActorState ConnectorCore
  pub broker : ActorState BrokerCore
  pub subscribers : List (ActorState SubscriberCore)

abbrev pub places_of : {S : Type 0} → Ends S → Placed
places_of ends = record {
  ledger = ends.ledger;
  clients = ends.clients.items;
  connector = ends.connector;
  broker = ends.broker;
  subscribers = ends.subscribers.items;
}

-- each client with its script
abbrev pub with_scripts : List (ActorState ClientCore) → List (List Batch) → List ScriptedState
with_scripts [] scripts = []
with_scripts (client ∷ clients) [] = []
with_scripts (client ∷ clients) (script ∷ scripts) =
    record { end = client; script = script } ∷ with_scripts clients scripts

-- actors before they work, in the order of their places, each client with its script
abbrev pub tasks_at : {S : Type 0} → Placed → List (List Batch) → List (Task S)
tasks_at p scripts =
    task.Ledger p.ledger ∷ map task.Client (with_scripts p.clients scripts)
    ++ task.Connector p.connector ∷ task.Broker p.broker ∷ map task.Subscriber p.subscribers

-- actors once they have finished, in the order of their places
abbrev pub left_at : {S : Type 0} → Placed → List (Actor S)
left_at p =
    actor.Ledger p.ledger ∷ map actor.Client p.clients
    ++ actor.Connector p.connector ∷ actor.Broker p.broker ∷ map actor.Subscriber p.subscribers

-- ---- what each leaves

-- an actor has finished its work: it has the same system and seat, keeps its invariant, and has finished
pub record HasLeft {W Seat : Type 0} (seat_of : W → Seat) (keeps : W → Type 0) (is_over : W → Bool)
    (old new : ActorState W) : Type 0 where
  pub system : new.system ≡ old.system
  pub seat : seat_of new.work ≡ seat_of old.work
  pub kept : keeps new.work
  pub done : has_finished is_over new ≡ true

abbrev pub LedgerLeaves : ActorState LedgerCore → ActorState LedgerCore → Type 0
LedgerLeaves = HasLeft ledger_seat IsLedgerActor is_over

-- it has submitted its script, in its order, and nothing else
pub record ClientLeaves (old : ScriptedState) (new : ActorState ClientCore) : Type 0 where
  pub left : HasLeft client_seat IsClient (λ c. c.finished) old.end new
  pub batches : map (λ r. r.batch) new.work.replies ≡ map (λ r. r.batch) old.end.work.replies ++ old.script

abbrev pub ConnectorLeaves : ActorState ConnectorCore → ActorState ConnectorCore → Type 0
ConnectorLeaves = HasLeft connector_seat IsConnectorActor (λ c. c.finished)

abbrev pub BrokerLeaves : ActorState BrokerCore → ActorState BrokerCore → Type 0
BrokerLeaves = HasLeft broker_seat IsBrokerActor (λ d. d.finished)

abbrev pub SubscriberLeaves : ActorState SubscriberCore → ActorState SubscriberCore → Type 0
SubscriberLeaves = HasLeft subscriber_seat IsSubscriberActor (λ c. c.finished)

-- ---- how it stopped

-- an actor that has met a fault keeps it, and it is one that such an actor may meet
abbrev pub Meets : {W : Type 0} → (W → RunFault → Type 0) → ActorState W → Met → Type 0
Meets fails_as end (Fault fault) = (end.fault ≡ Some fault) × fails_as end.work fault
Meets fails_as end Unstarted = Unit {0}

-- this stop reports an actor with the same seat as this one, which stopped before it had finished
pub record HasStopped {W Seat : Type 0} (seat_of : W → Seat) (place_of : W → Place) (fails_as : W → RunFault → Type 0)
    (old : ActorState W) (stop : StopState) : Type 0 where
  pub left : ActorState W
  pub seat : seat_of left.work ≡ seat_of old.work
  pub system : stop.system ≡ old.system
  pub place : stop.place ≡ place_of left.work
  pub met : Meets fails_as left stop.met

-- the places of actors, by what they work with
abbrev pub client_place : ClientCore → Place
client_place c = place.Client c.number

abbrev pub subscriber_place : SubscriberCore → Place
subscriber_place c = place.Subscriber c.number

-- so an actor of a run has stopped
abbrev pub Stops : {S : Type 0} → Task S → StopState → Type 0
Stops (task.Ledger old) = HasStopped ledger_seat (λ _. place.Ledger) (λ _. IsTurnFault) old
Stops (task.Client old) = HasStopped client_seat client_place (λ _. IsTurnFault) old.end
Stops (task.Connector old) = HasStopped connector_seat (λ _. place.Connector) IsFaultOf old
Stops (task.Broker old) = HasStopped broker_seat (λ _. place.Broker) (λ _. IsTurnFault) old
Stops (task.Subscriber old) = HasStopped subscriber_seat subscriber_place (λ _. IsTurnFault) old

-- ---- all of them

-- an actor of one kind leaves one of that kind
abbrev pub Leaves : {S : Type 0} → Task S → Actor S → Type 0
Leaves (task.Ledger old) (actor.Ledger new) = LedgerLeaves old new
Leaves (task.Ledger old) (actor.Client new) = ⊥
Leaves (task.Ledger old) (actor.Connector new) = ⊥
Leaves (task.Ledger old) (actor.Broker new) = ⊥
Leaves (task.Ledger old) (actor.Subscriber new) = ⊥
Leaves (task.Client old) (actor.Ledger new) = ⊥
Leaves (task.Client old) (actor.Client new) = ClientLeaves old new
Leaves (task.Client old) (actor.Connector new) = ⊥
Leaves (task.Client old) (actor.Broker new) = ⊥
Leaves (task.Client old) (actor.Subscriber new) = ⊥
Leaves (task.Connector old) (actor.Ledger new) = ⊥
Leaves (task.Connector old) (actor.Client new) = ⊥
Leaves (task.Connector old) (actor.Connector new) = ConnectorLeaves old new
Leaves (task.Connector old) (actor.Broker new) = ⊥
Leaves (task.Connector old) (actor.Subscriber new) = ⊥
Leaves (task.Broker old) (actor.Ledger new) = ⊥
Leaves (task.Broker old) (actor.Client new) = ⊥
Leaves (task.Broker old) (actor.Connector new) = ⊥
Leaves (task.Broker old) (actor.Broker new) = BrokerLeaves old new
Leaves (task.Broker old) (actor.Subscriber new) = ⊥
Leaves (task.Subscriber old) (actor.Ledger new) = ⊥
Leaves (task.Subscriber old) (actor.Client new) = ⊥
Leaves (task.Subscriber old) (actor.Connector new) = ⊥
Leaves (task.Subscriber old) (actor.Broker new) = ⊥
Leaves (task.Subscriber old) (actor.Subscriber new) = SubscriberLeaves old new

-- each actor of a run has left what it has to leave, at its place
pub record AreLeft (old : Placed) (scripts : List (List Batch)) (new : Placed) : Type 0 where
  pub ledger : LedgerLeaves old.ledger new.ledger
  pub clients : AllZip ClientLeaves (with_scripts old.clients scripts) new.clients
  pub connector : ConnectorLeaves old.connector new.connector
  pub broker : BrokerLeaves old.broker new.broker
  pub subscribers : AllZip SubscriberLeaves old.subscribers new.subscribers
