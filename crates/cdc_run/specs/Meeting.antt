-- Why a run has no report: what each of its actors came to, and which fault is answered.
use Rattle.std.specs.Prelude.{◌≡◌, ℕ, zero, suc, ◌+◌, Bool, true, IsTrue, Some, Result, Ok, Err, List, [], ◌∷◌, ◌++◌}
use Rattle.std.specs.List.{AllZip}
use Rattle.cdc_broker_actors.specs.Broker.{BrokerCore}
use Rattle.cdc_ledger_actors.specs.Client.{ClientCore}
use Rattle.cdc_connector_actor.specs.Connector.{ConnectorCore}
use Rattle.cdc_actors.specs.Ends.{has_finished}
use Rattle.cdc_actor_work.specs.Faults.{IsTurnFault}
use Rattle.cdc_ledger_actors.specs.Ledger.{is_over}
use Rattle.cdc_actors.specs.Stops.{StopState}
use Rattle.cdc_broker_actors.specs.Subscriber.{SubscriberCore}
use Rattle.cdc_actor_work.specs.declared.faults.RunFault.{RunFault}
use Rattle.cdc_actor_work.specs.declared.faults.RunFault.TheVariants.{PeerGone, OutOfMemory, Store, SessionsExhausted, NotOneSystem, StartNotAllowed}
use Rattle.cdc_actors.specs.declared.met.Met.{Met}
use Rattle.cdc_actors.specs.declared.met.Met.TheVariants.{Fault, Unstarted}
use Rattle.cdc_actor_work.specs.declared.places.Place.{Place}
use Rattle.cdc_actor_work.specs.declared.places.Place.TheVariants as place
use Rattle.cdc_progress.specs.Stores.{Risks}
use Rattle.cdc_progress.specs.StoreError.TheVariants as store
use Rattle.cdc_run.specs.Outcomes.{first_stop}
use Rattle.cdc_run.specs.declared.actors.Actor.{Actor}
use Rattle.cdc_run.specs.declared.actors.Actor.TheVariants as actor
use Rattle.cdc_run.specs.declared.failures.Failure.{Failure}
use Rattle.cdc_run.specs.declared.failures.Failure.TheVariants as failure

module _ (honest : Bool) (risks : Risks) where
  -- a connector may meet such a fault, over a store that is or isn't honest and has these risks: that store fails
  -- only if it may fail, and holds a bad record only if it isn't honest
  abbrev pub IsConnectorFault : RunFault → Type 0
  IsConnectorFault PeerGone = Unit {0}
  IsConnectorFault OutOfMemory = Unit {0}
  IsConnectorFault (Store store.ReadFault) = IsTrue risks.faults
  IsConnectorFault (Store store.WriteFault) = IsTrue risks.faults
  IsConnectorFault (Store store.BadRecord) = IsTrue risks.faults × (honest ≡ true → ⊥)
  IsConnectorFault (Store store.OutOfMemory) = ⊥
  IsConnectorFault SessionsExhausted = Unit {0}
  IsConnectorFault NotOneSystem = ⊥
  IsConnectorFault StartNotAllowed = Unit {0}

  -- the actor of a place may meet such a fault. Only the connector reports the faults of a store, and of a session
  -- that doesn't start
  abbrev pub MayMeet : Place → RunFault → Type 0
  MayMeet place.Ledger fault = IsTurnFault fault
  MayMeet (place.Client number) fault = IsTurnFault fault
  MayMeet place.Connector fault = IsConnectorFault fault
  MayMeet place.Broker fault = IsTurnFault fault
  MayMeet (place.Subscriber number) fault = IsTurnFault fault

  -- it may stop so: its thread can't be started, or it meets such a fault
  abbrev pub MayStop : Place → Met → Type 0
  MayStop at (Fault fault) = MayMeet at fault
  MayStop at Unstarted = Unit {0}

-- so many clients, and subscribers, numbered from this number on
abbrev pub clients_from : ℕ → ℕ → List Place
clients_from number zero = []
clients_from number (suc n) = place.Client number ∷ clients_from (number + 1) n

abbrev pub subscribers_from : ℕ → ℕ → List Place
subscribers_from number zero = []
subscribers_from number (suc m) = place.Subscriber number ∷ subscribers_from (number + 1) m

-- the places of a run with n clients and m subscribers, in their order
abbrev pub places_in : ℕ → ℕ → List Place
places_in n m = place.Ledger ∷ clients_from 1 n ++ place.Connector ∷ place.Broker ∷ subscribers_from 1 m

-- the place of an actor, its system, and whether it has finished and has met no fault
abbrev pub place_of : {S : Type 0} → Actor S → Place
place_of (actor.Ledger end) = place.Ledger
place_of (actor.Client end) = place.Client end.work.number
place_of (actor.Connector end) = place.Connector
place_of (actor.Broker end) = place.Broker
place_of (actor.Subscriber end) = place.Subscriber end.work.number

abbrev pub system_of : {S : Type 0} → Actor S → ℕ
system_of (actor.Ledger end) = end.system
system_of (actor.Client end) = end.system
system_of (actor.Connector end) = end.system
system_of (actor.Broker end) = end.system
system_of (actor.Subscriber end) = end.system

abbrev pub is_done : {S : Type 0} → Actor S → Bool
is_done (actor.Ledger end) = has_finished is_over end
is_done (actor.Client end) = has_finished (λ (c : ClientCore). c.finished) end
is_done (actor.Connector end) = has_finished (λ (c : ConnectorCore). c.finished) end
is_done (actor.Broker end) = has_finished (λ (d : BrokerCore). d.finished) end
is_done (actor.Subscriber end) = has_finished (λ (c : SubscriberCore). c.finished) end

module _ {S : Type 0} (system : ℕ) (honest : Bool) (risks : Risks) where
  -- what the actor of a place of a system came to: it has finished, or it stopped for a reason for which it may
  abbrev pub CameTo : Place → Result (Actor S) StopState → Type 0
  CameTo at (Ok one) = (place_of one ≡ at) × (system_of one ≡ system) × (is_done one ≡ true)
  CameTo at (Err stop) = (stop.place ≡ at) × (stop.system ≡ system) × MayStop honest risks at stop.met

  module _ (n m : ℕ) where
    -- of the actors of a run with n clients and m subscribers, each came to its outcome, and the stop that counts among
    -- these is at this place and for this reason; so what only a connector meets was met by the connector
    pub record HasFailed (at : Place) (met : Met) (outcomes : List (Result (Actor S) StopState)) : Type 0 where
      pub come : AllZip CameTo (places_in n m) outcomes
      pub counts : first_stop outcomes ≡ Some (at, met)
      pub kind : MayStop honest risks at met

    -- why a run has no report: memory ran out before its actors worked or after all had finished, or actors stopped
    abbrev pub IsRunFailure : Failure S → Type 0
    IsRunFailure failure.OutOfMemory = Unit {0}
    IsRunFailure (failure.Stopped at met outcomes) = HasFailed at met outcomes.items
