-- What several actors of a run came to, and which of their faults counts.
use Rattle.std.specs.Prelude.{Bool, true, false, Option, Some, None, Result, Ok, Err, List, [], ◌∷◌, if◌then◌else◌}
use Rattle.cdc_actors.specs.Stops.{StopState}
use Rattle.cdc_actor_work.specs.declared.faults.RunFault.{RunFault}
use Rattle.cdc_actor_work.specs.declared.faults.RunFault.TheVariants.{PeerGone, OutOfMemory, Store, SessionsExhausted, NotOneSystem, StartNotAllowed}
use Rattle.cdc_actors.specs.declared.met.Met.{Met}
use Rattle.cdc_actors.specs.declared.met.Met.TheVariants.{Fault, Unstarted}
use Rattle.cdc_actor_work.specs.declared.places.Place.{Place}

-- the fault is that a peer is gone, which happens if the peer met a fault of its own
abbrev pub is_peer_gone : RunFault → Bool
is_peer_gone PeerGone = true
is_peer_gone OutOfMemory = false
is_peer_gone (Store why) = false
is_peer_gone SessionsExhausted = false
is_peer_gone NotOneSystem = false
is_peer_gone StartNotAllowed = false

-- an actor stopped for no other reason
abbrev pub is_gone : Met → Bool
is_gone (Fault fault) = is_peer_gone fault
is_gone Unstarted = false

-- of a stop for that reason and one that counts of later places: the later one, if it has another reason
abbrev pub later_or : Place × Met → Option (Place × Met) → Option (Place × Met)
later_or one None = Some one
later_or one (Some later) = if is_gone later.1 then Some one else Some later

-- the stop that counts of one place and of those after it: the first, but that a peer is gone counts only if there is
-- no other reason
abbrev pub first_of : Option (Place × Met) → Option (Place × Met) → Option (Place × Met)
first_of None later = later
first_of (Some one) later = if is_gone one.1 then later_or one later else Some one

-- the place of an actor that stopped before it had finished, and why
abbrev pub stop_in : {A : Type 0} → Result A StopState → Option (Place × Met)
stop_in (Ok actor) = None
stop_in (Err stop) = Some (stop.place, stop.met)

-- the stop that counts among outcomes, which are in the order of their places
abbrev pub first_stop : {A : Type 0} → List (Result A StopState) → Option (Place × Met)
first_stop [] = None
first_stop (outcome ∷ outcomes) = first_of (stop_in outcome) (first_stop outcomes)

-- the actors among outcomes that have finished
abbrev pub finished_in : {A : Type 0} → List (Result A StopState) → List A
finished_in [] = []
finished_in (Ok actor ∷ outcomes) = actor ∷ finished_in outcomes
finished_in (Err stop ∷ outcomes) = finished_in outcomes
