-- The numbers and names of the faults of a run.
use Rattle.std.specs.Prelude.{◌≡◌, ◌⊎◌, ℕ, List, codes}
use Rattle.cdc_actor_work.specs.declared.faults.RunFault.{RunFault}
use Rattle.cdc_actor_work.specs.declared.faults.RunFault.TheVariants.{PeerGone, OutOfMemory, Store, SessionsExhausted, NotOneSystem, StartNotAllowed}
use Rattle.cdc_progress.specs.StoreError.{StoreError}
use Rattle.cdc_publisher.specs.Errors.{store_refusal}
use Rattle.cdc_publisher.specs.declared.errors.StartError.{StartError}
use Rattle.cdc_publisher.specs.declared.errors.StartError.TheVariants as start

-- the fault's number
abbrev pub run_fault_number : RunFault → ℕ
run_fault_number PeerGone = 1
run_fault_number OutOfMemory = 2
run_fault_number (Store why) = 3
run_fault_number SessionsExhausted = 4
run_fault_number NotOneSystem = 5
run_fault_number StartNotAllowed = 6

-- the fault's name
abbrev pub run_fault_name : RunFault → List ℕ
run_fault_name PeerGone = codes "peer_gone"
run_fault_name OutOfMemory = codes "out_of_memory"
run_fault_name (Store why) = codes "store"
run_fault_name SessionsExhausted = codes "sessions_exhausted"
run_fault_name NotOneSystem = codes "not_one_system"
run_fault_name StartNotAllowed = codes "start_not_allowed"

-- an actor that has no store fails if a link refuses it or delivers what wasn't asked for, or if it is out of memory
abbrev pub IsTurnFault : RunFault → Type 0
IsTurnFault fault = (fault ≡ PeerGone) ⊎ (fault ≡ OutOfMemory)

-- the fault of an actor whose session doesn't start
abbrev pub start_fault : StartError → RunFault
start_fault (start.Store why) = Store why
start_fault start.SessionsExhausted = SessionsExhausted
start_fault start.OutOfMemory = OutOfMemory
start_fault start.StartNotAllowed = StartNotAllowed

-- the fault of an actor whose store fails: that of one whose session doesn't start because of it
abbrev pub store_fault : StoreError → RunFault
store_fault why = start_fault (store_refusal why)
