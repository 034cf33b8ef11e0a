-- Why a run of a script has no report.
use Rattle.std.specs.Prelude.{◌≡◌, ◌⊎◌, Bool, Option, Some, None, IfSome, MatchOption}
use Rattle.cdc_output.specs.Faults.{read_fault}
use Rattle.cdc_output.specs.declared.faults.ProgramFault.{ProgramFault}
use Rattle.cdc_output.specs.declared.faults.ProgramFault.TheVariants as program
use Rattle.cdc_commands.specs.Outcomes.{IsWriteFault}
use Rattle.cdc_commands.specs.declared.endings.Ending.{Ending}
use Rattle.cdc_commands.specs.declared.endings.Ending.TheVariants.{Failed}
use Rattle.cdc_actors.specs.Stops.{fault_met}
use Rattle.cdc_actors.specs.declared.met.Met.{Met}
use Rattle.cdc_actor_work.specs.declared.places.Place.{Place}
use Rattle.cdc_progress.specs.Stores.{Risks}
use Rattle.cdc_run.specs.Meeting.{MayStop}
use Rattle.cdc_run.specs.declared.failures.Failure.{Failure}
use Rattle.cdc_run.specs.declared.failures.Failure.TheVariants as failure
use Rattle.cdc_script.specs.declared.faults.ReadError.{ReadError}
use Rattle.cdc_run_command.specs.Private.Faults.{run_fault}
use Rattle.cdc_run_command.specs.declared.failures.RunFailed.{RunFailed}

-- memory ran out, and no actor reports it
abbrev pub no_memory : RunFailed
no_memory = record { fault = program.OutOfMemory; stop = None }

-- the script wasn't read
abbrev pub unread : ReadError → RunFailed
unread why = record { fault = read_fault why; stop = None }

-- why a run failed, as the program answers it
abbrev pub failed_of : {S : Type 0} → Failure S → RunFailed
failed_of failure.OutOfMemory = no_memory
failed_of (failure.Stopped at met outcomes) = record { fault = run_fault (fault_met met); stop = Some (at, met) }

-- the fault of a run none of whose actors stopped: the script wasn't read, or memory ran out
abbrev pub IsUnstopped : ProgramFault → Type 0
IsUnstopped (program.ReadFault why) = Unit {0}
IsUnstopped (program.WriteFault why) = ⊥
IsUnstopped (program.Store why) = ⊥
IsUnstopped program.OutOfMemory = Unit {0}
IsUnstopped program.PeerGone = ⊥
IsUnstopped program.SessionsExhausted = ⊥
IsUnstopped program.StartNotAllowed = ⊥
IsUnstopped program.NotOneSystem = ⊥

-- a run over such a store may fail so: no actor stopped; or one did, and the fault is the one that it met, which an
-- actor of its place may meet
abbrev pub MayFail : Bool → Risks → RunFailed → Type 0
MayFail honest risks failed = MatchOption failed.stop (IsUnstopped failed.fault)
    (λ s. (failed.fault ≡ run_fault (fault_met s.1)) × MayStop honest risks s.0 s.1)

-- a command that runs a script over such a store may end with this fault
pub record MayEndWith (honest : Bool) (risks : Risks) (why : ProgramFault) : Type 0 where
  pub failed : RunFailed
  pub fault : failed.fault ≡ why
  pub may : MayFail honest risks failed

-- the command ended by the fault that an actor met, unless a write failed
abbrev pub EndsBy : Met → Ending → Type 0
EndsBy met ending = IsWriteFault ending ⊎ (ending ≡ Failed (run_fault (fault_met met)))

-- if an actor stopped, at this place and for this reason, it may over such a store, and the command ended by that
abbrev pub StoppedSo : Bool → Risks → Option (Place × Met) → Ending → Type 0
StoppedSo honest risks stop ending = IfSome stop (λ s. MayStop honest risks s.0 s.1 × EndsBy s.1 ending)
