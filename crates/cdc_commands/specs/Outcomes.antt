-- What a command makes of what it reads, and what it writes of that.
use Rattle.std.specs.Prelude.{◌≡◌, ◌⊎◌, ℕ, List, [], Option, Some, None, Result, Ok, Err}
use Rattle.std.specs.Io.KnownBytes.{Appends}
use Rattle.cdc_commands.specs.declared.endings.Ending.{Ending}
use Rattle.cdc_commands.specs.declared.endings.Ending.TheVariants.{Done, Failed, Refused, BadScript, BadSteps, BadWords}
use Rattle.cdc_output.specs.declared.faults.ProgramFault.{ProgramFault}
use Rattle.cdc_output.specs.declared.faults.ProgramFault.TheVariants as fault
use Rattle.cdc_commands.specs.declared.output.Output.{Output}
use Rattle.cdc_world.specs.declared.steps.StepError.{StepError}

-- the exit status of a command with this ending
abbrev pub status_of : Ending → ℕ
status_of Done = 0
status_of (Failed why) = 1
status_of (Refused why) = 1
status_of (BadScript at) = 2
status_of (BadSteps at) = 2
status_of BadWords = 2

-- the ending of a simulation, one of whose steps was refused for this reason, or none
abbrev pub refusal_ending : Option StepError → Ending
refusal_ending None = Done
refusal_ending (Some why) = Refused why

-- what is printed, and how the command ends
pub record Outcome : Type 0 where
  pub text : List ℕ
  pub ending : Ending

-- what is printed, and how the command ends, as lists and numbers
abbrev pub outcome_of : Output → Outcome
outcome_of output = record { text = output.text.items; ending = output.ending }

-- how a command that made this output, or failed, ends if what it prints can be written
abbrev pub ending_of : Result Output ProgramFault → Ending
ending_of (Ok output) = output.ending
ending_of (Err why) = Failed why

-- a read failed
abbrev pub IsReadFault : Ending → Type 0
IsReadFault (Failed (fault.ReadFault why)) = Unit {0}
IsReadFault _ = ⊥

-- a write failed
abbrev pub IsWriteFault : Ending → Type 0
IsWriteFault (Failed (fault.WriteFault why)) = Unit {0}
IsWriteFault _ = ⊥

-- the text was written and the command has the intended ending, or a write failed
abbrev pub IsPrinted : Option (List ℕ) → Option (List ℕ) → Outcome → Ending → Type 0
IsPrinted old new wished ending = IsWriteFault ending ⊎ ((ending ≡ wished.ending) × Appends old new wished.text)

-- what is written by a command with this ending: what such a command prints, unless a write failed
abbrev pub Writes : (Ending → List ℕ → Type 0) → Option (List ℕ) → Option (List ℕ) → Ending → Type 0
Writes prints old new ending =
    IsWriteFault ending ⊎ ((printed : List ℕ) × (Appends old new printed × prints ending printed))

-- a command that failed like this printed the line of its fault, if this is printed for faults
abbrev pub PrintsFailure : (List ℕ → Ending → List ℕ → Type 0) → Option (List ℕ) → Option (List ℕ) → ProgramFault
    → Ending → Type 0
PrintsFailure PrintsFault old new why ending =
    (line : List ℕ) × (PrintsFault [] (Failed why) line
    × IsPrinted old new (record { text = line; ending = Failed why }) ending)

-- a command that reads a script, alone or with steps, fails if a read failed or memory ran out
abbrev pub MayFailScript : ProgramFault → Type 0
MayFailScript (fault.ReadFault why) = Unit {0}
MayFailScript (fault.WriteFault why) = ⊥
MayFailScript (fault.Store why) = ⊥
MayFailScript fault.OutOfMemory = Unit {0}
MayFailScript fault.PeerGone = ⊥
MayFailScript fault.SessionsExhausted = ⊥
MayFailScript fault.StartNotAllowed = ⊥
MayFailScript fault.NotOneSystem = ⊥

-- a simulation fails only if memory runs out
abbrev pub IsSimulationFault : ProgramFault → Type 0
IsSimulationFault (fault.ReadFault why) = ⊥
IsSimulationFault (fault.WriteFault why) = ⊥
IsSimulationFault (fault.Store why) = ⊥
IsSimulationFault fault.OutOfMemory = Unit {0}
IsSimulationFault fault.PeerGone = ⊥
IsSimulationFault fault.SessionsExhausted = ⊥
IsSimulationFault fault.StartNotAllowed = ⊥
IsSimulationFault fault.NotOneSystem = ⊥
