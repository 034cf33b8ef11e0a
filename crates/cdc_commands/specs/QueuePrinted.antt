-- All that `messages --queue` prints for a script.
use Rattle.std.specs.Prelude.{◌≡◌, ℕ, ◌-◌, ◌==◌, List, [], if◌then◌else◌, Option, Some, None, IfSome, Ok, Err}
use Rattle.std.specs.List.{slice_get}
use Rattle.cdc_ledger.specs.Events.{events}
use Rattle.cdc_match.specs.Arguments.{Arguments}
use Rattle.cdc_queue_lines.specs.Lines.{queue_text}
use Rattle.cdc_script.specs.declared.scripts.Script.{Script}
use Rattle.cdc_script.specs.Scripts.{script_of}
use Rattle.cdc_commands.specs.declared.endings.Ending.{Ending}
use Rattle.cdc_commands.specs.declared.endings.Ending.TheVariants.{Done, Failed, Refused, BadScript, BadSteps, BadWords}
use Rattle.cdc_commands.specs.FaultWords.{PrintsAtWord}
use Rattle.cdc_commands.specs.Outcomes.{MayFailScript}
use Rattle.cdc_commands.specs.Printed.{history_of}

-- the binding of the subscriber of this number, from 1, if there is one
abbrev pub binding_at : List Arguments → ℕ → Option Arguments
binding_at bindings number = if number == 0 then None else slice_get bindings (number - 1)

-- what is printed for a script, and how it ends: the lines of the queue of the subscriber of this number, or nothing
-- and a usage error if there is none
abbrev pub AnswersQueue : Script → ℕ → Ending → List ℕ → Type 0
AnswersQueue script number Done printed = (binding : Arguments) × (binding_at script.bindings number ≡ Some binding)
    × (printed ≡ queue_text binding (events (history_of script)))
AnswersQueue script number BadWords printed = (binding_at script.bindings number ≡ None) × (printed ≡ [])
AnswersQueue script number (Failed why) printed = ⊥
AnswersQueue script number (Refused why) printed = ⊥
AnswersQueue script number (BadScript at) printed = ⊥
AnswersQueue script number (BadSteps at) printed = ⊥

-- this is printed by the command, with this ending, for the bytes of a script, known or not, if this is printed for
-- faults
abbrev pub PrintsQueue : (List ℕ → Ending → List ℕ → Type 0) → ℕ → Option (List ℕ) → Ending → List ℕ → Type 0
PrintsQueue PrintsFault number script (BadScript at) printed =
    PrintsAtWord (λ word. PrintsFault word (BadScript at)) script at.word printed
    × IfSome script (λ bytes. script_of bytes ≡ Err at)
PrintsQueue PrintsFault number script (Failed why) printed = MayFailScript why × PrintsFault [] (Failed why) printed
PrintsQueue PrintsFault number script ending printed =
    IfSome script (λ bytes. (stated : Script) × ((script_of bytes ≡ Ok stated)
    × AnswersQueue stated number ending printed))
