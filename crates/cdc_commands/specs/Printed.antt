-- All that a command prints for a script.
use Rattle.std.specs.Prelude.{◌≡◌, ℕ, ◌+◌, true, List, [], ◌∷◌, ◌++◌, map, Option, IfSome, Result, Ok, Err}
use Rattle.std.specs.List.{flat_map}
use Rattle.cdc_types.specs.declared.batches.BatchResults.{BatchResults}
use Rattle.cdc_ledger.specs.declared.errors.BatchError.{BatchError}
use Rattle.cdc_ledger.specs.Events.{events}
use Rattle.cdc_ledger.specs.History.{History, empty_history}
use Rattle.cdc_ledger.specs.Submit.{submit, history_or, after_batches}
use Rattle.cdc_commands.specs.declared.batches.Answered.{Answered}
use Rattle.cdc_commands.specs.declared.endings.Ending.{Ending}
use Rattle.cdc_commands.specs.declared.endings.Ending.TheVariants.{Done, Failed, Refused, BadScript, BadSteps, BadWords}
use Rattle.cdc_script.specs.declared.scripts.ClientBatch.{ClientBatch}
use Rattle.cdc_script.specs.declared.scripts.Script.{Script}
use Rattle.cdc_laws.specs.Line.{line}
use Rattle.cdc_commands.specs.FaultWords.{PrintsAtWord}
use Rattle.cdc_commands.specs.Feeds.{subscribers_text}
use Rattle.cdc_commands.specs.Messages.{message_lines}
use Rattle.cdc_commands.specs.Outcomes.{MayFailScript}
use Rattle.cdc_commands.specs.Report.{answered_lines}
use Rattle.cdc_script.specs.Scripts.{script_of}

-- the ledger's answer, without the history after it
abbrev pub answer : Result (BatchResults × History) BatchError → Result BatchResults BatchError
answer (Ok answered) = Ok answered.0
answer (Err e) = Err e

-- what the ledger answers to batches that are submitted one after another; the first has this number
abbrev pub answers_to : ℕ → History → List ClientBatch → List Answered
answers_to n h [] = []
answers_to n h (b ∷ rest) =
    record { number = n; answer = answer (submit h b.batch) }
    ∷ answers_to (n + 1) (history_or h (submit h b.batch)) rest

-- the history after batches
abbrev pub history_after : History → List ClientBatch → History
history_after h batches = after_batches h (map (λ b. b.batch) batches)

-- the history that a script makes, with a close after its batches
abbrev pub history_of : Script → History
history_of script = record (history_after empty_history script.batches) { closed = true }

-- what `books` prints: the lines of the batches, and then those of the subscribers, each of which has taken its queue
-- of the closed ledger's events and the end mark
abbrev pub printed_books : Script → List ℕ
printed_books script =
    answered_lines (answers_to 1 empty_history script.batches)
    ++ subscribers_text 1 (line (history_of script)) script.bindings

-- what `messages` prints: the lines of each event
abbrev pub printed_messages : Script → List ℕ
printed_messages script = flat_map message_lines (events (history_of script))

-- this is printed by a command that reads a script, whose bytes are known or not, and has this ending, if this is
-- printed for scripts, and that for faults
abbrev pub PrintsScript : (Script → List ℕ → Type 0) → (List ℕ → Ending → List ℕ → Type 0) → Option (List ℕ) → Ending
    → List ℕ → Type 0
PrintsScript Prints PrintsFault script Done printed =
    IfSome script (λ bytes. (stated : Script) × ((script_of bytes ≡ Ok stated) × Prints stated printed))
PrintsScript Prints PrintsFault script (BadScript at) printed =
    PrintsAtWord (λ word. PrintsFault word (BadScript at)) script at.word printed
    × IfSome script (λ bytes. script_of bytes ≡ Err at)
PrintsScript Prints PrintsFault script (Failed why) printed = MayFailScript why × PrintsFault [] (Failed why) printed
PrintsScript Prints PrintsFault script (Refused why) printed = ⊥
PrintsScript Prints PrintsFault script (BadSteps at) printed = ⊥
PrintsScript Prints PrintsFault script BadWords printed = ⊥
