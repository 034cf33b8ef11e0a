-- What is printed: lines of text, each with its line feed.
use Rattle.std.specs.Prelude.{◌≡◌, ℕ, List, [], ◌++◌, codes, decimal, Result, Ok, Err}
use Rattle.std.specs.List.{flat_map}
use Rattle.cdc_types.specs.declared.batches.BatchResults.{BatchResults}
use Rattle.cdc_types.specs.declared.batches.BatchResults.TheVariants as results
use Rattle.cdc_types.specs.Results.{account_number, transfer_number}
use Rattle.cdc_ledger.specs.declared.errors.BatchError.{BatchError}
use Rattle.cdc_ledger.specs.BatchErrors.{batch_error_number, batch_error_name}
use Rattle.cdc_commands.specs.declared.batches.Answered.{Answered}
use Rattle.cdc_commands.specs.declared.endings.Ending.{Ending}
use Rattle.cdc_commands.specs.declared.endings.Ending.TheVariants.{Failed, BadScript, BadSteps}
use Rattle.cdc_script.specs.declared.faults.ScriptFault.{ScriptFault}
use Rattle.cdc_output.specs.Faults.{program_fault_line}
use Rattle.cdc_script.specs.Faults.{kind_name}
use Rattle.cdc_codec.specs.Texts.{spaced}

-- what the ledger answered to a batch: a number for each item, or how many transfers expired by a pulse
abbrev pub answer_text : Result BatchResults BatchError → List ℕ
answer_text (Ok (results.Accounts items)) = codes ":" ++ flat_map (λ r. spaced (account_number r)) items
answer_text (Ok (results.Transfers items)) = codes ":" ++ flat_map (λ r. spaced (transfer_number r)) items
answer_text (Ok (results.Pulsed count)) = codes ": pulse " ++ decimal count
answer_text (Err e) = codes " refused:" ++ (spaced (batch_error_number e) ++ (codes " " ++ batch_error_name e))

-- the line of the batch of this number, from 1
abbrev pub batch_line : ℕ → Result BatchResults BatchError → List ℕ
batch_line number answer = codes "batch " ++ (decimal number ++ (answer_text answer ++ codes "\n"))

-- the lines of batches
abbrev pub answered_lines : List Answered → List ℕ
answered_lines answers = flat_map (λ a. batch_line a.number a.answer) answers

-- the line of a bad script
abbrev pub script_fault_line : ScriptFault → List ℕ
script_fault_line at = codes "fault: script line"
    ++ (spaced at.line ++ (codes ": " ++ (kind_name at.kind ++ codes "\n")))

-- the line of a bad step file
abbrev pub steps_fault_line : ScriptFault → List ℕ
steps_fault_line at = codes "fault: steps line"
    ++ (spaced at.line ++ (codes ": " ++ (kind_name at.kind ++ codes "\n")))

-- the line of the file that a command doesn't take
abbrev pub file_fault_line : Ending → List ℕ
file_fault_line (BadScript at) = script_fault_line at
file_fault_line (BadSteps at) = steps_fault_line at
file_fault_line _ = []

-- the line of the fault that a command ends with: it failed, or a file has a fault
abbrev pub ending_line : Ending → List ℕ
ending_line (Failed why) = program_fault_line why
ending_line ending = file_fault_line ending

-- this is that line
abbrev pub IsFaultLine : Ending → List ℕ → Type 0
IsFaultLine ending printed = printed ≡ ending_line ending
