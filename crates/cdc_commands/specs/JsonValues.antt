-- The JSON values of the lines that are printed with `--json`, and the texts of such lines.
use Rattle.std.specs.Prelude.{ℕ, ◌+◌, List, [], ◌∷◌, codes, map, Option, Some, None, Result, Ok, Err}
use Rattle.serde_json.specs.Data.{Data, null, string, array, no_members, member}
use Rattle.serde_json.specs.View.{items_of}
use Rattle.cdc_types.specs.declared.batches.BatchResults.{BatchResults}
use Rattle.cdc_types.specs.declared.batches.BatchResults.TheVariants as results
use Rattle.cdc_types.specs.declared.results.AccountResult.{AccountResult}
use Rattle.cdc_types.specs.declared.results.TransferResult.{TransferResult}
use Rattle.cdc_types.specs.Results.{account_number, account_name, transfer_number, transfer_name}
use Rattle.cdc_ledger.specs.declared.errors.BatchError.{BatchError}
use Rattle.cdc_ledger.specs.BatchErrors.{batch_error_number, batch_error_name}
use Rattle.cdc_message.specs.Values.{narrow, wide}
use Rattle.cdc_output.specs.Lines.{line_of, named_value}
use Rattle.cdc_progress.specs.Records.{Saved}
use Rattle.cdc_script.specs.declared.faults.ScriptFault.{ScriptFault}
use Rattle.cdc_script.specs.Faults.{kind_name}
use Rattle.cdc_world.specs.declared.steps.StepError.{StepError}
use Rattle.cdc_world.specs.Errors.{step_error_name}
use Rattle.cdc_commands.specs.declared.batches.Answered.{Answered}

-- the result of an account
abbrev pub account_result : AccountResult → Data
account_result r = named_value (account_number r) (account_name r)

-- the result of a transfer
abbrev pub transfer_result : TransferResult → Data
transfer_result r = named_value (transfer_number r) (transfer_name r)

-- the results of a batch, which has this number
abbrev pub results_value : ℕ → List Data → Data
results_value batch items =
    line_of (codes "batch") (
    member (codes "batch") (narrow batch) (
    member (codes "results") (array (items_of items))
    no_members))

-- what the ledger answered to the batch of this number, from 1
abbrev pub batch_value : ℕ → Result BatchResults BatchError → Data
batch_value batch (Ok (results.Accounts items)) = results_value batch (map account_result items)
batch_value batch (Ok (results.Transfers items)) = results_value batch (map transfer_result items)
batch_value batch (Ok (results.Pulsed count)) =
    line_of (codes "pulse") (
    member (codes "batch") (narrow batch) (
    member (codes "expired") (narrow count)
    no_members))
batch_value batch (Err e) =
    line_of (codes "refused_batch") (
    member (codes "batch") (narrow batch) (
    member (codes "number") (narrow (batch_error_number e)) (
    member (codes "name") (string (batch_error_name e))
    no_members)))

-- what the ledger answered to a batch
abbrev pub answered_value : Answered → Data
answered_value answered = batch_value answered.number answered.answer

-- what the ledger answered to batches
abbrev pub answered_values : List Answered → List Data
answered_values answers = map answered_value answers

-- how many of all steps are done
abbrev pub steps_value : ℕ → ℕ → Data
steps_value done all =
    line_of (codes "steps") (
    member (codes "done") (narrow done) (
    member (codes "of") (narrow all)
    no_members))

-- the step that was refused, the one after those done, if one was
abbrev pub refusal_values : ℕ → Option StepError → List Data
refusal_values done None = []
refusal_values done (Some why) =
    line_of (codes "refused_step") (
    member (codes "step") (narrow (done + 1)) (
    member (codes "name") (string (step_error_name why))
    no_members)) ∷ []

-- a line of a session and a timestamp, or of nulls
abbrev pub held_value : Data → Data → Data
held_value session timestamp =
    line_of (codes "progress") (member (codes "session") session (member (codes "timestamp") timestamp no_members))

-- what the store holds
abbrev pub progress_value : Option Saved → Data
progress_value None = held_value null null
progress_value (Some saved) = held_value (wide saved.session) (wide saved.timestamp)

-- the fault of a file: of this word
abbrev pub file_fault_value : List ℕ → ScriptFault → List ℕ → Data
file_fault_value file at word =
    line_of (codes "file_fault") (
    member (codes "file") (string file) (
    member (codes "line") (narrow at.line) (
    member (codes "column") (narrow at.column) (
    member (codes "word") (string word) (
    member (codes "name") (string (kind_name at.kind))
    no_members)))))
