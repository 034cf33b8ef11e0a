-- What `run` prints as JSON of its report.
use Rattle.std.specs.Prelude.{◌≡◌, ℕ, ◌+◌, List, [], ◌∷◌, ◌++◌}
use Rattle.serde_json.specs.Data.{Data}
use Rattle.cdc_run.specs.Reports.{replies_of}
use Rattle.cdc_run.specs.declared.reports.Report.{Report}
use Rattle.cdc_traffic.specs.declared.requests.Reply.{Reply}
use Rattle.cdc_run_command.specs.Runs.{AreMerged}
use Rattle.cdc_commands.specs.JsonValues.{batch_value}
use Rattle.cdc_output.specs.Lines.{json_lines, kept_values}

-- the values of replies, the first of which is that to the batch of this number
abbrev pub reply_values : ℕ → List (ℕ × Reply) → List Data
reply_values n [] = []
reply_values n (entry ∷ rest) = batch_value n entry.1.answer ∷ reply_values (n + 1) rest

-- this is printed of a report as JSON: the replies to all batches, each client's in its own order and the clients in
-- this order, and then what each subscriber holds
pub record ReportsRun (order : List ℕ) (report : Report) (printed : List ℕ) : Type 0 where
  pub replies : List (ℕ × Reply)
  pub merged : AreMerged order (replies_of report) replies
  pub prints : printed ≡ json_lines (reply_values 1 replies ++ kept_values 1 report.subscribers.items)
