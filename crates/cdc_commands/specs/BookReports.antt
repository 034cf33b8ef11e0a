-- What is reported of the books of a script.
use Rattle.std.specs.Prelude.{◌≡◌, ℕ, List, map, Option, Some, None, IfSome, Ok}
use Rattle.cdc_laws.specs.Line.{line}
use Rattle.cdc_ledger.specs.History.{empty_history}
use Rattle.cdc_script.specs.Scripts.{script_of}
use Rattle.cdc_script.specs.declared.scripts.Script.{Script}
use Rattle.cdc_commands.specs.declared.book_reports.BooksReport.{BooksReport}
use Rattle.cdc_commands.specs.declared.book_reports.ParsedBatches.{ParsedBatches}
use Rattle.cdc_commands.specs.declared.endings.Ending.{Ending}
use Rattle.cdc_commands.specs.declared.endings.Ending.TheVariants.{Done}
use Rattle.cdc_commands.specs.Feeds.{kept_by}
use Rattle.cdc_commands.specs.Printed.{answers_to, history_of}

-- this is the report on a script: the answers to its batches, and the subscribers of its bindings, each of which has
-- taken its whole queue
pub record IsBooksOf (script : Script) (report : BooksReport) : Type 0 where
  pub answers : report.answers.items ≡ answers_to 1 empty_history script.batches
  pub subscribers : report.subscribers.items ≡ map (kept_by (line (history_of script))) script.bindings

-- these are the batches of the script, and their lines
pub record AreBatchesOf (script : Script) (parsed : ParsedBatches) : Type 0 where
  pub batches : parsed.batches ≡ script.batches
  pub lines : parsed.lines ≡ script.lines

-- these are the batches of the script that a text writes, whose bytes are known or not; if there are none, the command
-- didn't end well
abbrev pub AreParsedFrom : Option (List ℕ) → Ending → Option ParsedBatches → Type 0
AreParsedFrom bytes ending None = ending ≡ Done → ⊥
AreParsedFrom bytes ending (Some parsed) =
    IfSome bytes (λ all. (script : Script) × ((script_of all ≡ Ok script) × AreBatchesOf script parsed))
