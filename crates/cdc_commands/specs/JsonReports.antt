-- What commands print as JSON of what they report.
use Rattle.std.specs.Prelude.{◌≡◌, ℕ, List, ◌∷◌, ◌++◌, codes, length, map, Option}
use Rattle.serde_json.specs.Data.{Data}
use Rattle.cdc_ledger.specs.Events.{events}
use Rattle.cdc_ledger.specs.History.{empty_history}
use Rattle.cdc_laws.specs.Line.{line}
use Rattle.cdc_queue_lines.specs.Messages.{messages_text}
use Rattle.cdc_script.specs.declared.faults.ScriptFault.{ScriptFault}
use Rattle.cdc_script.specs.declared.scripts.Script.{Script}
use Rattle.cdc_subscriber.specs.Reception.{kept_of}
use Rattle.cdc_world.specs.declared.steps.StepError.{StepError}
use Rattle.cdc_commands.specs.declared.endings.Ending.{Ending}
use Rattle.cdc_commands.specs.declared.endings.Ending.TheVariants.{Failed, BadScript, BadSteps}
use Rattle.cdc_commands.specs.Feeds.{kept_by}
use Rattle.cdc_commands.specs.Printed.{answers_to, history_of}
use Rattle.cdc_commands.specs.Simulations.{Plan, PlaysActs, Stage, at_start}
use Rattle.cdc_commands.specs.ShownWords.{shown_bytes}
use Rattle.cdc_commands.specs.JsonValues.{answered_values, file_fault_value, progress_value, refusal_values, steps_value}
use Rattle.cdc_output.specs.Lines.{fault_value, json_line, json_lines, kept_values}

-- the line of the fault of a file, with the word in error as it is shown
abbrev pub ReportsFault : List ℕ → List ℕ → ScriptFault → List ℕ → Type 0
ReportsFault file word at printed = printed ≡ json_line (file_fault_value file at (shown_bytes word))

-- the values of `books`: those of the batches, and then those of the subscribers, each of which has taken its queue
abbrev pub books_values : Script → List Data
books_values script =
    answered_values (answers_to 1 empty_history script.batches)
    ++ kept_values 1 (map (kept_by (line (history_of script))) script.bindings)

-- what `books` reports of a script
abbrev pub ReportsBooks : Script → List ℕ → Type 0
ReportsBooks script printed = printed ≡ json_lines (books_values script)

-- `messages` reports the events of a script, each with the queues of its bindings that take it
abbrev pub ReportsMessages : Script → List ℕ → Type 0
ReportsMessages script printed = printed ≡ messages_text script.bindings (events (history_of script))

-- the line of the fault that a command ends with: for that of a file, with this word in error
abbrev pub ReportsEnding : List ℕ → Ending → List ℕ → Type 0
ReportsEnding word (BadScript at) printed = ReportsFault (codes "script") word at printed
ReportsEnding word (BadSteps at) printed = ReportsFault (codes "steps") word at printed
ReportsEnding word (Failed why) printed = printed ≡ json_line (fault_value why)
ReportsEnding word _ printed = ⊥

-- the values of a simulation that came to this stage, of so many acts
abbrev pub simulation_values : ℕ → Option StepError → Stage → List Data
simulation_values all refusal end =
    answered_values end.answers ++ (steps_value end.done all ∷ (refusal_values end.done refusal
    ++ (progress_value end.world.held ∷ kept_values 1 (map (λ s. kept_of s.reception) end.world.subscriptions))))

-- a simulation of this plan reports this, for the stage that its acts lead to
pub record ReportsSimulation (plan : Plan) (refusal : Option StepError) (printed : List ℕ) : Type 0 where
  pub end : Stage
  pub plays : PlaysActs plan.script.batches (at_start plan.script.bindings plan.window) plan.acts refusal end
  pub prints : printed ≡ json_lines (simulation_values (length plan.acts) refusal end)
