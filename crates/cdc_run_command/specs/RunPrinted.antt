-- All that `run` prints for a script.
use Rattle.std.specs.Prelude.{◌≡◌, ℕ, List, [], Option, None, IfSome, Err}
use Rattle.cdc_script.specs.Scripts.{script_of}
use Rattle.cdc_script.specs.declared.scripts.Script.{Script}
use Rattle.cdc_commands.specs.declared.endings.Ending.{Ending}
use Rattle.cdc_commands.specs.declared.endings.Ending.TheVariants.{Done, Failed, Refused, BadScript, BadSteps, BadWords}
use Rattle.cdc_commands.specs.FaultWords.{PrintsAtWord}
use Rattle.cdc_run.specs.declared.reports.Report.{Report}
use Rattle.cdc_run_command.specs.Failed.{MayEndWith}
use Rattle.cdc_run_command.specs.Runs.{RunsTo, Setting, StatesScript}

-- a command that runs such a script, whose bytes are known or not, ends so and prints this, if reports on runs of a
-- script in which something is found, and faults, are printed so
abbrev pub RunCommandPrints : {X : Type 0} → (Script → List ℕ → Report → List ℕ → Type 0)
    → (Script → Option X → Type 0) → (List ℕ → Ending → List ℕ → Type 0) → Setting → Option (List ℕ) → Ending → List ℕ
    → Type 0
RunCommandPrints Prints Finds PrintsFault setting bytes Done printed =
    StatesScript (λ script. RunsTo (Prints script) setting script) bytes printed
RunCommandPrints Prints Finds PrintsFault setting bytes BadWords printed =
    StatesScript (λ script text. Finds script None × (text ≡ [])) bytes printed
RunCommandPrints Prints Finds PrintsFault setting bytes (BadScript at) printed =
    PrintsAtWord (λ word. PrintsFault word (BadScript at)) bytes at.word printed
    × IfSome bytes (λ all. script_of all ≡ Err at)
RunCommandPrints Prints Finds PrintsFault setting bytes (Failed why) printed =
    MayEndWith setting.honest setting.risks why × PrintsFault [] (Failed why) printed
RunCommandPrints Prints Finds PrintsFault setting bytes (Refused why) printed = ⊥
RunCommandPrints Prints Finds PrintsFault setting bytes (BadSteps at) printed = ⊥
