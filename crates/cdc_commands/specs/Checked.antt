-- All that a command prints that only validates its files (`--check`).
use Rattle.std.specs.Prelude.{◌≡◌, ℕ, List, [], Option, IfSome, Ok, Err}
use Rattle.cdc_commands.specs.declared.endings.Ending.{Ending}
use Rattle.cdc_commands.specs.declared.endings.Ending.TheVariants.{Done, Failed, Refused, BadScript, BadSteps, BadWords}
use Rattle.cdc_script.specs.declared.scripts.Script.{Script}
use Rattle.cdc_script.specs.declared.step_files.Act.{Act}
use Rattle.cdc_script.specs.Scripts.{script_of}
use Rattle.cdc_script.specs.StepFiles.{acts_of}
use Rattle.cdc_commands.specs.FaultWords.{PrintsAtWord}
use Rattle.cdc_commands.specs.Outcomes.{MayFailScript}
use Rattle.cdc_commands.specs.Simulated.{IsGoodScript}

-- a check prints nothing of a good script
abbrev pub PrintsNothing : Script → List ℕ → Type 0
PrintsNothing script printed = printed ≡ []

-- the step file has no fault
abbrev pub IsGoodStepFile : List ℕ → Type 0
IsGoodStepFile steps = (acts : List Act) × (acts_of steps ≡ Ok acts)

-- this is printed by a check of a script and a step file with this ending, as far as their bytes are known, if this
-- is printed for faults; the steps are validated after the script
abbrev pub ValidatesFiles : (List ℕ → Ending → List ℕ → Type 0) → Option (List ℕ) → Option (List ℕ) → Ending → List ℕ
    → Type 0
ValidatesFiles ReportsFault script steps Done printed =
    (printed ≡ []) × (IfSome script IsGoodScript × IfSome steps IsGoodStepFile)
ValidatesFiles ReportsFault script steps (BadScript at) printed =
    PrintsAtWord (λ word. ReportsFault word (BadScript at)) script at.word printed
    × IfSome script (λ bytes. script_of bytes ≡ Err at)
ValidatesFiles ReportsFault script steps (BadSteps at) printed =
    PrintsAtWord (λ word. ReportsFault word (BadSteps at)) steps at.word printed
    × (IfSome script IsGoodScript × IfSome steps (λ bytes. acts_of bytes ≡ Err at))
ValidatesFiles ReportsFault script steps (Failed why) printed = MayFailScript why × ReportsFault [] (Failed why) printed
ValidatesFiles ReportsFault script steps (Refused why) printed = ⊥
ValidatesFiles ReportsFault script steps BadWords printed = ⊥
