-- All that `simulate` prints for a script and a step file.
use Rattle.std.specs.Prelude.{◌≡◌, ℕ, List, [], Option, Some, None, IfSome, Result, Ok, Err, option_map}
use Rattle.cdc_world.specs.declared.steps.StepError.{StepError}
use Rattle.cdc_commands.specs.declared.endings.Ending.{Ending}
use Rattle.cdc_commands.specs.declared.endings.Ending.TheVariants.{Done, Failed, Refused, BadScript, BadSteps, BadWords}
use Rattle.cdc_script.specs.declared.faults.ScriptFault.{ScriptFault}
use Rattle.cdc_script.specs.declared.scripts.Script.{Script}
use Rattle.cdc_script.specs.declared.step_files.Act.{Act}
use Rattle.cdc_commands.specs.FaultWords.{PrintsAtWord}
use Rattle.cdc_commands.specs.Outcomes.{MayFailScript}
use Rattle.cdc_script.specs.Scripts.{script_of}
use Rattle.cdc_script.specs.StepFiles.{acts_of}
use Rattle.cdc_commands.specs.Simulations.{Plan}

-- what `simulate` is given: the window of its sessions and, as far as they are known, the bytes of a script, the acts
-- of a step file or its first fault, and the bytes of the step file
pub record SimulationInput : Type 0 where
  pub window : ℕ
  pub script : Option (List ℕ)
  pub steps : Option (Result (List Act) ScriptFault)
  pub step_file : Option (List ℕ)

-- what a script and a step file give, whose bytes are known or not
abbrev pub of_files : ℕ → Option (List ℕ) → Option (List ℕ) → SimulationInput
of_files window script steps =
    record { window = window; script = script; steps = option_map acts_of steps; step_file = steps }

-- what a script gives, whose bytes are known or not, and acts that are in no file
abbrev pub of_acts : ℕ → Option (List ℕ) → List Act → SimulationInput
of_acts window script acts =
    record { window = window; script = script; steps = Some (Ok acts); step_file = None }

-- as far as they are known, these bytes of a script and these steps have no fault, and are parsed as this plan
pub record StatesPlan (window : ℕ) (script : Option (List ℕ)) (steps : Option (Result (List Act) ScriptFault))
    (plan : Plan) : Type 0 where
  pub window_is : plan.window ≡ window
  pub script_stated : IfSome script (λ bytes. script_of bytes ≡ Ok plan.script)
  pub steps_stated : IfSome steps (λ stated. stated ≡ Ok plan.acts)

-- what is given is parsed as a plan, for which this is printed
abbrev pub ReportsPlan : (Plan → List ℕ → Type 0) → SimulationInput → List ℕ → Type 0
ReportsPlan ReportsOf input printed =
    (plan : Plan) × (StatesPlan input.window input.script input.steps plan × ReportsOf plan printed)

-- nothing is printed for a plan if what has to be found isn't in its script
abbrev pub PrintsNone : {X : Type 0} → (Script → Option X → Type 0) → Plan → List ℕ → Type 0
PrintsNone Finds plan printed = Finds plan.script None × (printed ≡ [])

-- the script has no fault
abbrev pub IsGoodScript : List ℕ → Type 0
IsGoodScript script = (stated : Script) × (script_of script ≡ Ok stated)

-- this is printed by a command that is given such an input and has this ending, if this is printed for plans in whose
-- script something is found, and that for faults; the steps are validated after the script
abbrev pub PrintsPlan : {X : Type 0} → (Plan → Option StepError → List ℕ → Type 0) → (Script → Option X → Type 0)
    → (List ℕ → Ending → List ℕ → Type 0) → SimulationInput → Ending → List ℕ → Type 0
PrintsPlan ReportsOf Finds ReportsFault input Done printed =
    ReportsPlan (λ plan. ReportsOf plan None) input printed
PrintsPlan ReportsOf Finds ReportsFault input (Refused why) printed =
    ReportsPlan (λ plan. ReportsOf plan (Some why)) input printed
PrintsPlan ReportsOf Finds ReportsFault input (BadScript at) printed =
    PrintsAtWord (λ word. ReportsFault word (BadScript at)) input.script at.word printed
    × IfSome input.script (λ script. script_of script ≡ Err at)
PrintsPlan ReportsOf Finds ReportsFault input (BadSteps at) printed =
    PrintsAtWord (λ word. ReportsFault word (BadSteps at)) input.step_file at.word printed
    × (IfSome input.script IsGoodScript × IfSome input.steps (λ steps. steps ≡ Err at))
PrintsPlan ReportsOf Finds ReportsFault input (Failed why) printed =
    MayFailScript why × ReportsFault [] (Failed why) printed
PrintsPlan ReportsOf Finds ReportsFault input BadWords printed = ReportsPlan (PrintsNone Finds) input printed
