-- What the arguments of the command line ask for.
use Rattle.std.specs.Prelude.{◌≡◌, ℕ, false, List, None, codes}
use Rattle.cdc_plans.specs.Faults.{HasNoFaults}
use Rattle.cdc_types.specs.Windows.{IsWindow}
use Rattle.cdc_plans.specs.Plans.{IsPlan}
use Rattle.cdc_plans.specs.declared.run_plans.RunPlan.{RunPlan}
use Rattle.cdc_arguments.specs.declared.command_line.Options.{Options}
use Rattle.cdc_arguments.specs.declared.command_line.Options.TheVariants.{Books, Messages, Simulate, Random, Run, Check, Follow, Audit, Chain}
use Rattle.cdc_arguments.specs.declared.command_line.Options.TheVariants.{Consume, Explain}
use Rattle.cdc_arguments.specs.declared.command_line.Form.TheVariants.{Text}
use Rattle.cdc_arguments.specs.declared.command_line.OptionsFault.{OptionsFault}
use Rattle.cdc_arguments.specs.declared.command_line.OptionsFault.TheVariants.{BadWords, OutOfMemory}

-- the plan of a run without any option: a window of one event, a prefetch of 8, no fault and no start
pub record IsDefaultPlan (plan : RunPlan) : Type 0 where
  pub window : plan.window ≡ 1
  pub prefetch : plan.prefetch ≡ 8
  pub faults : HasNoFaults plan.faults
  pub start : plan.start ≡ None

-- the command `run` over the file of this name, by the default plan, with its progress in memory, its report printed as
-- text, and without further diagnostics
abbrev pub IsRun : List ℕ → Options → Type 0
IsRun name (Books file explain form) = ⊥
IsRun name (Messages file queue form) = ⊥
IsRun name (Simulate file steps skips_refused window deliveries diagnostics form) = ⊥
IsRun name (Random file window deliveries chances diagnostics form) = ⊥
IsRun name (Run file plan progress deliveries diagnostics form) =
    (file.now ≡ name) × (IsDefaultPlan plan × ((progress ≡ None) × ((deliveries ≡ None)
    × ((diagnostics ≡ record { explain = false; trace = false }) × (form ≡ Text)))))
IsRun name (Check file steps has_diagram form) = ⊥
IsRun name (Follow file plan form) = ⊥
IsRun name (Audit file plan form) = ⊥
IsRun name (Chain file plan) = ⊥
IsRun name (Consume plan form) = ⊥
IsRun name (Explain text) = ⊥

-- the numbers that are asked for are within their limits
abbrev pub IsWithinLimits : Options → Type 0
IsWithinLimits (Books file explain form) = Unit {0}
IsWithinLimits (Messages file queue form) = Unit {0}
IsWithinLimits (Simulate file steps skips_refused window deliveries diagnostics form) = IsWindow window
IsWithinLimits (Random file window deliveries chances diagnostics form) = IsWindow window
IsWithinLimits (Run file plan progress deliveries diagnostics form) = IsPlan plan
IsWithinLimits (Check file steps has_diagram form) = Unit {0}
IsWithinLimits (Follow file plan form) = Unit {0}
IsWithinLimits (Audit file plan form) = Unit {0}
IsWithinLimits (Chain file plan) = Unit {0}
IsWithinLimits (Consume plan form) = Unit {0}
IsWithinLimits (Explain text) = Unit {0}

-- the place of a fault in the list of them
abbrev pub options_fault_number : OptionsFault → ℕ
options_fault_number (BadWords message) = 1
options_fault_number OutOfMemory = 2

-- the name of a fault
abbrev pub options_fault_name : OptionsFault → List ℕ
options_fault_name (BadWords message) = codes "bad_words"
options_fault_name OutOfMemory = codes "out_of_memory"
