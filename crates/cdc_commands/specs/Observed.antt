-- What an observer has seen of a command that plays a simulation.
use Rattle.std.specs.Prelude.{List, [], Option}
use Rattle.cdc_script.specs.declared.scripts.Script.{Script}
use Rattle.cdc_world.specs.declared.steps.StepError.{StepError}
use Rattle.cdc_commands.specs.declared.endings.Ending.{Ending}
use Rattle.cdc_commands.specs.Seen.{Seen}
use Rattle.cdc_commands.specs.Simulated.{PrintsPlan, SimulationInput}
use Rattle.cdc_commands.specs.Simulations.{Plan, PlaysActs, Stage, at_start}

-- just the steps that the acts of a plan take have been seen, up to the one that is refused for this reason, or to the
-- last
pub record SawPlan (HasSeen : List Seen → Type 0) (plan : Plan) (refusal : Option StepError) : Type 0 where
  pub end : Stage
  pub plays : PlaysActs plan.script.batches (at_start plan.script.bindings plan.window) plan.acts refusal end
  pub seen : HasSeen end.seen

-- the same of the plan as which the input of a command is parsed that ends so; nothing of an input with a fault, or if
-- what has to be found isn't in the script
abbrev pub SawSteps : {X : Type 0} → (List Seen → Type 0) → (Script → Option X → Type 0) → SimulationInput → Ending
    → Type 0
SawSteps HasSeen Finds input ending =
    PrintsPlan (λ plan refusal printed. SawPlan HasSeen plan refusal) Finds (λ word ended printed. Unit {0}) input
    ending []
