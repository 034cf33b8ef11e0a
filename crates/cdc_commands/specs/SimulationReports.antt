-- What a simulation is reported to have come to.
use Rattle.std.specs.Prelude.{◌≡◌}
use Rattle.cdc_world.specs.Stands.{Stands}
use Rattle.cdc_commands.specs.declared.simulations.Simulated.{Simulated}
use Rattle.cdc_commands.specs.Simulations.{Plan, PlaysActs, Stage, at_start}

-- this is the report of a simulation that came to this stage
pub record IsReportOf (end : Stage) (simulated : Simulated) : Type 0 where
  pub answers : simulated.answers.items ≡ end.answers
  pub done : end.done ≡ simulated.played.done
  pub held : simulated.held ≡ end.world.held
  pub world : Stands simulated.world end.world

-- the acts of a plan lead to the stage that is reported
pub record ComesTo (plan : Plan) (simulated : Simulated) : Type 0 where
  pub end : Stage
  pub plays : PlaysActs plan.script.batches (at_start plan.script.bindings plan.window) plan.acts
      simulated.played.refusal end
  pub report : IsReportOf end simulated
