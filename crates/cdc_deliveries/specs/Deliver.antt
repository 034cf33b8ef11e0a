-- What `simulate --deliveries` prints of a simulation.
use Rattle.std.specs.Prelude.{◌≡◌, ℕ, Bool, List, if◌then◌else◌, Option, Some}
use Rattle.cdc_types.specs.declared.events.Event.{Event}
use Rattle.cdc_ledger.specs.Events.{events}
use Rattle.cdc_match.specs.Arguments.{Arguments}
use Rattle.cdc_world.specs.declared.steps.StepError.{StepError}
use Rattle.cdc_commands.specs.QueuePrinted.{binding_at}
use Rattle.cdc_commands.specs.Simulations.{Plan, PlaysActs, Stage, at_start}
use Rattle.cdc_deliveries.specs.declared.arrivals.Arrival.{Arrival}
use Rattle.cdc_deliveries.specs.declared.asked.Asked.{Asked}
use Rattle.cdc_deliveries.specs.Arrivals.{arrivals}
use Rattle.cdc_deliveries.specs.Recorded.{delivery_steps}
use Rattle.cdc_deliveries.specs.DeliveryLines.{delivery_text}
use Rattle.cdc_deliveries.specs.Expected.{expected_text}
use Rattle.cdc_deliveries.specs.Taken.{ArrivesAsTaken}

-- the lines of deliveries, or of what must come of them
abbrev pub asked_text : Bool → Arguments → List Event → List Arrival → List ℕ
asked_text expects binding events arrived =
    if expects then expected_text binding events arrived else delivery_text binding events arrived

-- a simulation of this plan delivers this: to the subscriber that is asked for, up to the stage that the acts lead to,
-- just what the world's subscriber took up to its close
pub record Delivers (asked : Asked) (plan : Plan) (refusal : Option StepError) (printed : List ℕ) : Type 0 where
  pub binding : Arguments
  pub binds : binding_at plan.script.bindings asked.subscriber ≡ Some binding
  pub end : Stage
  pub plays : PlaysActs plan.script.batches (at_start plan.script.bindings plan.window) plan.acts refusal end
  pub prints : printed ≡ asked_text asked.expects binding (events end.world.history)
      (arrivals asked.subscriber (delivery_steps end.seen))
  pub arrives : ArrivesAsTaken asked.subscriber binding plan refusal end
