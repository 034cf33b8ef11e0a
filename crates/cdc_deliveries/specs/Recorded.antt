-- The steps of deliveries among those of a simulation.
use Rattle.std.specs.Prelude.{ℕ, List, Option, Some, None}
use Rattle.std.specs.List.{filter_map}
use Rattle.cdc_types.specs.declared.steps.Step.{Step}
use Rattle.cdc_types.specs.declared.steps.Step.TheVariants.{Send, Break, Take}
use Rattle.cdc_world.specs.declared.moved.Moved.{Moved}
use Rattle.cdc_world.specs.declared.moved.Moved.TheVariants.{DeliverySent, DeliveryTaken}
use Rattle.cdc_world.specs.declared.steps.Did.{Did}
use Rattle.cdc_world.specs.declared.steps.Did.TheVariants.{Took}
use Rattle.cdc_commands.specs.Seen.{Seen}
use Rattle.cdc_deliveries.specs.declared.steps.DeliveryStep.{DeliveryStep}
use Rattle.cdc_deliveries.specs.declared.steps.DeliveryStep.TheVariants as delivery

-- a queue sent an item
abbrev pub sent_step : ℕ → Option Moved → Option DeliveryStep
sent_step i (Some (DeliverySent position item)) = Some (delivery.Sent i position)
sent_step i _ = None

-- a subscriber took an item, and answered so
abbrev pub taken_step : ℕ → Did → Option Moved → Option DeliveryStep
taken_step i (Took answer) (Some (DeliveryTaken position item)) = Some (delivery.Taken i position item answer)
taken_step i _ _ = None

-- what a step did with deliveries
abbrev pub step_of : Step → Did → Option Moved → Option DeliveryStep
step_of (Send i) did moved = sent_step i moved
step_of (Break i) did moved = Some (delivery.Lost i)
step_of (Take i) did moved = taken_step i did moved
step_of _ did moved = None

abbrev pub delivery_step : Seen → Option DeliveryStep
delivery_step seen = step_of seen.step seen.did seen.moved

-- the steps of deliveries among those that were seen
abbrev pub delivery_steps : List Seen → List DeliveryStep
delivery_steps seen = filter_map delivery_step seen
