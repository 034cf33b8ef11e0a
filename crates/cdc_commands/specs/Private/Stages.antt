-- The stage that a simulation has come to.
use Rattle.std.specs.Prelude.{◌≡◌, ℕ, List, Ok, Some, slice_get}
use Rattle.cdc_types.specs.declared.steps.Step.{Step}
use Rattle.cdc_types.specs.declared.steps.Step.TheVariants as step
use Rattle.cdc_world.specs.declared.steps.Did.{Did}
use Rattle.cdc_world.specs.Next.{Next}
use Rattle.cdc_world.specs.Parts.{Parts}
use Rattle.cdc_world.specs.Stands.{Stands}
use Rattle.cdc_world.specs.Worlds.{WorldState}
use Rattle.cdc_script.specs.declared.scripts.ClientBatch.{ClientBatch}
use Rattle.cdc_script.specs.declared.step_files.Act.{Act}
use Rattle.cdc_script.specs.declared.step_files.Act.TheVariants as act
use Rattle.cdc_commands.specs.declared.batches.Answered.{Answered}
use Rattle.cdc_commands.specs.Simulations.{Stage}

-- what contracts see of a simulation: its world, how many batches are done, and what the ledger answered
pub record SimulationParts : Type 0 where
  pub world : Parts
  pub batches : ℕ
  pub answers : List Answered

-- its world represents that of the stage, and its batches and the answers are those of the stage
pub record IsAt (simulation : SimulationParts) (stage : Stage) : Type 0 where
  pub world : Stands simulation.world stage.world
  pub batches : simulation.batches ≡ stage.batches
  pub answers : simulation.answers ≡ stage.answers

-- a step was done at a stage, and the simulation's world represents the one after it
abbrev pub HasDoneAt : Stage → Step → SimulationParts → Type 0
HasDoneAt stage step simulation =
    (did : Did) × (w : WorldState) × (Stands simulation.world w × Next stage.world step (Ok did) w)

-- a simulation fails at an act whose step was done, if there is no room for what is printed of it: for a batch, the
-- step that submits the batch at its place in the script
abbrev pub AbortsAt : List ClientBatch → Stage → Act → SimulationParts → Type 0
AbortsAt batches stage act.Batch simulation =
    (b : ClientBatch) × ((slice_get batches stage.batches ≡ Some b) × HasDoneAt stage (step.Submit b.batch) simulation)
AbortsAt batches stage (act.Step stated) simulation = HasDoneAt stage stated simulation
