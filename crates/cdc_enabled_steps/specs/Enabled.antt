-- The steps of a step file that a simulation can take, one after another.
use Rattle.std.specs.Prelude.{ℕ, List, [], ◌∷◌, ◌++◌, fold, map, Option, Some, None, Ok, Err}
use Rattle.cdc_script.specs.declared.scripts.ClientBatch.{ClientBatch}
use Rattle.cdc_script.specs.declared.scripts.Script.{Script}
use Rattle.cdc_script.specs.declared.step_files.Act.{Act}
use Rattle.cdc_script.specs.declared.step_files.Act.TheVariants as act
use Rattle.cdc_types.specs.declared.steps.Step.{Step}
use Rattle.cdc_types.specs.declared.steps.Step.TheVariants as step
use Rattle.cdc_world.specs.Next.{Outcome, next}
use Rattle.cdc_world.specs.Worlds.{WorldState, new_world}

-- how far the acts were tried: the world, the steps that submit the batches that are left, and the acts that were done
pub record Trial : Type 0 where
  pub world : WorldState
  pub left : List Step
  pub done : List Act

-- the step that submits a batch
abbrev pub submission : ClientBatch → Step
submission batch = step.Submit batch.batch

-- the first of these steps, and those after it
abbrev pub first_of : List Step → Option (Step × List Step)
first_of [] = None
first_of (first ∷ left) = Some (first, left)

-- the step that an act asks for, and the submissions that are left after it; `batch` asks for the first of those left
abbrev pub asked : Act → List Step → Option (Step × List Step)
asked act.Batch left = first_of left
asked (act.Step stated) left = Some (stated, left)

-- the act is done, and leads to another world; or it is refused, and nothing changes
abbrev pub after_outcome : Trial → Act → List Step → Outcome → Trial
after_outcome trial a left (Ok did) = record { world = did.1; left = left; done = trial.done ++ a ∷ [] }
after_outcome trial a left (Err why) = trial

-- what an act asks for is tried, if it asks for something
abbrev pub after_asking : Trial → Act → Option (Step × List Step) → Trial
after_asking trial a None = trial
after_asking trial a (Some want) = after_outcome trial a want.1 (next trial.world want.0)

-- an act is tried
abbrev pub after_trial : Trial → Act → Trial
after_trial trial a = after_asking trial a (asked a trial.left)

-- nothing was tried in this world
abbrev pub new_trial : WorldState → List Step → Trial
new_trial world left = record { world = world; left = left; done = [] }

-- the acts of these that a simulation of a script takes, if it goes past those that are refused
abbrev pub enabled_acts : Script → ℕ → List Act → List Act
enabled_acts script window acts =
    (fold after_trial (new_trial (new_world script.bindings window None) (map submission script.batches)) acts).done
