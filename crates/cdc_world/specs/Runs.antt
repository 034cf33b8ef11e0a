-- Steps in a row, up to the first one that isn't done. Cited by worked runs and their laws.
use Rattle.std.specs.Prelude.{ℕ, ◌+◌, Option, Some, None, Ok, Err, List, [], ◌∷◌}
use Rattle.cdc_types.specs.declared.steps.Step.{Step}
use Rattle.cdc_world.specs.declared.steps.StepError.{StepError}
use Rattle.cdc_world.specs.Next.{Outcome, next}
use Rattle.cdc_world.specs.Worlds.{WorldState}

-- how many steps were done and why the one after them wasn't, if there was one; and the world after them
abbrev pub Run : Type 0
Run = (ℕ × Option StepError) × WorldState

-- a step that was done is one more, before those that follow; one that wasn't is the last
abbrev pub going_on : WorldState → Outcome → (WorldState → Run) → Run
going_on w (Ok did) rest = let later = rest did.1 in ((later.0.0 + 1, later.0.1), later.1)
going_on w (Err why) rest = ((0, Some why), w)

-- steps in a row, if memory and the store allow it
abbrev pub run_of : WorldState → List Step → Run
run_of w [] = ((0, None), w)
run_of w (step ∷ steps) = going_on w (next w step) (λ between. run_of between steps)
