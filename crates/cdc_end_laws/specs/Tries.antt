-- When a step that is tried again is refused all the same.
use Rattle.std.specs.Prelude.{◌≡◌, ℕ, suc, IsTrue, List, ◌∷◌, Some, Result, Err, drop, take}
use Rattle.cdc_progress.specs.Stores.{Risks}
use Rattle.cdc_types.specs.declared.steps.Step.{Step}
use Rattle.cdc_world.specs.declared.steps.Did.{Did}
use Rattle.cdc_world.specs.declared.steps.StepError.{StepError}
use Rattle.cdc_world.specs.Moves.{DoesAll, IsPlayBy}
use Rattle.cdc_world.specs.Tries.{FailsTimes, NextPast, is_passing}
use Rattle.cdc_world.specs.Worlds.{WorldState}

-- a step that may be tried again so many times, and is refused at last because the store failed or memory ran out, has
-- failed as many times in a row and once more
abbrev pub RefusedStepsFailedEachTime : Type 0
RefusedStepsFailedEachTime = (risks : Risks) (tries : ℕ) (w : WorldState) (step : Step) (answer : Result Did StepError)
    (w' : WorldState) → NextPast risks tries w step answer w' → IsTrue (is_passing answer)
    → FailsTimes risks (suc tries) w step w'

-- a play that ended at a step that was refused so: the steps before it were done, and it failed each time
pub record FailedEachTime (risks : Risks) (tries : ℕ) (w : WorldState) (steps : List Step) (done : ℕ)
    (w' : WorldState) : Type 0 where
  pub before : WorldState
  pub does : DoesAll (NextPast risks tries) w (take done steps) before
  pub step : Step
  pub rest : List Step
  pub next : drop done steps ≡ step ∷ rest
  pub fails : FailsTimes risks (suc tries) before step w'

-- each play of such steps that is refused so did
abbrev pub RefusedPlaysFailedEachTime : Type 0
RefusedPlaysFailedEachTime = (risks : Risks) (tries : ℕ) (w : WorldState) (steps : List Step) (done : ℕ)
    (why : StepError) (w' : WorldState) → IsPlayBy (NextPast risks tries) w steps done (Some why) w'
    → IsTrue (is_passing (Err why)) → FailedEachTime risks tries w steps done w'
