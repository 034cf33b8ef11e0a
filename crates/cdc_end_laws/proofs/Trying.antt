-- Steps that are tried again fail each time, or are taken.
use Rattle.cdc_end_laws.proofs.Words.{Err, IsTrue, List, Some, [], drop, refl, subst, suc, ℕ, ◌∷◌, ◌≡◌}
use Rattle.cdc_progress.specs.Stores.{Risks}
use Rattle.cdc_types.specs.declared.steps.Step.{Step}
use Rattle.cdc_world.specs.declared.steps.StepError.{StepError}
use Rattle.cdc_world.specs.Moves.{StopsAt}
use Rattle.cdc_world.specs.Tries.{FailsTimes, NextPast, is_passing}
use Rattle.cdc_world.specs.Worlds.{WorldState}
use Rattle.cdc_end_laws.specs.Tries.{RefusedPlaysFailedEachTime, RefusedStepsFailedEachTime}

pub steps_failed : RefusedStepsFailedEachTime
steps_failed risks tries w step answer w' past passing =
    subst (λ (n : ℕ). FailsTimes risks (suc n) w step w') (past.spent passing)
    (answer, past.before, (past.fails, (passing, past.last)))

-- a play stops at the first of the steps that are left
stops_at : (risks : Risks) (tries : ℕ) (w : WorldState) (steps left : List Step) (done : ℕ) (before w' : WorldState)
    (why : StepError) → drop done steps ≡ left → IsTrue (is_passing (Err why))
    → StopsAt (NextPast risks tries) before left (Some why) w'
    → (step : Step) × (rest : List Step)
    × ((drop done steps ≡ step ∷ rest) × FailsTimes risks (suc tries) before step w')
stops_at risks tries w steps [] done before w' why is passing stops = absurd stops
stops_at risks tries w steps (step ∷ rest) done before w' why is passing stops =
    (step, rest, (is, steps_failed risks tries before step (Err why) w' stops passing))

pub plays_failed : RefusedPlaysFailedEachTime
plays_failed risks tries w steps done why w' play passing =
    let at = stops_at risks tries w steps (drop done steps) done play.before w' why refl passing play.stops in
    record {
      before = play.before;
      does = play.does;
      step = at.0;
      rest = at.1;
      next = at.2.0;
      fails = at.2.1;
    }
