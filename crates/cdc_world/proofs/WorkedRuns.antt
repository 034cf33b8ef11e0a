-- Steps in a row lead to the world that is left after them.
use Rattle.cdc_world.proofs.Words.{Arguments, Err, IsReached, Leads, List, None, Ok, Outcome, Run, Step, WorldState, [], add-one, going_on, new_world, next, refl, run_of, take, ℕ, ◌∷◌, ◌≡◌}

-- one step, if those that follow lead to the world after them
leads-on : (w : WorldState) (step : Step) (steps : List Step) (rest : WorldState → Run)
    → ((between : WorldState) → Leads between (take (rest between).0.0 steps) (rest between).1)
    → (outcome : Outcome) → next w step ≡ outcome
    → Leads w (take (going_on w outcome rest).0.0 (step ∷ steps)) (going_on w outcome rest).1
leads-on w step steps rest lead (Ok did) is =
    rw (add-one (rest did.1).0.0) (Ok did.0, did.1, is, lead did.1)
leads-on w step steps rest lead (Err why) is = refl

-- the steps of a run that were done lead to the world after it
pub runs-lead : (w : WorldState) (steps : List Step)
    → Leads w (take (run_of w steps).0.0 steps) (run_of w steps).1
runs-lead w [] = refl
runs-lead w (step ∷ steps) =
    leads-on w step steps (λ between. run_of between steps) (λ between. runs-lead between steps) (next w step) refl

-- a run from a world in which nothing has happened, over an empty store, reaches its last world
pub reaches : (bindings : List Arguments) (window : ℕ) (steps : List Step)
    → IsReached (run_of (new_world bindings window None) steps).1
reaches bindings window steps = record {
  bindings = bindings;
  window = window;
  held = None;
  steps = take (run_of (new_world bindings window None) steps).0.0 steps;
  at_start = tt;
  leads = runs-lead (new_world bindings window None) steps;
}
