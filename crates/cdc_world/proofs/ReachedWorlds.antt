-- A world that steps lead to stays one as it goes on.
use Rattle.cdc_world.proofs.Words.{Arguments, Did, Going, IsAtStart, IsPlay, IsPlayBy, IsReached, Leads, List, Next, NextOver, NextPast, Option, Result, Risks, Saved, Step, StepError, WorldState, [], new_world, refl, subst, ℕ, ◌++◌, ◌∷◌}
use Rattle.cdc_world.proofs.RelatedWorlds.{Keeps, Relates, has_past, has_play}

-- before the first step
pub IsReached-new : (bindings : List Arguments) (window : ℕ) (held : Option Saved)
    → IsAtStart held → IsReached (new_world bindings window held)
IsReached-new bindings window held start =
    record { bindings = bindings; window = window; held = held; steps = []; at_start = start; leads = refl }

-- one more step at the end
Leads-push : (w v w' : WorldState) (steps : List Step) (step : Step)
    (answer : Result Did StepError) → Leads w steps v → Next v step answer w' → Leads w (steps ++ step ∷ []) w'
Leads-push w v w' [] step answer leads next =
    (answer, w', subst (λ (x : WorldState). Next x step answer w') leads next, refl)
Leads-push w v w' (s ∷ steps) step answer (first, between, here, rest) next =
    (first, between, here, Leads-push between v w' steps step answer rest next)

-- so a step leads on to a world that is reached too, whatever its answer
pub IsReached-next : (w : WorldState) (step : Step) (answer : Result Did StepError)
    (w' : WorldState) → IsReached w → Next w step answer w' → IsReached w'
IsReached-next w step answer w' reached next = record {
  bindings = reached.bindings;
  window = reached.window;
  held = reached.held;
  steps = reached.steps ++ step ∷ [];
  at_start = reached.at_start;
  leads = Leads-push (new_world reached.bindings reached.window reached.held) w w' reached.steps step answer
      reached.leads next;
}

-- ---- plays

-- so a play leads on, whose steps are taken like this
IsReached-by : (Goes : Going) → Relates (Keeps IsReached) Goes → (w : WorldState) (steps : List Step) (done : ℕ)
    → (refusal : Option StepError) (w' : WorldState) → IsReached w → IsPlayBy Goes w steps done refusal w'
    → IsReached w'
IsReached-by Goes kept w steps done refusal w' reached plays =
    has_play (Keeps IsReached) (λ v holds. holds) (λ u v x first second holds. second (first holds)) Goes kept w steps
    done refusal w' plays reached

-- each step once
pub IsReached-played : (risks : Risks) (w : WorldState) (steps : List Step) (done : ℕ) (refusal : Option StepError)
    (w' : WorldState) → IsReached w → IsPlay risks w steps done refusal w' → IsReached w'
IsReached-played risks =
    IsReached-by (NextOver risks) (λ w step answer w' next reached. IsReached-next w step answer w' reached next.0)

-- or again
pub IsReached-played-past : (risks : Risks) (tries : ℕ) (w : WorldState) (steps : List Step) (done : ℕ)
    (refusal : Option StepError) (w' : WorldState) → IsReached w
    → IsPlayBy (NextPast risks tries) w steps done refusal w' → IsReached w'
IsReached-played-past risks tries =
    IsReached-by (NextPast risks tries)
    (has_past (Keeps IsReached) (λ v holds. holds) (λ u v x first second holds. second (first holds))
    (λ w step answer w' next reached. IsReached-next w step answer w' reached next) risks tries)
