-- The outcomes of jobs among which no stop counts: each job has finished.
use Rattle.cdc_run.proofs.Words.{AllZip, Bool, ComesTo, Err, List, Met, None, Ok, Option, Place, Result, Some, StopState, [], ap, false, finished_in, first_of, first_stop, if◌then◌else◌, is_gone, refl, sym, true, ◌++◌, ◌∙◌, ◌∷◌, ◌≡◌}
use Rattle.std.proofs.lemmas.List.{append-nil}

-- whichever of two is chosen, it is one
some_chosen : {A : Type 0} (b : Bool) (x y : A) → (if b then Some x else Some y) ≡ None → ⊥
some_chosen true x y none = cc
some_chosen false x y none = cc

one_chosen : {A : Type 0} (b d : Bool) (x y : A)
    → (if b then (if d then Some x else Some y) else Some x) ≡ None → ⊥
one_chosen true true x y none = cc
one_chosen true false x y none = cc
one_chosen false d x y none = cc

-- if one has stopped, some stop counts
one_counts : (one : Place × Met) (later : Option (Place × Met)) → first_of (Some one) later ≡ None → ⊥
one_counts one None none = some_chosen (is_gone one.1) one one none
one_counts one (Some later) none = one_chosen (is_gone one.1) (is_gone later.1) one later none

-- if no stop counts, each job has finished
pub all_ended : {J End : Type 0} (R : J → End → Type 0) (F : J → StopState → Type 0) (jobs : List J)
    (outcomes : List (Result End StopState)) → AllZip (ComesTo R F) jobs outcomes → first_stop outcomes ≡ None
    → AllZip R jobs (finished_in outcomes)
all_ended R F [] [] come none = tt
all_ended R F [] (outcome ∷ outcomes) come none = absurd come
all_ended R F (job ∷ jobs) [] come none = absurd come
all_ended R F (job ∷ jobs) (Ok end ∷ outcomes) come none = (come.0.end, all_ended R F jobs outcomes come.1 none)
all_ended R F (job ∷ jobs) (Err stop ∷ outcomes) come none =
    absurd (one_counts (stop.place, stop.met) (first_stop outcomes) none)

-- one more outcome
finished_push : {End : Type 0} (outcomes : List (Result End StopState)) (outcome : Result End StopState)
    → (finished_in outcomes ++ finished_in (outcome ∷ [])) ≡ finished_in (outcomes ++ outcome ∷ [])
finished_push [] outcome = refl
finished_push (Ok end ∷ outcomes) outcome = ap (λ l. end ∷ l) (finished_push outcomes outcome)
finished_push (Err stop ∷ outcomes) outcome = finished_push outcomes outcome

module _ {End : Type 0} (ends : List End) (outcomes : List (Result End StopState)) (outcome : Result End StopState)
    (are : ends ≡ finished_in outcomes) where
  -- it is the end of a job
  pub one_finished : (end : End) (more : List End) → outcome ≡ Ok end → more ≡ ends ++ end ∷ []
      → more ≡ finished_in (outcomes ++ outcome ∷ [])
  one_finished end more is pushed =
      pushed ∙ ap (λ (l : List End). l ++ end ∷ []) are
      ∙ ap (λ (o : Result End StopState). finished_in outcomes ++ finished_in (o ∷ [])) (sym is)
      ∙ finished_push outcomes outcome

  -- it is none
  pub one_stopped : (stop : StopState) → outcome ≡ Err stop → ends ≡ finished_in (outcomes ++ outcome ∷ [])
  one_stopped stop is =
      are ∙ sym (append-nil (finished_in outcomes))
      ∙ ap (λ (o : Result End StopState). finished_in outcomes ++ finished_in (o ∷ [])) (sym is)
      ∙ finished_push outcomes outcome
