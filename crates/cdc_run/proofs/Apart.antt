-- Actors of one kind, taken apart one after another.
use Rattle.cdc_run.proofs.Words.{ActorState, AreActorsOf, AreLeftOf, Bool, List, Some, [], ap, ap₂, arith, get_or, has_finished, length, map, refl, slice_get, slice_get_read, subst, suc, true, works_of, zero, ℕ, ◌++◌, ◌+◌, ◌<◌, ◌∙◌, ◌∷◌, ◌≡◌}

module _ {W : Type 0} (number_of : W → ℕ) (keeps : W → Type 0) (is_over : W → Bool) where
  -- one more of them
  pub ends_push : (system number : ℕ) (ends : List (ActorState W)) (e : ActorState W)
      → AreActorsOf number_of keeps is_over system number ends → e.system ≡ system
      → number_of e.work ≡ number + length ends → keeps e.work → has_finished is_over e ≡ true
      → AreActorsOf number_of keeps is_over system number (ends ++ e ∷ [])
  ends_push system number [] e are its named is finished =
      let same : number + 0 ≡ number = omega arith in
      (its, named ∙ same, is, finished, tt)
  ends_push system number (first ∷ ends) e are its named is finished =
      let same : number + length (first ∷ ends) ≡ number + 1 + length ends = omega arith in
      (are.0, are.1, are.2, are.3, ends_push system (number + 1) ends e are.4 its (named ∙ same) is finished)

  -- what holds of the actor at a place
  end_at : (system number : ℕ) (ends : List (ActorState W)) (place : ℕ) (e : ActorState W)
      → AreActorsOf number_of keeps is_over system number ends → slice_get ends place ≡ Some e
      → (e.system ≡ system) × (number_of e.work ≡ number + place) × (has_finished is_over e ≡ true)
  end_at system number [] place e are found = cc
  end_at system number (first ∷ ends) zero e are found =
      let same : first ≡ e = cc in
      let here : number ≡ number + 0 = omega arith in (
        subst (λ (x : ActorState W). x.system ≡ system) same are.0,
        subst (λ (x : ActorState W). number_of x.work ≡ number) same are.1 ∙ here,
        subst (λ (x : ActorState W). has_finished is_over x ≡ true) same are.3,
      )
  end_at system number (first ∷ ends) (suc place) e are found =
      let rest = end_at system (number + 1) ends place e are.4 found in
      let same : number + 1 + place ≡ number + suc place = omega arith in
      (rest.0, rest.1 ∙ same, rest.2)

  -- the one after those that were taken apart isn't as it has to be
  pub unfit_end : (system : ℕ) (ends before : List (ActorState W)) (e : ActorState W)
      → (length before < length ends) × (e ≡ get_or ends (length before) e)
      → (e.system ≡ system → number_of e.work ≡ 1 + length before → has_finished is_over e ≡ true → ⊥)
      → AreActorsOf number_of keeps is_over system 1 ends → ⊥
  unfit_end system ends before e next unfit are =
      let all : length ends ≡ length ends = refl in
      let its = end_at system 1 ends (length before) e are
      (slice_get_read ends (length ends) (length before) e all next.0 next.1) in
      unfit its.0 its.1 its.2

module _ {W P : Type 0} (leaves : W → P → Type 0) where
  -- what one more has left
  pub left_push : (ends : List (ActorState W)) (parts : List P) (e : ActorState W) (p : P)
      → AreLeftOf leaves (works_of ends) parts → leaves e.work p
      → AreLeftOf leaves (works_of (ends ++ e ∷ [])) (parts ++ p ∷ [])
  left_push [] [] e p are its = (its, tt)
  left_push [] (q ∷ parts) e p are its = absurd are
  left_push (first ∷ ends) [] e p are its = absurd are
  left_push (first ∷ ends) (q ∷ parts) e p are its = (are.0, left_push ends parts e p are.1 its)

  -- as many as there were actors
  pub left_count : (ends : List (ActorState W)) (parts : List P) → AreLeftOf leaves (works_of ends) parts
      → length parts ≡ length ends
  left_count [] [] are = refl
  left_count [] (q ∷ parts) are = absurd are
  left_count (first ∷ ends) [] are = absurd are
  left_count (first ∷ ends) (q ∷ parts) are = ap (λ (n : ℕ). suc n) (left_count ends parts are.1)

  -- if each part has a value of its work, the lists of these values are equal
  pub left_of : {B : Type 0} (of_part : P → B) (of_work : W → B)
      → ((w : W) (p : P) → leaves w p → of_part p ≡ of_work w) → (works : List W) (parts : List P)
      → AreLeftOf leaves works parts → map of_part parts ≡ map of_work works
  left_of of_part of_work same [] [] are = refl
  left_of of_part of_work same [] (q ∷ parts) are = absurd are
  left_of of_part of_work same (w ∷ works) [] are = absurd are
  left_of {B} of_part of_work same (w ∷ works) (p ∷ parts) are =
      ap₂ (λ (x : B) (xs : List B). x ∷ xs) (same w p are.0) (left_of of_part of_work same works parts are.1)
