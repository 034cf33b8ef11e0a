-- Actors of one kind in a run, taken apart once they have finished.
use Rattle.std.specs.Prelude.{◌≡◌, ℕ, ◌+◌, Bool, true, List, [], ◌∷◌, map}
use Rattle.cdc_actors.specs.Ends.{ActorState, has_finished}

-- what they work with
abbrev pub works_of : {W : Type 0} → List (ActorState W) → List W
works_of ends = map (λ e. e.work) ends

-- what each has left, at its place
abbrev pub AreLeftOf : {W P : Type 0} → (W → P → Type 0) → List W → List P → Type 0
AreLeftOf leaves [] [] = Unit {0}
AreLeftOf leaves [] (p ∷ parts) = ⊥
AreLeftOf leaves (w ∷ works) [] = ⊥
AreLeftOf leaves (w ∷ works) (p ∷ parts) = leaves w p × AreLeftOf leaves works parts

module _ {W : Type 0} (number_of : W → ℕ) (keeps : W → Type 0) (is_over : W → Bool) where
  -- actors of a system that have finished and have met no fault, with these numbers one after another
  abbrev pub AreActorsOf : ℕ → ℕ → List (ActorState W) → Type 0
  AreActorsOf system number [] = Unit {0}
  AreActorsOf system number (e ∷ ends) =
      (e.system ≡ system) × (number_of e.work ≡ number) × keeps e.work × (has_finished is_over e ≡ true)
      × AreActorsOf system (number + 1) ends
