-- What stands for the first entries of a stream, one after another, up to a number of entries.
use Rattle.std.proofs.Common.{◌≡◌, ℕ, ◌+◌, ◌≤◌, List, [], ◌∷◌, ◌++◌, Option, None, Some, subst, sym, arith}
use Rattle.std.specs.Prelude.{IfSome}
use Rattle.std.proofs.Math.Nat.{le_refl}
use Rattle.cdc_streams.specs.Saving.{StandInOrder}
use Rattle.cdc_streams.specs.Taking.{LeadsOn}

module _ {S : Type 0} (Stands : ℕ → S → Type 0) where
  abbrev pub StandTo : ℕ → ℕ → List S → Type 0
  StandTo from to [] = from ≤ to
  StandTo from to (state ∷ later) = (count : ℕ) × (from ≤ count) × Stands count state × StandTo count to later

  pub in_order : (from to : ℕ) (states : List S) → StandTo from to states → StandInOrder Stands from states
  in_order from to [] stand = tt
  in_order from to (state ∷ later) stand = (stand.0, stand.1, stand.2, in_order stand.0 to later stand.3)

  -- one more of them
  pub one_more : (from to count : ℕ) (states : List S) (state : S) → StandTo from to states → to ≤ count
      → Stands count state → StandTo from count (states ++ state ∷ [])
  one_more from to count [] state stand more stands = (count, omega arith, stands, le_refl count)
  one_more from to count (first ∷ later) state stand more stands =
      (stand.0, stand.1, stand.2, one_more stand.0 to count later state stand.3 more stands)

  -- more entries
  pub further : (from to count : ℕ) (states : List S) → StandTo from to states → to ≤ count → StandTo from count states
  further from to count [] stand more = omega arith
  further from to count (first ∷ later) stand more =
      (stand.0, stand.1, stand.2, further stand.0 to count later stand.3 more)
