-- Lists that are walked from the first element to the last.
use Rattle.cdc_deliveries.proofs.Words.{List, Some, [], ap, arith, drop, fold, slice_get, suc, sym, zero, ℕ, ◌+◌, ◌∙◌, ◌∷◌, ◌≡◌}

-- what is left after the elements before one that was found: it, and what is left after it
pub drop_found : {X : Type 0} (xs : List X) (i : ℕ) (x : X) → slice_get xs i ≡ Some x → drop i xs ≡ x ∷ drop (i + 1) xs
drop_found [] i x h = cc
drop_found (y ∷ xs) zero x h = let same : y ≡ x = cc in ap (λ z. z ∷ xs) same
drop_found (y ∷ xs) (suc i) x h =
    drop_found xs i x h ∙ ap (λ n. x ∷ drop n (y ∷ xs)) (let e : suc (i + 1) ≡ suc i + 1 = omega arith in e)

-- one step more of a fold
pub folded : {X S : Type 0} (step : S → X → S) (before after whole : S) (xs : List X) (i : ℕ) (x : X)
    → slice_get xs i ≡ Some x → after ≡ step before x → fold step before (drop i xs) ≡ whole
    → fold step after (drop (i + 1) xs) ≡ whole
folded step before after whole xs i x found is left =
    ap (λ s. fold step s (drop (i + 1) xs)) is ∙ ap (λ ys. fold step before ys) (sym (drop_found xs i x found)) ∙ left
