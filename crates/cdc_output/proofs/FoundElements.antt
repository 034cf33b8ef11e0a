-- The elements of a list, one place after another.
use Rattle.std.proofs.Common.{◌≡◌, ℕ, ◌+◌, ◌<◌, List, [], ◌∷◌, ◌++◌, Some, None, zero, suc, refl, ap, ◌∙◌, length, take, drop, arith}
use Rattle.std.specs.List.{slice_get}
use Rattle.std.proofs.lemmas.List.{take_more}
use Rattle.std.proofs.lemmas.Option.{slice_get_within, get_or_from_slice_get}

-- the elements up to one that was found
pub take_found : {X : Type 0} (xs : List X) (i : ℕ) (x : X) → slice_get xs i ≡ Some x → take (i + 1) xs ≡ take i xs
    ++ x ∷ []
take_found xs i x h = take_more xs i x (slice_get_within xs i x h)
    ∙ ap (λ y. take i xs ++ y ∷ []) (get_or_from_slice_get xs i x x h)

-- one is found at each place
pub found_within : {X : Type 0} (xs : List X) (i : ℕ) → i < length xs → slice_get xs i ≡ None → ⊥
found_within [] i below h = omega arith
found_within (x ∷ xs) zero below h = cc
found_within (x ∷ xs) (suc i) below h = found_within xs i (omega arith) h

-- and can be named, so that a loop has an element to go on with
pub found_at : {X : Type 0} (xs : List X) (i : ℕ) → i < length xs → (x : X) × (slice_get xs i ≡ Some x)
found_at [] i below = absurd (omega arith)
found_at (x ∷ xs) zero below = (x, refl)
found_at (x ∷ xs) (suc i) below = found_at xs i (omega arith)

-- what is left after the elements before one that was found: it, and what is left after it
pub drop_found : {X : Type 0} (xs : List X) (i : ℕ) (x : X) → slice_get xs i ≡ Some x
    → drop i xs ≡ x ∷ drop (i + 1) xs
drop_found [] i x h = cc
drop_found (y ∷ xs) zero x h = let same : y ≡ x = cc in ap (λ z. z ∷ xs) same
drop_found (y ∷ xs) (suc i) x h =
    drop_found xs i x h ∙ ap (λ n. x ∷ drop n (y ∷ xs)) (let e : suc (i + 1) ≡ suc i + 1 = omega arith in e)
