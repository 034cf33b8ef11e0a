-- Elements by their places.
use Rattle.std.proofs.Common.{◌≡◌, ℕ, zero, suc, ◌-◌, ◌<◌, ◌≤◌, List, [], ◌∷◌, ◌++◌, length, refl, ap, ◌∙◌, inl, inr, arith}
use Rattle.std.specs.Prelude.{◌⊎◌, Some, Contains, slice_get}
use Rattle.std.specs.List.{AllByRecursion}
use Rattle.std.proofs.lemmas.List.Elements.{Contains-append_right}
use Rattle.std.proofs.lemmas.Option.{slice_get_within, get_or_from_slice_get, none-some}

-- ---- places

-- an element of a list is at the same place after more are appended
pub slice_get-append : {X : Type 0} (xs ys : List X) (i : ℕ) (x : X) → slice_get xs i ≡ Some x
    → slice_get (xs ++ ys) i ≡ Some x
slice_get-append [] ys i x h = absurd (none-some x h)
slice_get-append (y ∷ xs) ys zero x h = h
slice_get-append (y ∷ xs) ys (suc i) x h = slice_get-append xs ys i x h

-- after the first list comes the second one
pub slice_get-behind : {X : Type 0} (xs ys : List X) (i : ℕ) → length xs ≤ i
    → slice_get (xs ++ ys) i ≡ slice_get ys (i - length xs)
slice_get-behind [] ys i past = ap (λ n. slice_get ys n) (omega arith)
slice_get-behind (x ∷ xs) ys zero past = absurd (omega arith)
slice_get-behind (x ∷ xs) ys (suc i) past =
    slice_get-behind xs ys i (omega arith) ∙ ap (λ n. slice_get ys n) (omega arith)

-- before that comes the first one
pub slice_get-before : {X : Type 0} (xs ys : List X) (i : ℕ) → i < length xs → slice_get (xs ++ ys) i ≡ slice_get xs i
slice_get-before [] ys i below = absurd (omega arith)
slice_get-before (x ∷ xs) ys zero below = refl
slice_get-before (x ∷ xs) ys (suc i) below = slice_get-before xs ys i (omega arith)

-- what is found at a place is in the list
pub Contains_slice_get : {X : Type 0} (xs : List X) (i : ℕ) (x : X) → slice_get xs i ≡ Some x → Contains xs x
Contains_slice_get xs i x h = (i, slice_get_within xs i x h, get_or_from_slice_get xs i x x h)

-- ---- each element

-- an empty list contains nothing, just as nothing was sent or taken before the first step
pub none_there : {X : Type 0} (x : X) → Contains [] x → ⊥
none_there x h = omega (arith, h.1)

-- an element of a list that isn't empty is its first or one of the others
pub Contains-cons_cases : {X : Type 0} (x : X) (xs : List X) (y : X) → Contains (x ∷ xs) y → (x ≡ y) ⊎ Contains xs y
Contains-cons_cases x xs y (zero, below, is) = inl is
Contains-cons_cases x xs y (suc k, below, is) = inr (k, omega arith, is)

-- what holds of each element
pub each_has : {X : Type 0} (P : X → Type 0) (xs : List X) (x : X) → AllByRecursion P xs → Contains xs x → P x
each_has P [] x all there = absurd (none_there x there)
each_has P (y ∷ xs) x all (zero, below, is) = rw is at all.0
each_has P (y ∷ xs) x all (suc k, below, is) = each_has P xs x all.1 (k, omega arith, is)

-- and what holds for whatever a list contains holds for each element in turn
pub each_from : {X : Type 0} (P : X → Type 0) (xs : List X) → ((x : X) → Contains xs x → P x) → AllByRecursion P xs
each_from P [] has = tt
each_from P (x ∷ xs) has =
    (has x (0, omega arith, refl), each_from P xs (λ y there. has y (Contains-append_right (x ∷ []) xs y there)))

-- two lists, one after the other
pub AllByRecursion-append : {X : Type 0} (P : X → Type 0) (xs ys : List X) → AllByRecursion P xs → AllByRecursion P ys
    → AllByRecursion P (xs ++ ys)
AllByRecursion-append P [] ys all more = more
AllByRecursion-append P (x ∷ xs) ys all more = (all.0, AllByRecursion-append P xs ys all.1 more)
