-- The set of a list after the triple with two numbers is removed from the list, or if there is no such triple.
use Rattle.std.proofs.Common.{◌≡◌, ◌≢◌, ℕ, ◌<◌, true, false, not, cond, List, [], ◌∷◌, length, get_or, filter, refl, sym, ap, ◌∙◌, arith}
use Rattle.std.specs.List.{All, HoldsAt, remove}
use Rattle.std.specs.List.Sorted.{IsPermutation}
use Rattle.std.proofs.lemmas.List.{get_or_default}
use Rattle.std.proofs.lemmas.Bool.{true≢false}
use Rattle.std.proofs.lemmas.Bool.Decides.{nat_tests}
use Rattle.std.proofs.lemmas.List.Elements.{All-contains, All-head, All-tail, All-weaker}
use Rattle.std.proofs.lemmas.List.Sorted.{IsPermutation-remove}
use Rattle.cdc_expiry.specs.declared.triple.Triple.{Triple}
use Rattle.cdc_expiry.specs.Triples.{has_numbers, HasNumbers, TimestampsDiffer, without}
use Rattle.cdc_expiry.proofs.Apart.{TimestampsDiffer-IsPermutation}
use Rattle.cdc_expiry.proofs.Lists.{set_of, contains-set_of, Contains-set_of, set_of-IsPermutation, retain-set_of}

-- the value that is read past the end of a list
nowhere : Triple
nowhere = record { expires_at = 0; timestamp = 0; slot = 0 }

-- the triple at an index within the list doesn't depend on the value that is read past the end
at_place : (xs : List Triple) (i : ℕ) → i < length xs → get_or xs i nowhere ≡ get_or xs i (get_or xs i nowhere)
at_place xs i within = get_or_default xs i nowhere (get_or xs i nowhere) within

-- the triple at a place has its numbers in the set
pub found_at : (xs : List Triple) (i e t : ℕ) → i < length xs → HoldsAt (λ x. has_numbers e t x ≡ true) xs i
    → HasNumbers (set_of xs) e t
found_at xs i e t within has =
    let x = get_or xs i nowhere in (x, contains-set_of xs x (i, within, sym (at_place xs i within)), has nowhere)

-- if no triple of the list has the numbers, no triple of the set has them, and removing them leaves the set as it is
pub not_found : (xs : List Triple) (e t : ℕ) → All (λ x. has_numbers e t x ≡ false) xs → HasNumbers (set_of xs) e t → ⊥
not_found xs e t none found =
    let there = Contains-set_of xs found.0 found.1 in
    true≢false (sym found.2 ∙ All-contains (λ x. has_numbers e t x ≡ false) xs found.0 none there)

-- a list without triples of these numbers loses none when they are left out
keeps_all : (xs : List Triple) (e t : ℕ) → All (λ x. has_numbers e t x ≡ false) xs
    → filter (λ x. not (has_numbers e t x)) xs ≡ xs
keeps_all [] e t none = refl
keeps_all (x ∷ xs) e t none =
    let here = All-head (λ x. has_numbers e t x ≡ false) x xs none in
    let rest = keeps_all xs e t (All-tail (λ x. has_numbers e t x ≡ false) x xs none) in
    λ i. cond (not (here i)) (x ∷ rest i) (rest i)

-- so `remove` of a triple that isn't in the index changes nothing
pub without_none : (xs : List Triple) (e t : ℕ) → All (λ x. has_numbers e t x ≡ false) xs
    → set_of xs ≡ without (set_of xs) e t
without_none xs e t none =
    sym (retain-set_of (λ x. not (has_numbers e t x)) xs ∙ ap set_of (keeps_all xs e t none))

-- a triple with another timestamp has other numbers
other_numbers : (x y : Triple) (e t : ℕ) → has_numbers e t x ≡ true → y.timestamp ≢ x.timestamp
    → has_numbers e t y ≡ false
other_numbers x y e t has other = grind (arith, nat_tests)

-- to take these numbers out of a set is to take out the one triple that has them
without_first : (x : Triple) (xs : List Triple) (e t : ℕ) → has_numbers e t x ≡ true → TimestampsDiffer (x ∷ xs)
    → without (set_of (x ∷ xs)) e t ≡ set_of xs
without_first x xs e t has differ =
    let others = All-weaker (λ y. y.timestamp ≢ x.timestamp) (λ y. has_numbers e t y ≡ false)
    (λ y. other_numbers x y e t has) xs differ.0 in
    retain-set_of (λ y. not (has_numbers e t y)) (x ∷ xs)
    ∙ (λ i. set_of (cond (not (has i)) (x ∷ keeps_all xs e t others i) (keeps_all xs e t others i)))

-- the triple at a place moves to the front
to_front : (xs : List Triple) (i : ℕ) → i < length xs → IsPermutation xs (get_or xs i nowhere ∷ remove xs i)
to_front xs i within = IsPermutation-remove xs i (get_or xs i nowhere) within (at_place xs i within)

-- so when it is taken out, the timestamps of the others still differ
pub TimestampsDiffer-taken : (xs : List Triple) (i : ℕ) → i < length xs → TimestampsDiffer xs
    → TimestampsDiffer (remove xs i)
TimestampsDiffer-taken xs i within differ =
    let apart = TimestampsDiffer-IsPermutation xs (get_or xs i nowhere ∷ remove xs i) (to_front xs i within) differ in
    apart.1

-- and the triple that `remove` takes out of the list is the one that leaves the set
pub without_taken : (xs : List Triple) (i e t : ℕ) → i < length xs → HoldsAt (λ x. has_numbers e t x ≡ true) xs i
    → TimestampsDiffer xs → set_of (remove xs i) ≡ without (set_of xs) e t
without_taken xs i e t within has differ =
    let x = get_or xs i nowhere in
    let apart = TimestampsDiffer-IsPermutation xs (x ∷ remove xs i) (to_front xs i within) differ in
    sym (without_first x (remove xs i) e t (has nowhere) apart)
    ∙ sym (ap (λ s. without s e t) (set_of-IsPermutation xs (x ∷ remove xs i) (to_front xs i within)))
