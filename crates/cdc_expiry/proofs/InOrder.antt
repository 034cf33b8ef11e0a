-- Ordered lists of triples: where a binary search stops, and what an insert or a removal there produces.
use Rattle.std.proofs.Common.{◌≡◌, ◌≢◌, ℕ, ◌<◌, ◌≤◌, zero, suc, Bool, true, false, cond, inl, inr, List, [], ◌∷◌, length, get_or, filter, refl, sym, ap, ◌∙◌, subst, arith}
use Rattle.std.specs.Bool.{then_some}
use Rattle.std.specs.List.{All, AllPairs, insert, remove}
use Rattle.std.specs.List.Sorted.{IsPartitionedBy, IsPartitionPoint}
use Rattle.std.proofs.lemmas.Bool.{cases_lt}
use Rattle.std.proofs.lemmas.Bool.Decides.{nat_tests}
use Rattle.std.proofs.lemmas.List.{get_or_default}
use Rattle.std.proofs.lemmas.List.Edits.{length-insert, length-remove}
use Rattle.std.proofs.lemmas.List.Elements.{All-cons, All-nil}
use Rattle.std.proofs.lemmas.List.Kept.{AllPairs-cons}
use Rattle.std.proofs.lemmas.List.Quantifiers.{all_pairs_remove}
use Rattle.std.proofs.lemmas.List.Sorted.{All-permutation, IsPermutation-insert}
use Rattle.cdc_expiry.specs.declared.triple.Triple.{Triple}
use Rattle.std.specs.FinSet.{insert as with_one}
use Rattle.cdc_expiry.specs.Triples.{has_numbers, is_before, is_due, InOrder, IsFound, IsKept, TimestampsDiffer}
use Rattle.cdc_expiry.proofs.Apart.{TimestampsDiffer-IsPermutation}
use Rattle.cdc_expiry.proofs.Lists.{set_of, set_of-IsPermutation}
use Rattle.cdc_expiry.proofs.Taken.{TimestampsDiffer-taken}

-- a test that passes for every triple before one for which it passes partitions an ordered list
pub parted : (p : Triple → Bool) (xs : List Triple)
    → ((x y : Triple) → is_before y.expires_at y.timestamp x ≡ true → p y ≡ true → p x ≡ true)
    → InOrder xs → IsPartitionedBy p xs
parted p xs down ordered i j d low within passes =
    elim (cases_lt i j) [
      | inl below ↦ down (get_or xs i d) (get_or xs j d) (ordered i j d below within) passes
      | inr same ↦ let at : j ≡ i = omega arith in subst (λ k. p (get_or xs k d) ≡ true) at passes
    ]

-- what comes before a triple that is due is due
pub due_down : (now : ℕ) (x y : Triple) → is_before y.expires_at y.timestamp x ≡ true → is_due now y ≡ true
    → is_due now x ≡ true
due_down now x y before due = grind (arith, nat_tests)

-- what comes before a triple also comes before everything that the triple comes before
pub before_down : (e t : ℕ) (x y : Triple) → is_before y.expires_at y.timestamp x ≡ true → is_before e t y ≡ true
    → is_before e t x ≡ true
before_down e t x y before also = grind (arith, nat_tests)

-- the number of triples that pass is the index at which a search stops
pub counted : (p : Triple → Bool) (xs : List Triple) (i : ℕ)
    → IsPartitionPoint (λ x. p x ≡ true) (λ x. p x ≡ false) xs i → i ≤ length xs → length (filter p xs) ≡ i
counted p [] zero parts fits = refl
counted p [] (suc i) parts fits = absurd (omega arith)
counted p (x ∷ xs) zero parts fits =
    let here : p x ≡ false = parts.1 0 x (omega arith) (omega arith) in
    let rest : length (filter p xs) ≡ 0 =
    counted p xs zero
    (λ k d low high. absurd (omega arith), λ k d low high. parts.1 (suc k) d (omega arith) (omega arith))
    (omega arith) in
    (λ j. length (cond (here j) (x ∷ filter p xs) (filter p xs))) ∙ rest
counted p (x ∷ xs) (suc i) parts fits =
    let here : p x ≡ true = parts.0 0 x (omega arith) (omega arith) in
    let rest : length (filter p xs) ≡ i =
    counted p xs i (
      λ k d low high. parts.0 (suc k) d (omega arith) (omega arith),
      λ k d low high. parts.1 (suc k) d (omega arith) (omega arith),
    ) (omega arith) in
    (λ j. length (cond (here j) (x ∷ filter p xs) (filter p xs))) ∙ ap suc rest

-- inserting a triple after all those that come before it, and in front of all those that it comes before, keeps the
-- list in order
pub AllPairs-insert : (R : Triple → Triple → Type 0) (xs : List Triple) (i : ℕ) (z : Triple) → AllPairs R xs
    → i ≤ length xs → ((k : ℕ) (d : Triple) → k < i → R (get_or xs k d) z)
    → ((k : ℕ) (d : Triple) → i ≤ k → k < length xs → R z (get_or xs k d)) → AllPairs R (insert xs i z)
AllPairs-insert R [] zero z pairs fits before after = AllPairs-cons R z [] (All-nil (R z)) pairs
AllPairs-insert R [] (suc i) z pairs fits before after = absurd (omega arith)
AllPairs-insert R (x ∷ xs) zero z pairs fits before after =
    AllPairs-cons R z (x ∷ xs) (λ k d within. after k d (omega arith) within) pairs
AllPairs-insert R (x ∷ xs) (suc i) z pairs fits before after =
    let rest = AllPairs-insert R xs i z (λ a b d low within. pairs (suc a) (suc b) d (omega arith) (omega arith))
    (omega arith) (λ k d low. before (suc k) d (omega arith))
    (λ k d low within. after (suc k) d (omega arith) (omega arith)) in
    let later : All (R x) xs = λ k d within. pairs 0 (suc k) d (omega arith) (omega arith) in
    let here : R x z = before 0 x (omega arith) in
    AllPairs-cons R x (insert xs i z)
    (All-permutation (R x) (z ∷ xs) (insert xs i z) (IsPermutation-insert xs i z) (All-cons (R x) z xs here later)) rest

-- a triple that doesn't come before another with another timestamp comes after it
not_before : (x z : Triple) → is_before z.expires_at z.timestamp x ≡ false → x.timestamp ≢ z.timestamp
    → is_before x.expires_at x.timestamp z ≡ true
not_before x z after apart = grind (arith, nat_tests)

-- so `add` keeps the order: it inserts a triple with a timestamp of its own at the index that its search returned
pub InOrder-insert : (xs : List Triple) (i : ℕ) (z : Triple) → InOrder xs → i ≤ length xs
    → IsPartitionPoint (λ x. is_before z.expires_at z.timestamp x ≡ true)
    (λ x. is_before z.expires_at z.timestamp x ≡ false) xs i
    → All (λ x. x.timestamp ≢ z.timestamp) xs → InOrder (insert xs i z)
InOrder-insert xs i z ordered fits parts others =
    AllPairs-insert (λ x y. is_before y.expires_at y.timestamp x ≡ true) xs i z ordered fits
    (λ k d low. parts.0 k d (omega arith) low)
    (λ k d low within. not_before (get_or xs k d) z (parts.1 k d low within) (others k d within))

-- a triple before an expiry time and a timestamp doesn't have both
before_differs : (e t : ℕ) (x : Triple) → is_before e t x ≡ true → has_numbers e t x ≡ false
before_differs e t x before = grind (arith, nat_tests)

-- nor has one that comes after a triple which isn't before them
later_differs : (e t : ℕ) (x y : Triple) → is_before e t x ≡ false → is_before y.expires_at y.timestamp x ≡ true
    → has_numbers e t y ≡ false
later_differs e t x y after below = grind (arith, nat_tests)

-- so if the triple at that index doesn't have the two numbers, no triple has them
none_elsewhere : (xs : List Triple) (i e t : ℕ) → InOrder xs
    → IsPartitionPoint (λ x. is_before e t x ≡ true) (λ x. is_before e t x ≡ false) xs i
    → ((d : Triple) → i < length xs → has_numbers e t (get_or xs i d) ≡ false)
    → All (λ x. has_numbers e t x ≡ false) xs
none_elsewhere xs i e t ordered parts here k d within =
    elim (cases_lt k i) [
      | inl low ↦ before_differs e t (get_or xs k d) (parts.0 k d (omega arith) low)
      | inr high ↦ elim (cases_lt i k) [
        | inl low ↦ later_differs e t (get_or xs i d) (get_or xs k d) (parts.1 i d (omega arith) (omega arith))
            (ordered i k d low within)
        | inr same ↦ let at : i ≡ k = omega arith in
            subst (λ n. has_numbers e t (get_or xs n d) ≡ false) at (here d (omega arith))
      ]
    ]

-- the set of the list gains the triple
pub set_of-insert : (xs : List Triple) (i : ℕ) (z : Triple) → set_of (insert xs i z) ≡ with_one (set_of xs) z
set_of-insert xs i z = sym (set_of-IsPermutation (z ∷ xs) (insert xs i z) (IsPermutation-insert xs i z))

-- and its timestamps still differ
pub TimestampsDiffer-insert : (xs : List Triple) (i : ℕ) (z : Triple) → TimestampsDiffer xs
    → All (λ x. x.timestamp ≢ z.timestamp) xs → TimestampsDiffer (insert xs i z)
TimestampsDiffer-insert xs i z differ others =
    TimestampsDiffer-IsPermutation (z ∷ xs) (insert xs i z) (IsPermutation-insert xs i z) (others, differ)

-- so what `add` leaves is kept
pub IsKept-insert : (xs : List Triple) (made some more i : ℕ) (z : Triple) → IsKept xs made some → some ≤ more
    → length xs < made → i ≤ length xs
    → IsPartitionPoint (λ x. is_before z.expires_at z.timestamp x ≡ true)
    (λ x. is_before z.expires_at z.timestamp x ≡ false) xs i
    → All (λ x. x.timestamp ≢ z.timestamp) xs → IsKept (insert xs i z) made more
IsKept-insert xs made some more i z kept grown left fits parts others = record {
  in_order = InOrder-insert xs i z kept.in_order fits parts others;
  apart = TimestampsDiffer-insert xs i z kept.apart others;
  fits = let one_more = length-insert xs i z fits in omega arith;
  backed = let before = kept.backed in omega arith;
}

-- and so is what `remove` leaves
pub IsKept-remove : (xs : List Triple) (made capacity i : ℕ) → IsKept xs made capacity → i < length xs
    → IsKept (remove xs i) made capacity
IsKept-remove xs made capacity i kept within = record {
  in_order = all_pairs_remove (λ x y. is_before y.expires_at y.timestamp x ≡ true) xs i within kept.in_order;
  apart = TimestampsDiffer-taken xs i within kept.apart;
  fits = let one_less = length-remove xs i within in let before = kept.fits in omega arith;
  backed = kept.backed;
}

-- the triple at the index where a search for two numbers stops decides whether any triple has them
pub found_there : (xs : List Triple) (i e t : ℕ) (x : Triple) → InOrder xs
    → IsPartitionPoint (λ y. is_before e t y ≡ true) (λ y. is_before e t y ≡ false) xs i → i < length xs
    → x ≡ get_or xs i x → IsFound xs e t (then_some (has_numbers e t x) i)
found_there xs i e t x ordered parts within at =
    elim (has_numbers e t x) as (λ b. has_numbers e t x ≡ b → IsFound xs e t (then_some b i)) [
      | true ↦ λ has. (within, λ d. ap (has_numbers e t) (get_or_default xs i d x within ∙ sym at) ∙ has)
      | false ↦ λ hasnt. none_elsewhere xs i e t ordered parts
          (λ d in_it. ap (has_numbers e t) (get_or_default xs i d x within ∙ sym at) ∙ hasnt)
    ] refl
