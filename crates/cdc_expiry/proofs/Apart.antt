-- Lists of triples whose timestamps differ.
use Rattle.std.proofs.Common.{◌≡◌, ◌≢◌, ℕ, Bool, true, false, cond, inl, inr, List, [], ◌∷◌, ◌++◌, filter, nat_eq, sym, arith}
use Rattle.std.specs.List.{IsDistinct}
use Rattle.std.specs.List.Sorted.{IsPermutation}
use Rattle.std.specs.Cmp.{nat_eq_equiv}
use Rattle.std.proofs.lemmas.Bool.Decides.{eqb_tells}
use Rattle.std.proofs.lemmas.List.Elements.{All-filter, All-weaker, All-from_recursion, recursion_from_All}
use Rattle.std.proofs.lemmas.Map.Keys.{IsDistinct-cons, IsDistinct-from_apart, IsDistinct-head, IsDistinct-IsPermutation, IsDistinct-tail}
use borrow.Author.Tests.{eqb-false}
use Rattle.cdc_expiry.specs.declared.triple.Triple.{Triple}
use Rattle.cdc_expiry.specs.Triples.{TimestampsDiffer}

-- a filter keeps the timestamps apart
pub TimestampsDiffer-filter : (p : Triple → Bool) (xs : List Triple) → TimestampsDiffer xs
    → TimestampsDiffer (filter p xs)
TimestampsDiffer-filter p [] differ = tt
TimestampsDiffer-filter p (x ∷ xs) differ =
    elim (p x) as (λ b. TimestampsDiffer (cond b (x ∷ filter p xs) (filter p xs))) [
      | true ↦ (All-filter p (λ y. y.timestamp ≢ x.timestamp) xs differ.0, TimestampsDiffer-filter p xs differ.1)
      | false ↦ TimestampsDiffer-filter p xs differ.1
    ]

-- the same in the words of std, by which it outlasts a change of places
abbrev same_timestamp : Triple → Triple → Bool
same_timestamp x y = nat_eq x.timestamp y.timestamp

-- timestamps that differ fail the test by which std asks whether elements are the same
not_equal : (a b : ℕ) → b ≢ a → nat_eq a b ≡ false
not_equal a b differ = elim (eqb_tells a b) [ inl h ↦ absurd (differ (sym h.1)) | inr h ↦ h.0 ]

-- a list of triples with different timestamps has distinct elements by that test, of which std has laws
to_distinct : (xs : List Triple) → TimestampsDiffer xs → IsDistinct same_timestamp xs
to_distinct [] differ = IsDistinct-from_apart same_timestamp [] (λ i j d below within. absurd (omega arith))
to_distinct (x ∷ xs) differ =
    IsDistinct-cons same_timestamp x xs
    (recursion_from_All (λ y. same_timestamp x y ≡ false) xs
    (All-weaker (λ y. y.timestamp ≢ x.timestamp) (λ y. same_timestamp x y ≡ false)
    (λ y. not_equal x.timestamp y.timestamp) xs differ.0))
    (to_distinct xs differ.1)

-- and back, once the triples have changed places
from_distinct : (xs : List Triple) → IsDistinct same_timestamp xs → TimestampsDiffer xs
from_distinct [] distinct = tt
from_distinct (x ∷ xs) distinct = (
  All-weaker (λ y. same_timestamp x y ≡ false) (λ y. y.timestamp ≢ x.timestamp)
      (λ y apart same. eqb-false x.timestamp y.timestamp apart (sym same)) xs
      (All-from_recursion (λ y. same_timestamp x y ≡ false) xs (IsDistinct-head same_timestamp x xs distinct)),
  from_distinct xs (IsDistinct-tail same_timestamp x xs distinct),
)

-- an index may keep its triples in any order: their timestamps still differ
pub TimestampsDiffer-IsPermutation : (xs ys : List Triple) → IsPermutation xs ys → TimestampsDiffer xs
    → TimestampsDiffer ys
TimestampsDiffer-IsPermutation xs ys moved differ =
    let flips = λ (x y : Triple). nat_eq_equiv.symm x.timestamp y.timestamp in
    from_distinct ys (IsDistinct-IsPermutation same_timestamp flips xs ys moved (to_distinct xs differ))
