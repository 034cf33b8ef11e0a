-- The least of the triples that are due: if there is any, it is the first of an ordered list.
use Rattle.std.proofs.Common.{◌≡◌, ℕ, suc, ◌<◌, Bool, true, false, ◌&&◌, ◌||◌, ◌==◌, nat_lt, cond, List, [], ◌∷◌, length, filter, get_or, slice_get, Some, None, refl, sym, ◌∙◌, subst, arith}
use Rattle.std.specs.Bool.{then_some}
use Rattle.std.specs.List.{All}
use Rattle.std.specs.Ordering.{is_le, nat_cmp, ordering_reverse, ordering_then}
use Rattle.std.specs.declared.cmp.Ordering.{Ordering}
use Rattle.std.specs.declared.cmp.Ordering.TheVariants.{Less, Equal, Greater}
use Rattle.std.proofs.lemmas.Bool.{true≢false}
use Rattle.std.proofs.lemmas.Bool.Decides.{nat_tests}
use Rattle.std.proofs.lemmas.List.Elements.{All-cons, All-filter, All-head, All-tail}
use Rattle.cdc_expiry.specs.declared.triple.Triple.{Triple}
use Rattle.cdc_expiry.specs.Triples.{is_before, is_due, InOrder, triple_cmp}
use Rattle.cdc_expiry.proofs.Lists.{IsLeastOf}
use Rattle.cdc_expiry.proofs.Order.{triple_cmp_total}

-- a comparison that gives the same answer from both sides doesn't answer greater
same_both_ways : (o : Ordering) → o ≡ ordering_reverse o → is_le o ≡ true
same_both_ways Less same = refl
same_both_ways Equal same = refl
same_both_ways Greater same = cc

-- a triple isn't greater than itself
not_greater : (x : Triple) → is_le (triple_cmp x x) ≡ true
not_greater x = same_both_ways (triple_cmp x x) (triple_cmp_total.antisymm x x)

-- what comes before a triple is less
less : (x y : Triple) → is_before y.expires_at y.timestamp x ≡ true → is_le (triple_cmp x y) ≡ true
less x y before =
    let later = nat_cmp x.slot y.slot in
    elim (nat_lt x.expires_at y.expires_at) as (λ b.
    (b || ((x.expires_at == y.expires_at) && nat_lt x.timestamp y.timestamp))
    ≡ true → is_le (ordering_then (cond b Less (cond (x.expires_at == y.expires_at) Equal Greater))
    (ordering_then (nat_cmp x.timestamp y.timestamp) later)) ≡ true) [
      | true ↦ λ _. refl
      | false ↦ elim (x.expires_at == y.expires_at) as (λ b. (b && nat_lt x.timestamp y.timestamp) ≡ true
          → is_le (ordering_then (cond b Equal Greater)
          (ordering_then (nat_cmp x.timestamp y.timestamp) later)) ≡ true) [
            | true ↦ elim (nat_lt x.timestamp y.timestamp) as (λ b. b ≡ true
                → is_le (ordering_then (cond b Less (cond (x.timestamp == y.timestamp) Equal Greater)) later) ≡ true) [
                  | true ↦ λ _. refl
                  | false ↦ λ never. absurd (true≢false (sym never))
                ]
            | false ↦ λ never. absurd (true≢false (sym never))
          ]
    ] before

-- what a triple that isn't due comes before isn't due
later_not_due : (now : ℕ) (x y : Triple) → is_before y.expires_at y.timestamp x ≡ true → is_due now x ≡ false
    → is_due now y ≡ false
later_not_due now x y before not_due = grind (arith, nat_tests)

-- if no triple passes, none remains
none_left : (p : Triple → Bool) (xs : List Triple) → All (λ x. p x ≡ false) xs → filter p xs ≡ []
none_left p [] none = refl
none_left p (x ∷ xs) none =
    (λ i. cond (All-head (λ x. p x ≡ false) x xs none i) (x ∷ filter p xs) (filter p xs))
    ∙ none_left p xs (All-tail (λ x. p x ≡ false) x xs none)

-- the first triple is the least that is due, or none is
least_due : (now : ℕ) (x : Triple) (xs : List Triple) → InOrder (x ∷ xs)
    → IsLeastOf (filter (is_due now) (x ∷ xs)) (then_some (is_due now x) x)
least_due now x xs ordered =
    let before = λ (k : ℕ) (d : Triple) (within : k < length xs). ordered 0 (suc k) d (omega arith) (omega arith) in
    elim (is_due now x) as (λ b. is_due now x ≡ b
    → IsLeastOf (cond b (x ∷ filter (is_due now) xs) (filter (is_due now) xs)) (then_some b x)) [
      | true ↦ λ _. (
        (0, omega arith, refl),
        All-cons (λ y. is_le (triple_cmp x y) ≡ true) x (filter (is_due now) xs) (not_greater x)
            (All-filter (is_due now) (λ y. is_le (triple_cmp x y) ≡ true) xs
            (λ k d within. less x (get_or xs k d) (before k d within))),
      )
      | false ↦ λ not_due. none_left (is_due now) xs
          (λ k d within. later_not_due now x (get_or xs k d) (before k d within) not_due)
    ] refl

-- so `due` reads the front
pub IsLeastOf-first : (now : ℕ) (xs : List Triple) (x : Triple) → InOrder xs → slice_get xs 0 ≡ Some x
    → IsLeastOf (filter (is_due now) xs) (then_some (is_due now x) x)
IsLeastOf-first now [] x ordered first = let never : ⊥ = cc in absurd never
IsLeastOf-first now (y ∷ xs) x ordered first =
    let same : y ≡ x = cc in
    subst (λ z. IsLeastOf (filter (is_due now) (y ∷ xs)) (then_some (is_due now z) z)) same (least_due now y xs ordered)

-- and an index without a front has no triple
pub IsLeastOf-none : (now : ℕ) (xs : List Triple) → slice_get xs 0 ≡ None → IsLeastOf (filter (is_due now) xs) None
IsLeastOf-none now [] first = refl
IsLeastOf-none now (y ∷ xs) first = let never : ⊥ = cc in absurd never
