-- What an index's contracts state about a set, if the set is that of a known list.
use Rattle.std.proofs.Common.{◌≡◌, ◌≢◌, ℕ, Bool, true, false, not, ◌&&◌, ◌==◌, cond, List, [], ◌∷◌, ◌++◌, length, filter, Option, Some, None, refl, sym, ap, ◌∙◌, ◌⊎◌, ◌||◌, ◌+◌, inl, inr, add-one, arith}
use Rattle.std.specs.Cmp.{both_ways, eq_by_cmp_equiv}
use Rattle.std.specs.FinSet.{contains, empty, from_list, insert, retain, len, same_set, from_list_push, contains-empty, contains-from_list, contains-insert, contains-retain, len-empty, len-insert}
use Rattle.std.specs.List.{All, Contains}
use Rattle.std.specs.List.Sorted.{IsPermutation}
use Rattle.std.specs.Option.{MatchOption}
use Rattle.std.specs.Ordering.{is_le, eq_by_cmp}
use Rattle.std.proofs.lemmas.Bool.Decides.{nat_tests}
use Rattle.std.proofs.lemmas.List.Elements.{All-head, All-tail, All-contains, Contains-get_or}
use Rattle.std.proofs.lemmas.List.Sorted.{Contains-permutation, IsPermutation-sym}
use Rattle.std.proofs.lemmas.Map.Views.{list_any-from_Contains, Contains-from_any, any-filter_same}
use Rattle.cdc_expiry.specs.declared.triple.Triple.{Triple}
use Rattle.cdc_expiry.specs.Triples.{Triples, triple_cmp, is_due, due_at, IsLeast, IsNewTimestamp, has_numbers, TimestampsDiffer, TimestampsAreUnique, without}
use Rattle.cdc_expiry.proofs.Apart.{TimestampsDiffer-filter}
use Rattle.cdc_expiry.proofs.Order.{triple_cmp_total, triple_cmp-IsAntisymmetric, same_triple}

-- the set of a list
abbrev pub set_of : List Triple → Triples
set_of xs = from_list xs

-- a triple is in the set if and only if it is in the list
pub contains-set_of : (xs : List Triple) (x : Triple) → Contains xs x → contains (set_of xs) x ≡ true
contains-set_of xs x there =
    contains-from_list triple_cmp_total xs x ∙ list_any-from_Contains (eq_by_cmp_equiv triple_cmp_total) x xs there

-- the converse, so that what a contract states about the set also holds for the list
pub Contains-set_of : (xs : List Triple) (x : Triple) → contains (set_of xs) x ≡ true → Contains xs x
Contains-set_of xs x there =
    Contains-from_any same_triple x xs (sym (contains-from_list triple_cmp_total xs x) ∙ there)

-- the empty set has no triple
pub empty_lacks : (s : Triples) (x : Triple) → s ≡ empty → contains s x ≡ true → ⊥
empty_lacks s x is_empty there = let absent = contains-empty triple_cmp x in cc

-- lists with the same triples have the same set
pub set_of-same : (xs ys : List Triple)
    → ((x : Triple) → Contains xs x → Contains ys x) → ((x : Triple) → Contains ys x → Contains xs x)
    → set_of xs ≡ set_of ys
set_of-same xs ys there back =
    same_set triple_cmp_total triple_cmp-IsAntisymmetric (set_of xs) (set_of ys) (λ x. both_ways _ _
    (λ h. contains-set_of ys x (there x (Contains-set_of xs x h)))
    (λ h. contains-set_of xs x (back x (Contains-set_of ys x h))))

-- so the order in which an index keeps its triples doesn't show
pub set_of-IsPermutation : (xs ys : List Triple) → IsPermutation xs ys → set_of xs ≡ set_of ys
set_of-IsPermutation xs ys moved =
    set_of-same xs ys (λ x. Contains-permutation xs ys x moved)
    (λ x. Contains-permutation ys xs x (IsPermutation-sym xs ys moved))

-- one more triple at the end of the list
pub set_of-push : (xs : List Triple) (x : Triple) → set_of (xs ++ x ∷ []) ≡ insert (set_of xs) x
set_of-push xs x = from_list_push triple_cmp_total triple_cmp-IsAntisymmetric xs x

-- two tests hold together in either order
and_swap : (a b : Bool) → (a && b) ≡ (b && a)
and_swap true true = refl
and_swap true false = refl
and_swap false true = refl
and_swap false false = refl

-- what is kept of the set is the set of what is kept of the list
pub retain-set_of : (p : Triple → Bool) (xs : List Triple) → retain (set_of xs) p ≡ set_of (filter p xs)
retain-set_of p xs =
    same_set triple_cmp_total triple_cmp-IsAntisymmetric _ _ (λ q.
    contains-retain (set_of xs) p q (λ x tied. ap p (sym (triple_cmp-IsAntisymmetric q x tied)))
    ∙ and_swap (contains (set_of xs) q) (p q)
    ∙ ap (λ b. p q && b) (contains-from_list triple_cmp_total xs q)
    ∙ sym (any-filter_same (eq_by_cmp triple_cmp q) p (p q) (λ x tied. ap p (sym (same_triple q x tied))) xs)
    ∙ sym (contains-from_list triple_cmp_total (filter p xs) q))

-- so the triples that are due are found by filtering the list
pub due_at-set_of : (xs : List Triple) (now : ℕ) → due_at (set_of xs) now ≡ set_of (filter (is_due now) xs)
due_at-set_of xs now = retain-set_of (is_due now) xs

-- if this timestamp occurs only with this expiry time, a triple that has the timestamp has both numbers
by_timestamp : (x : Triple) (e t : ℕ) → (x.timestamp ≡ t → x.expires_at ≡ e) → has_numbers e t x ≡ (x.timestamp == t)
by_timestamp x e t ends = grind (arith, nat_tests)

-- so the list without both numbers is the list without that timestamp
filter_alike : (xs : List Triple) (e t : ℕ) → All (λ x. x.timestamp ≡ t → x.expires_at ≡ e) xs
    → filter (λ x. not (has_numbers e t x)) xs ≡ filter (λ x. not (x.timestamp == t)) xs
filter_alike [] e t ends = refl
filter_alike (x ∷ xs) e t ends =
    let here = by_timestamp x e t (All-head (λ x. x.timestamp ≡ t → x.expires_at ≡ e) x xs ends) in
    let rest = filter_alike xs e t (All-tail (λ x. x.timestamp ≡ t → x.expires_at ≡ e) x xs ends) in
    λ i. cond (not (here i)) (x ∷ rest i) (rest i)

-- if a timestamp has a single expiry time in the list, its triple can be removed from the set by its timestamp alone
pub without-set_of : (xs : List Triple) (e t : ℕ) → All (λ x. x.timestamp ≡ t → x.expires_at ≡ e) xs
    → without (set_of xs) e t ≡ set_of (filter (λ x. not (x.timestamp == t)) xs)
without-set_of xs e t ends =
    retain-set_of (λ x. not (has_numbers e t x)) xs ∙ ap set_of (filter_alike xs e t ends)

-- a triple whose timestamp no triple of the list has isn't in the set
not_there : (xs : List Triple) (x : Triple) → All (λ y. y.timestamp ≢ x.timestamp) xs → contains (set_of xs) x ≡ false
not_there xs x others =
    elim (contains (set_of xs) x) as (λ b. contains (set_of xs) x ≡ b → b ≡ false) [
      | true ↦ λ there.
          absurd (All-contains (λ y. y.timestamp ≢ x.timestamp) xs x others (Contains-set_of xs x there) refl)
      | false ↦ λ _. refl
    ] refl

-- if no two triples have the same timestamp, the set has as many elements as the list, which `len` counts
pub len-set_of : (xs : List Triple) → TimestampsDiffer xs → len (set_of xs) ≡ length xs
len-set_of [] differ = len-empty triple_cmp
len-set_of (x ∷ xs) differ =
    let absent : contains (set_of xs) x ≡ false = not_there xs x differ.0 in
    let before : len (set_of xs) ≡ length xs = len-set_of xs differ.1 in
    len-insert triple_cmp_total (set_of xs) x ∙ (λ i. cond (absent i) (before i) (before i + 1)) ∙ add-one (length xs)

-- and as many are due in the one as in the other, which a pulse counts
pub due_count-set_of : (xs : List Triple) (now : ℕ) → TimestampsDiffer xs
    → len (due_at (set_of xs) now) ≡ length (filter (is_due now) xs)
due_count-set_of xs now differ =
    ap len (due_at-set_of xs now) ∙ len-set_of (filter (is_due now) xs) (TimestampsDiffer-filter (is_due now) xs differ)

-- a timestamp that no triple of the list has is new to the set
pub IsNewTimestamp-set_of : (xs : List Triple) (t : ℕ) → All (λ x. x.timestamp ≢ t) xs → IsNewTimestamp (set_of xs) t
IsNewTimestamp-set_of xs t others x there =
    All-contains (λ x. x.timestamp ≢ t) xs x others (Contains-set_of xs x there)

-- and back: what `add` requires of the set holds of the list that is kept
pub others-set_of : (xs : List Triple) (t : ℕ) → IsNewTimestamp (set_of xs) t → All (λ x. x.timestamp ≢ t) xs
others-set_of xs t new k d within = new _ (contains-set_of xs _ (Contains-get_or xs k d within))

-- a triple of a set with z is z, or was there before
pub added_or_there : (s : Triples) (z x : Triple) → contains (insert s z) x ≡ true → (x ≡ z) ⊎ (contains s x ≡ true)
added_or_there s z x there =
    elim (eq_by_cmp triple_cmp x z) as (λ b. eq_by_cmp triple_cmp x z ≡ b → (b || contains s x) ≡ true
    → (x ≡ z) ⊎ (contains s x ≡ true)) [
      | true ↦ λ tied _. inl (same_triple x z tied)
      | false ↦ λ _ before. inr before
    ] refl (sym (contains-insert triple_cmp_total s z x) ∙ there)

-- a triple of a list's set is the first of the list or in the rest
first_or_rest : (z x : Triple) (xs : List Triple) → contains (set_of (z ∷ xs)) x ≡ true → (x ≡ z) ⊎ Contains xs x
first_or_rest z x xs there =
    elim (added_or_there (set_of xs) z x there) [ inl first ↦ inl first | inr later ↦ inr (Contains-set_of xs x later) ]

-- in such a list the timestamp identifies a triple
pub TimestampsAreUnique-set_of : (xs : List Triple) → TimestampsDiffer xs → TimestampsAreUnique (set_of xs)
TimestampsAreUnique-set_of [] differ x y there also same = absurd (empty_lacks (set_of []) x refl there)
TimestampsAreUnique-set_of (z ∷ xs) differ x y there also same =
    let later = λ (v : Triple) (there : Contains xs v) (at : v.timestamp ≡ z.timestamp).
    All-contains (λ v. v.timestamp ≢ z.timestamp) xs v differ.0 there at in
    let timestamp : Triple → ℕ = λ v. v.timestamp in
    elim (first_or_rest z x xs there) [
      | inl x_first ↦ elim (first_or_rest z y xs also) [
        | inl y_first ↦ x_first ∙ sym y_first
        | inr y_later ↦ absurd (later y y_later (sym same ∙ ap timestamp x_first))
      ]
      | inr x_later ↦ elim (first_or_rest z y xs also) [
        | inl y_first ↦ absurd (later x x_later (same ∙ ap timestamp y_first))
        | inr y_later ↦
            let x_there = contains-set_of xs x x_later in
            let y_there = contains-set_of xs y y_later in
            TimestampsAreUnique-set_of xs differ.1 x y x_there y_there same
      ]
    ]

-- the answer is the least triple of the list, or None if the list is empty
abbrev pub IsLeastOf : List Triple → Option Triple → Type 0
IsLeastOf xs answer = MatchOption answer (xs ≡ []) (λ x. Contains xs x × All (λ y. is_le (triple_cmp x y) ≡ true) xs)

-- the first triple of a list is in its set, so a list whose set is empty has none
first_there : (x : Triple) (xs : List Triple) → contains (set_of (x ∷ xs)) x ≡ true
first_there x xs = contains-set_of (x ∷ xs) x (0, omega arith, refl)

-- the index's answer is the least triple of the list, so the ledger learns which pending transfer expires first
pub IsLeastOf-set_of : (xs : List Triple) (answer : Option Triple) → IsLeast (set_of xs) answer → IsLeastOf xs answer
IsLeastOf-set_of [] None least = refl
IsLeastOf-set_of (x ∷ xs) None least = absurd (empty_lacks (set_of (x ∷ xs)) x least (first_there x xs))
IsLeastOf-set_of xs (Some x) least =
    (Contains-set_of xs x least.0, λ k d within. least.1 _ (contains-set_of xs _ (Contains-get_or xs k d within)))

-- and back: the least triple of the list is the answer that `due` promises
pub IsLeast-set_of : (xs : List Triple) (answer : Option Triple) → IsLeastOf xs answer → IsLeast (set_of xs) answer
IsLeast-set_of xs None least = ap set_of least
IsLeast-set_of xs (Some x) least = (
  contains-set_of xs x least.0,
  λ y there. All-contains (λ y. is_le (triple_cmp x y) ≡ true) xs y least.1 (Contains-set_of xs y there),
)
