-- The triples of entries: one more entry, another test, a filter, and which entry a triple is of.
use Rattle.cdc_ledger.proofs.Words.{[], ⊎_elim, ◌&&◌, ◌++◌, ◌+◌, ◌<◌, ◌∙◌, ◌∷◌, ◌≡◌, ◌⊎◌, AllByRecursion, Bool, Contains, Entry, List, Triple, ap, ap₂, arith, false, filter, if◌then◌else◌, inl, inr, length, refl, slice_index_or, suc, sym, triple_at, triples_from, true, zero, ℕ}

-- a triple, if the test passes
abbrev here_if : Bool → Triple → List Triple
here_if b x = if b then x ∷ [] else []

-- a new entry's triple comes last, whether the first entry has one or not
join_if : (b : Bool) (x y : Triple) (front : List Triple) (c : Bool)
    → (if b then x ∷ (front ++ here_if c y) else front ++ here_if c y) ≡ (if b then x ∷ front else front) ++ here_if c y
join_if true x y front c = refl
join_if false x y front c = refl

-- one more entry at the end
pub triples_from-push : (test : Entry → Bool) (n : ℕ) (es : List Entry) (e : Entry)
    → triples_from test n (es ++ e ∷ []) ≡ triples_from test n es ++
    (if test e then triple_at (n + length es) e ∷ [] else [])
triples_from-push test n [] e = ap (λ m. here_if (test e) (triple_at m e)) (omega arith)
triples_from-push test n (x ∷ es) e =
    ap (λ more. if test x then triple_at n x ∷ more else more)
    (triples_from-push test (n + 1) es e
    ∙ ap (λ m. triples_from test (n + 1) es ++ here_if (test e) (triple_at m e)) (omega arith))
    ∙ join_if (test x) (triple_at n x) (triple_at (n + suc (length es)) e) (triples_from test (n + 1) es) (test e)

-- tests that agree on every entry
pub triples_from-same : (test also : Entry → Bool) (n : ℕ) (es : List Entry)
    → AllByRecursion (λ e. test e ≡ also e) es → triples_from test n es ≡ triples_from also n es
triples_from-same test also n [] agree = refl
triples_from-same test also n (e ∷ es) agree =
    ap₂ (λ b more. if b then triple_at n e ∷ more else more) agree.0
    (triples_from-same test also (n + 1) es agree.1)

-- a filter drops or keeps the triple of the first entry, if it has one
filter_if : (keep : Triple → Bool) (b : Bool) (x : Triple) (xs : List Triple)
    → filter keep (if b then x ∷ xs else xs) ≡ (if b && keep x then x ∷ filter keep xs else filter keep xs)
filter_if keep true x xs = refl
filter_if keep false x xs = refl

-- to filter triples is to ask more of the entries
pub filter-triples_from : (keep : Triple → Bool) (test also : Entry → Bool)
    → ((n : ℕ) (e : Entry) → keep (triple_at n e) ≡ also e)
    → (n : ℕ) (es : List Entry) → filter keep (triples_from test n es) ≡ triples_from (λ e. test e && also e) n es
filter-triples_from keep test also agree n [] = refl
filter-triples_from keep test also agree n (e ∷ es) =
    filter_if keep (test e) (triple_at n e) (triples_from test (n + 1) es)
    ∙ ap₂ (λ b more. if test e && b then triple_at n e ∷ more else more) (agree n e)
    (filter-triples_from keep test also agree (n + 1) es)

-- there are as many as entries that pass
pub length-triples_from : (test : Entry → Bool) (n : ℕ) (es : List Entry)
    → length (triples_from test n es) ≡ length (filter test es)
length-triples_from test n [] = refl
length-triples_from test n (e ∷ es) =
    counted (test e) (triple_at n e) e (triples_from test (n + 1) es) (filter test es)
    (length-triples_from test (n + 1) es)
  where
    counted : (b : Bool) (x : Triple) (e : Entry) (xs : List Triple) (es : List Entry) → length xs ≡ length es
        → length (if b then x ∷ xs else xs) ≡ length (if b then e ∷ es else es)
    counted true x e xs es same = ap suc same
    counted false x e xs es same = same

-- what holds of all triples, of the entries that pass
pub All-triples_from : (Q : Triple → Type 0) (P : Entry → Type 0) → ((n : ℕ) (e : Entry) → Q (triple_at n e) → P e)
    → (test : Entry → Bool) (n : ℕ) (es : List Entry) → AllByRecursion Q (triples_from test n es)
    → AllByRecursion (λ e. test e ≡ true → P e) es
All-triples_from Q P gives test n [] all = tt
All-triples_from Q P gives test n (e ∷ es) all =
    let both = parts (test e) (triple_at n e) (triples_from test (n + 1) es) all in
    (λ passes. gives n e (both.0 passes), All-triples_from Q P gives test (n + 1) es both.1)
  where
    parts : (b : Bool) (x : Triple) (xs : List Triple) → AllByRecursion Q (if b then x ∷ xs else xs)
        → (b ≡ true → Q x) × AllByRecursion Q xs
    parts true x xs all = (λ _. all.0, all.1)
    parts false x xs all = (λ wrong. cc, all)

-- and the other way round
pub triples_from-All : (P : Entry → Type 0) (Q : Triple → Type 0) → ((n : ℕ) (e : Entry) → P e → Q (triple_at n e))
    → (test : Entry → Bool) (n : ℕ) (es : List Entry) → AllByRecursion (λ e. test e ≡ true → P e) es
    → AllByRecursion Q (triples_from test n es)
triples_from-All P Q gives test n [] all = tt
triples_from-All P Q gives test n (e ∷ es) all =
    joined (test e) (λ passes. gives n e (all.0 passes)) (triples_from-All P Q gives test (n + 1) es all.1)
  where
    joined : (b : Bool) → (b ≡ true → Q (triple_at n e)) → AllByRecursion Q (triples_from test (n + 1) es)
        → AllByRecursion Q (if b then triple_at n e ∷ triples_from test (n + 1) es else triples_from test (n + 1) es)
    joined true own rest = (own refl, rest)
    joined false own rest = rest

-- the entry of a triple, between those before it and those after it
pub record IsOf (test : Entry → Bool) (n : ℕ) (es : List Entry) (x : Triple) : Type 0 where
  pub front : List Entry
  pub entry : Entry
  pub back : List Entry
  pub split : es ≡ front ++ entry ∷ back
  pub passes : test entry ≡ true
  pub made : x ≡ triple_at (n + length front) entry

-- a triple of a list is the first or one of the others
contains_at : (a : Triple) (xs : List Triple) (x : Triple) (k : ℕ) → k < length (a ∷ xs)
    → slice_index_or (a ∷ xs) k x ≡ x → (x ≡ a) ⊎ Contains xs x
contains_at a xs x zero within at = inl (sym at)
contains_at a xs x (suc k) within at = inr (k, omega arith, at)

-- the entry of a triple among the later entries has its slot in the whole list
of_rest : (test : Entry → Bool) (n : ℕ) (e : Entry) (es : List Entry) (x : Triple) → IsOf test (n + 1) es x
    → IsOf test n (e ∷ es) x
of_rest test n e es x rest = record {
  front = e ∷ rest.front;
  entry = rest.entry;
  back = rest.back;
  split = ap (λ more. e ∷ more) rest.split;
  passes = rest.passes;
  made = rest.made ∙ ap (λ m. triple_at m rest.entry) (omega arith);
}

-- a triple belongs to the first entry, if that entry passes, or to a later one
of_cons : (test : Entry → Bool) (n : ℕ) (e : Entry) (es : List Entry) (x : Triple) (b : Bool) → test e ≡ b
    → (Contains (triples_from test (n + 1) es) x → IsOf test (n + 1) es x)
    → Contains (if b then triple_at n e ∷ triples_from test (n + 1) es else triples_from test (n + 1) es) x
    → IsOf test n (e ∷ es) x
of_cons test n e es x true passes later there =
    ⊎_elim (λ here. record {
      front = [];
      entry = e;
      back = es;
      split = refl;
      passes = passes;
      made = here ∙ ap (λ m. triple_at m e) (omega arith);
    }) (λ rest. of_rest test n e es x (later rest))
    (contains_at (triple_at n e) (triples_from test (n + 1) es) x there.0 there.1 there.2)
of_cons test n e es x false passes later there = of_rest test n e es x (later there)

-- without entries there is no triple
none_there : (x : Triple) (k : ℕ) → k < 0 → ⊥
none_there x k within = omega arith

-- each triple is of an entry that passes, so that its slot can be looked up
pub IsOf-contained : (test : Entry → Bool) (n : ℕ) (es : List Entry) (x : Triple)
    → Contains (triples_from test n es) x → IsOf test n es x
IsOf-contained test n [] x there = absurd (none_there x there.0 there.1)
IsOf-contained test n (e ∷ es) x there =
    of_cons test n e es x (test e) refl (IsOf-contained test (n + 1) es x) there
