-- What is known of timestamps and of accounts after one more of them.
use Rattle.cdc_audit.proofs.Words.{AreInOrder, Bool, Err, Event, FixedFields, IsLinkIndex, IsTimeIndex, List, None, Ok, Option, Result, RiseFrom, Some, [], account_at, accounts_before, accounts_of, ap, arith, cases_lt, cond, eq-eqb, eqb-true, eqb_tells, false, fields_before, fields_under, find, find-append, flat_map, fold, get_or, has_time, inl, inr, insert_entry, is_link, is_ok, is_some, length, links_of, list_any, lookup, map, nat_eq, ne_eqb, option_map, option_or, refl, subst, suc, sym, times_of, true, with_accounts, with_shown, zero, ℕ, ◌++◌, ◌<◌, ◌==◌, ◌||◌, ◌∙◌, ◌∷◌, ◌≡◌, ◌≢◌, ◌≤◌}
use Rattle.std.proofs.Common.{nat_cmp}
use Rattle.std.specs.List.Sorted.{IsBinarySearchResult}
use Rattle.std.proofs.lemmas.Grind.{flat_map-append}
use Rattle.std.proofs.lemmas.List.{map-append}
use Rattle.std.proofs.lemmas.List.Sorted.{searched}
use Rattle.std.proofs.lemmas.List.Sums.{fold-append}
use Rattle.std.proofs.lemmas.List.Elements.{filter-append}
use Rattle.cdc_audit.proofs.OpenLemmas.{lookup-append}

-- ---- timestamps that rise

-- each timestamp is later than this one
above : (t : ℕ) (es : List Event) → RiseFrom t es → (j : ℕ) → j < length (times_of es) → t < get_or (times_of es) j 0
above t [] rising j within = absurd (omega arith)
above t (e ∷ es) rising zero within = rising.0
above t (e ∷ es) rising (suc j) within =
    let later = above e.timestamp es rising.1 j (omega arith) in
    let first = rising.0 in omega arith

-- so they are in order
pub rising_in_order : (t : ℕ) (es : List Event) → RiseFrom t es → AreInOrder (times_of es)
rising_in_order t [] rising i j before within = absurd (omega arith)
rising_in_order t (e ∷ es) rising zero zero before within = omega arith
rising_in_order t (e ∷ es) rising zero (suc j) before within =
    let later = above e.timestamp es rising.1 j (omega arith) in omega arith
rising_in_order t (e ∷ es) rising (suc i) zero before within = absurd (omega arith)
rising_in_order t (e ∷ es) rising (suc i) (suc j) before within =
    rising_in_order e.timestamp es rising.1 i j (omega arith) (omega arith)

-- a timestamp at some place
there : (ts : List ℕ) (t i : ℕ) → i < length ts → get_or ts i 0 ≡ t → has_time ts t ≡ true
there [] t i within is = absurd (omega arith)
there (u ∷ ts) t zero within is = ap (λ b. b || has_time ts t) (eq-eqb u t is)
there (u ∷ ts) t (suc i) within is = ap (λ b. (u == t) || b) (there ts t i (omega arith) is) ∙ or_true (u == t)
  where
    or_true : (b : Bool) → (b || true) ≡ true
    or_true true = refl
    or_true false = refl

-- a timestamp at no place
nowhere : (ts : List ℕ) (t : ℕ) → ((k : ℕ) → k < length ts → get_or ts k 0 ≢ t) → has_time ts t ≡ false
nowhere [] t other = refl
nowhere (u ∷ ts) t other =
    ap (λ b. b || has_time ts t) (ne_eqb u t (other 0 (omega arith)))
    ∙ nowhere ts t (λ k within. other (suc k) (omega arith))

-- so a binary search finds a timestamp among those that are in order
pub has_time-searched : (ts : List ℕ) (t : ℕ) (r : Result ℕ ℕ) → IsBinarySearchResult (λ y. nat_cmp y t) ts r
    → AreInOrder ts → is_ok r ≡ has_time ts t
has_time-searched ts t (Ok i) found ordered =
    let at = searched ts t (Ok i) found ordered in sym (there ts t i at.0 at.1)
has_time-searched ts t (Err i) found ordered =
    let around = searched ts t (Err i) found ordered in
    sym (nowhere ts t (λ k within is. elim (cases_lt k i) [
      | inl before ↦ let lower = around.1 k before in omega arith
      | inr after ↦ let higher = around.2 k after within in omega arith
    ]))

-- the timestamps of one more event
pub times_of-push : (past : List Event) (e : Event) → times_of (past ++ e ∷ []) ≡ times_of past ++ e.timestamp ∷ []
times_of-push past e = map-append (λ (x : Event). x.timestamp) past (e ∷ [])

-- ---- accounts by their ids

or_none : {V : Type 0} (o : Option V) → option_or o None ≡ o
or_none None = refl
or_none (Some x) = refl

-- a key that isn't there is added at the end
pub insert-new : {V : Type 0} (es : List (ℕ × V)) (k : ℕ) (v : V) → lookup (nat_eq k) es ≡ None
    → insert_entry nat_eq es k v ≡ es ++ (k, v) ∷ []
insert-new [] k v none = refl
insert-new {V = V} (e ∷ es) k v none = by (nat_eq k e.0) none (insert-new es k v)
  where
    by : (b : Bool) → cond b (Some e.1) (lookup (nat_eq k) es) ≡ None
        → (lookup (nat_eq k) es ≡ None → insert_entry nat_eq es k v ≡ es ++ (k, v) ∷ [])
        → cond b ((e.0, v) ∷ es) (e ∷ insert_entry nat_eq es k v) ≡ e ∷ es ++ (k, v) ∷ []
    by true is rest = cc
    by false is rest = ap (λ more. e ∷ more) (rest is)

no_more : {V : Type 0} (o : Option V) → is_some o ≡ false → o ≡ None
no_more None is = refl
no_more (Some x) is = cc

-- what is found under a key after one more account, unless its id is there
shown_one : (fs : List (ℕ × FixedFields)) (a : ℕ × FixedFields) (id : ℕ)
    → fields_under (with_shown fs a) id ≡ option_or (fields_under fs id) (fields_under (a ∷ []) id)
shown_one fs a id = by (fields_under fs a.0) refl
  where
    same : (b : Bool) (o : Option FixedFields) (x : FixedFields) → (b ≡ true → o ≡ Some x)
        → o ≡ option_or o (cond b (Some a.1) None)
    same true o x is = let found = is refl in rw found refl
    same false o x is = sym (or_none o)

    by : (o : Option FixedFields) → fields_under fs a.0 ≡ o
        → fields_under (cond (is_some o) fs (fs ++ a ∷ [])) id
        ≡ option_or (fields_under fs id) (fields_under (a ∷ []) id)
    by None is = lookup-append id fs (a ∷ [])
    by (Some x) is =
        same (nat_eq id a.0) (fields_under fs id) x (λ at. ap (fields_under fs) (eqb-true id a.0 at) ∙ is)

-- and after several
shown_all : (fs those : List (ℕ × FixedFields)) (id : ℕ)
    → fields_under (fold with_shown fs those) id ≡ option_or (fields_under fs id) (fields_under those id)
shown_all fs [] id = sym (or_none (fields_under fs id))
shown_all fs (a ∷ those) id =
    shown_all (with_shown fs a) those id
    ∙ ap (λ o. option_or o (fields_under those id)) (shown_one fs a id)
    ∙ by (fields_under fs id) (nat_eq id a.0)
  where
    by : (o : Option FixedFields) (b : Bool)
        → option_or (option_or o (cond b (Some a.1) None)) (fields_under those id)
        ≡ option_or o (cond b (Some a.1) (fields_under those id))
    by None true = refl
    by None false = refl
    by (Some x) b = refl

-- so the accounts that events show are found with the fields that their first events show
pub accounts_before-fields : (past : List Event) (id : ℕ)
    → fields_under (accounts_before past) id ≡ fields_before past id
accounts_before-fields past id = shown_all [] (flat_map accounts_of past) id

-- the accounts after one more event
pub accounts_before-push : (past : List Event) (e : Event)
    → accounts_before (past ++ e ∷ []) ≡ with_accounts (accounts_before past) e
accounts_before-push past e =
    ap (fold with_shown []) (flat_map-append accounts_of past (e ∷ []))
    ∙ fold-append with_shown [] (flat_map accounts_of past) (accounts_of e)

-- ---- accounts by their timestamps

-- the account of a timestamp in two lists, one after the other
account_at-append : (xs ys : List (ℕ × FixedFields)) (t : ℕ)
    → account_at (xs ++ ys) t ≡ option_or (account_at xs t) (account_at ys t)
account_at-append xs ys t =
    ap (option_map (λ (a : ℕ × FixedFields). a.0)) (find-append (λ (a : ℕ × FixedFields). a.1.timestamp == t) xs ys)
    ∙ by (find (λ (a : ℕ × FixedFields). a.1.timestamp == t) xs)
    (find (λ (a : ℕ × FixedFields). a.1.timestamp == t) ys)
  where
    by : (o p : Option (ℕ × FixedFields))
        → option_map (λ (a : ℕ × FixedFields). a.0) (option_or o p)
        ≡ option_or (option_map (λ (a : ℕ × FixedFields). a.0) o) (option_map (λ (a : ℕ × FixedFields). a.0) p)
    by None p = refl
    by (Some a) p = refl

account_at-one : (a : ℕ × FixedFields) (t : ℕ)
    → account_at (a ∷ []) t ≡ cond (a.1.timestamp == t) (Some a.0) None
account_at-one a t = by (a.1.timestamp == t)
  where
    by : (b : Bool)
        → option_map (λ (a : ℕ × FixedFields). a.0) (cond b (Some a) None) ≡ cond b (Some a.0) None
    by true = refl
    by false = refl

-- an index of accounts and of one more
pub index-push : (old new : List (ℕ × ℕ)) (fs : List (ℕ × FixedFields)) (a : ℕ × FixedFields)
    → ((t : ℕ) → lookup (nat_eq t) new
    ≡ option_or (lookup (nat_eq t) old) (cond (a.1.timestamp == t) (Some a.0) None))
    → IsTimeIndex old fs → IsTimeIndex new (fs ++ a ∷ [])
index-push old new fs a adds index t =
    adds t ∙ ap (λ o. option_or o (cond (a.1.timestamp == t) (Some a.0) None)) (index t)
    ∙ ap (option_or (account_at fs t)) (sym (account_at-one a t)) ∙ sym (account_at-append fs (a ∷ []) t)

-- keys are compared either way round
eqb-turn : (a b : ℕ) → (a == b) ≡ (b == a)
eqb-turn a b = elim (eqb_tells a b) [
  | inl same ↦ same.0 ∙ sym (eq-eqb b a (sym same.1))
  | inr other ↦ other.0 ∙ sym (ne_eqb b a (λ is. other.1 (sym is)))
]

-- a key that is there stays as it is
pub key-kept : {V : Type 0} (es : List (ℕ × V)) (k : ℕ) (v : V) → is_some (lookup (nat_eq k) es) ≡ true
    → (t : ℕ) → lookup (nat_eq t) es ≡ option_or (lookup (nat_eq t) es) (cond (k == t) (Some v) None)
key-kept {V = V} es k v is t = by (k == t) refl
  where
    some : (o : Option V) → is_some o ≡ true → o ≡ option_or o (Some v)
    some None none = cc
    some (Some x) has = refl

    by : (b : Bool) → (k == t) ≡ b
        → lookup (nat_eq t) es ≡ option_or (lookup (nat_eq t) es) (cond b (Some v) None)
    by false other = sym (or_none (lookup (nat_eq t) es))
    by true same =
        some (lookup (nat_eq t) es) (sym (ap (λ n. is_some (lookup (nat_eq n) es)) (eqb-true k t same)) ∙ is)

-- and a new one is added
pub key-new : {V : Type 0} (es : List (ℕ × V)) (k : ℕ) (v : V) → lookup (nat_eq k) es ≡ None → (t : ℕ)
    → lookup (nat_eq t) (insert_entry nat_eq es k v)
    ≡ option_or (lookup (nat_eq t) es) (cond (k == t) (Some v) None)
key-new es k v none t =
    ap (lookup (nat_eq t)) (insert-new es k v none) ∙ lookup-append t es ((k, v) ∷ [])
    ∙ ap (λ b. option_or (lookup (nat_eq t) es) (cond b (Some v) None)) (eqb-turn t k)

-- an index of linked accounts and of one more
pub links-push : (old new : List (ℕ × ℕ)) (fs : List (ℕ × FixedFields)) (a : ℕ × FixedFields) → is_link a ≡ true
    → ((t : ℕ) → lookup (nat_eq t) new
    ≡ option_or (lookup (nat_eq t) old) (cond (a.1.timestamp == t) (Some a.0) None))
    → IsLinkIndex old fs → IsLinkIndex new (fs ++ a ∷ [])
links-push old new fs a linked adds index =
    subst (IsTimeIndex new)
    (sym (filter-append is_link fs (a ∷ []) ∙ ap (λ b. links_of fs ++ cond b (a ∷ []) []) linked))
    (index-push old new (links_of fs) a adds index)
