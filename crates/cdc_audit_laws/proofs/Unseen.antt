-- Accounts that no event shows: a ledger can open one after a linked account, under an id that no event shows.
use Rattle.std.proofs.Common.{◌≡◌, ◌≢◌, ◌⊎◌, inl, inr, ℕ, suc, zero, ◌+◌, ◌*◌, ◌<◌, ◌≤◌, Bool, true, false, List, [], ◌∷◌, Option, Some, None, if◌then◌else◌, length, map, refl, sym, ap, ◌∙◌, arith, ◌==◌, ◌&&◌, ◌||◌, nat_eq, nat_le, nat_lt}
use Rattle.cdc_audit_laws.proofs.OfStd.{AllByRecursion, list_any, lookup, eq-eqb, eqb-false, eqb-true, false≢true, ne_eqb, or_left, or_right}
use Rattle.cdc_audit_laws.proofs.OfTypes.{TIMESTAMP, Event, RiseFrom, max_128}
use Rattle.cdc_audit_laws.proofs.OfLedger.{AllByRecursion-weaker}
use Rattle.cdc_audit_laws.proofs.OfAudit.{FixedFields}
use Rattle.cdc_audit_laws.proofs.Premises.{accounts_in}
use Rattle.cdc_audit_laws.proofs.Openings.{IsOpenable, opening_of}

-- ---- ids that no account has

-- an id is one of as many as there are timestamps, from this one on
abbrev is_within : ℕ → ℕ → Bool
is_within from id = nat_le from id && nat_lt id (from + 9223372036854775808)

-- the n-th of such blocks of ids begins here
abbrev pub block : ℕ → ℕ
block n = (n + 1) * 9223372036854775808

-- none of these accounts has an id of the block
abbrev pub IsFree : List (ℕ × FixedFields) → ℕ → Type 0
IsFree those from = AllByRecursion (λ a. is_within from a.0 ≡ false) those

-- the accounts without those of a block
abbrev without : ℕ → List (ℕ × FixedFields) → List (ℕ × FixedFields)
without n [] = []
without n (a ∷ those) = if is_within (block n) a.0 then without n those else (a ∷ without n those)

no_more : (n : ℕ) (those : List (ℕ × FixedFields)) → length (without n those) ≤ length those
no_more n [] = omega arith
no_more n (a ∷ those) = by (is_within (block n) a.0) (no_more n those)
  where
    by : (b : Bool) → length (without n those) ≤ length those
        → length (if b then without n those else (a ∷ without n those)) ≤ length (a ∷ those)
    by true more = omega (arith, more)
    by false more = omega (arith, more)

-- a block is free, or fewer accounts are left without it
fewer : (n : ℕ) (those : List (ℕ × FixedFields))
    → IsFree those (block n) ⊎ (length (without n those) < length those)
fewer n [] = inl tt
fewer n (a ∷ those) = by (is_within (block n) a.0) refl (fewer n those) (no_more n those)
  where
    by : (b : Bool) → is_within (block n) a.0 ≡ b → IsFree those (block n) ⊎ (length (without n those) < length those)
        → length (without n those) ≤ length those
        → IsFree (a ∷ those) (block n)
        ⊎ (length (if b then without n those else (a ∷ without n those)) < length (a ∷ those))
    by true is more most = inr (omega (arith, most))
    by false is (inl free) most = inl (is, free)
    by false is (inr less) most = inr (omega (arith, less))

-- an id of a block isn't of one before it
apart : (k n id : ℕ) → k < n → is_within (block n) id ≡ true → is_within (block k) id ≡ false
apart k n id less is = grind arith

-- so what is free without a block is free, if it is before that block
still_free : (k n : ℕ) (those : List (ℕ × FixedFields)) → k < n → IsFree (without n those) (block k)
    → IsFree those (block k)
still_free k n [] less free = tt
still_free k n (a ∷ those) less free =
    by (is_within (block n) a.0) refl free (still_free k n those less)
  where
    by : (b : Bool) → is_within (block n) a.0 ≡ b
        → IsFree (if b then without n those else (a ∷ without n those)) (block k)
        → (IsFree (without n those) (block k) → IsFree those (block k)) → IsFree (a ∷ those) (block k)
    by true is free more = (apart k n a.0 less is, more free)
    by false is free more = (free.0, more free.1)

-- of more blocks than accounts one is free
pub free_block : (n : ℕ) (those : List (ℕ × FixedFields)) → length those < n
    → (k : ℕ) × (k < n) × IsFree those (block k)
free_block zero those less = absurd (let no : ⊥ = omega (arith, less) in no)
free_block (suc n) those less =
    by (fewer n those) (λ fits. free_block n (without n those) fits)
  where
    by : IsFree those (block n) ⊎ (length (without n those) < length those)
        → (length (without n those) < n → (k : ℕ) × (k < n) × IsFree (without n those) (block k))
        → (k : ℕ) × (k < suc n) × IsFree those (block k)
    by (inl free) more = (n, omega arith, free)
    by (inr fits) more =
        let found = more (omega (arith, fits, less)) in
        let k_less = found.1 in
        (found.0, omega (arith, k_less), still_free found.0 n those found.1 found.2)

-- a number from which on there is an id for each timestamp, and none of these accounts has one of them
pub record HasIds (those : List (ℕ × FixedFields)) : Type 0 where
  pub from : ℕ
  pub some : 0 < from
  pub bound : from + TIMESTAMP < max_128
  pub free : AllByRecursion (λ a. is_within from a.0 ≡ false) those

-- events that rise are no more than there are timestamps
pub few_events : (t : ℕ) (es : List Event) → RiseFrom t es → AllByRecursion (λ e. e.timestamp ≤ TIMESTAMP) es
    → t ≤ TIMESTAMP → t + length es ≤ TIMESTAMP
few_events t [] rises within most = omega (arith, most)
few_events t (e ∷ es) rises within most =
    let more = few_events e.timestamp es rises.1 within.1 within.0 in
    let later = rises.0 in omega (arith, more, later)

-- they show at most twice as many accounts
few_accounts : (es : List Event) → length (accounts_in es) ≤ 2 * length es
few_accounts [] = omega arith
few_accounts (e ∷ es) = let more = few_accounts es in omega (arith, more)

pub has_ids : (es : List Event) → RiseFrom 0 es → AllByRecursion (λ e. e.timestamp ≤ TIMESTAMP) es
    → HasIds (accounts_in es)
has_ids es rises within =
    let few = few_events 0 es rises within (omega arith) in
    let twice = few_accounts es in
    let found = free_block 36893488147419103230 (accounts_in es) (omega (arith, few, twice)) in
    let less = found.1 in
    record {
      from = block found.0;
      some = omega arith;
      bound = omega (arith, less);
      free = found.2;
    }

-- an id of its own isn't that of a shown account
pub other_id : (from t id : ℕ) → t ≤ TIMESTAMP → is_within from id ≡ false → id ≢ from + t
other_id from t id within free same = grind arith

-- ---- the accounts

module _ (from : ℕ) where
  -- the account that is opened at a timestamp
  abbrev pub unseen : ℕ → ℕ × FixedFields
  unseen t = (
    from + t,
    record {
      user_data_128 = 0;
      user_data_64 = 0;
      user_data_32 = 0;
      ledger = 1;
      code = 1;
      flags = 0;
      timestamp = t;
    },
  )

  pub unseen-openable : (t : ℕ) → 0 < from → from + TIMESTAMP < max_128 → t ≤ TIMESTAMP
      → IsOpenable (opening_of (unseen t))
  unseen-openable t some bound within = grind arith

  -- it is found if its timestamp is among these
  pub unseen-found : (t : ℕ) (ts : List ℕ)
      → lookup (nat_eq (from + t)) (map unseen ts)
      ≡ (if list_any (λ u. t == u) ts then Some (unseen t).1 else None)
  unseen-found t [] = refl
  unseen-found t (u ∷ ts) = by (t == u) refl (from + t == from + u) refl (unseen-found t ts)
    where
      by : (same : Bool) → (t == u) ≡ same → (found : Bool) → (from + t == from + u) ≡ found
          → lookup (nat_eq (from + t)) (map unseen ts)
          ≡ (if list_any (λ v. t == v) ts then Some (unseen t).1 else None)
          → (if found then Some (unseen u).1 else lookup (nat_eq (from + t)) (map unseen ts))
          ≡ (if same || list_any (λ v. t == v) ts then Some (unseen t).1 else None)
      by true is true found more = ap (λ v. let o : Option FixedFields = Some (unseen v).1 in o) (sym (eqb-true t u is))
      by true is false found more =
          absurd (eqb-false (from + t) (from + u) found (ap (λ v. from + v) (eqb-true t u is)))
      by false is true found more =
          let same = eqb-true (from + t) (from + u) found in
          absurd (eqb-false t u is (omega (arith, same)))
      by false is false found more = more

  -- and no account has its id, if those have other ones
  pub none_has : (t : ℕ) (those : List (ℕ × FixedFields)) → t ≤ TIMESTAMP
      → AllByRecursion (λ a. is_within from a.0 ≡ false) those → lookup (nat_eq (from + t)) those ≡ None
  none_has t [] within free = refl
  none_has t (a ∷ those) within free =
      ap (λ b. if b then Some a.1 else lookup (nat_eq (from + t)) those)
      (ne_eqb _ _ (λ same. other_id from t a.0 within free.0 (sym same))) ∙ none_has t those within free.1

-- ---- the timestamps after accounts

-- those after the accounts that pass a test
abbrev pub times_after : (ℕ × FixedFields → Bool) → List (ℕ × FixedFields) → List ℕ
times_after test [] = []
times_after test (a ∷ those) =
    if test a then (a.1.timestamp + 1) ∷ times_after test those else times_after test those

pub times_after-all : (test : ℕ × FixedFields → Bool) (P : ℕ → Type 0) (those : List (ℕ × FixedFields))
    → AllByRecursion (λ a. test a ≡ true → P (a.1.timestamp + 1)) those → AllByRecursion P (times_after test those)
times_after-all test P [] all = tt
times_after-all test P (a ∷ those) all = by (test a) refl (times_after-all test P those all.1)
  where
    by : (b : Bool) → test a ≡ b → AllByRecursion P (times_after test those)
        → AllByRecursion P (if b then (a.1.timestamp + 1) ∷ times_after test those else times_after test those)
    by true is more = (all.0 is, more)
    by false is more = more

-- each of them is there
pub times_after-has : (test : ℕ × FixedFields → Bool) (those : List (ℕ × FixedFields))
    → AllByRecursion (λ a. test a ≡ true → list_any (λ u. a.1.timestamp + 1 == u) (times_after test those) ≡ true) those
times_after-has test [] = tt
times_after-has test (a ∷ those) = by (test a) refl (times_after-has test those)
  where
    by : (b : Bool) → test a ≡ b
        → AllByRecursion
        (λ x. test x ≡ true → list_any (λ u. x.1.timestamp + 1 == u) (times_after test those) ≡ true) those
        → AllByRecursion
        (λ x. test x ≡ true → list_any (λ u. x.1.timestamp + 1 == u)
        (if b then (a.1.timestamp + 1) ∷ times_after test those else times_after test those) ≡ true) (a ∷ those)
    by true is more = (
      λ passes. or_left (a.1.timestamp + 1 == a.1.timestamp + 1) _
          (eq-eqb (a.1.timestamp + 1) (a.1.timestamp + 1) refl),
      AllByRecursion-weaker _ _
          (λ x has passes. or_right (x.1.timestamp + 1 == a.1.timestamp + 1) _ (has passes)) those more,
    )
    by false is more = (λ passes. absurd (false≢true (sym is ∙ passes)), more)

-- each of some timestamps is among them
pub each_there : (ts : List ℕ) → AllByRecursion (λ t. list_any (λ u. t == u) ts ≡ true) ts
each_there [] = tt
each_there (t ∷ ts) = (
  or_left (t == t) _ (eq-eqb t t refl),
  AllByRecursion-weaker _ _ (λ u has. or_right (u == t) _ has) ts (each_there ts),
)
