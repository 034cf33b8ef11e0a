-- In every legal history the timestamp of an account is its own: no other account and no entry has it.
use Rattle.std.proofs.Common.{◌≡◌, ◌≢◌, ◌⊎◌, ℕ, ◌<◌, ◌≤◌, Bool, true, false, List, [], ◌∷◌, ◌++◌, map, Option, Some, None, refl, sym, ap, ◌∙◌, subst, inl, inr, arith, ◌==◌, nat_eq, is_some, fold, IsSome, if◌then◌else◌}
use Rattle.cdc_audit_laws.proofs.OfStd.{AllByRecursion, flat_map, lookup, option_or, ne_eqb}
use Rattle.cdc_audit_laws.proofs.OfTypes.{Entry, EventAccount}
use Rattle.cdc_audit_laws.proofs.OfLedger.{pushed, timed, with_account, event_of, events, History, Opened, empty_history, opened, HasAccounts, IsUpTo, AllByRecursion-weaker, AllByRecursion_push, opened-with_account, opened_id}
use Rattle.cdc_audit_laws.proofs.OfAudit.{FixedFields, account_at, accounts_before, has_time, times_known, times_lines, times_of, with_shown, accounts_of, fields_before, fixed_fields, accounts_before-fields}
use Rattle.cdc_audit.specs.Standing.{fields_under}
use Rattle.cdc_audit_laws.proofs.Following.{NoneApplies}
use Rattle.cdc_audit_laws.proofs.Requests.{account_of, account_is}

-- no other account of the history and none of its entries has the timestamp of an account
pub record AreOwn (h : History) : Type 0 where
  pub apart : (i j : ℕ) (o p : Opened) → opened h i ≡ Some o → opened h j ≡ Some p → i ≢ j → o.timestamp ≢ p.timestamp
  pub alone : (i : ℕ) (o : Opened) → opened h i ≡ Some o
      → AllByRecursion (λ (e : Entry). e.timestamp ≢ o.timestamp) h.entries

-- each account was created by the history's last timestamp
abbrev pub AreBy : History → Type 0
AreBy h = (i : ℕ) (o : Opened) → opened h i ≡ Some o → o.timestamp ≤ h.last

pub own-empty : AreOwn empty_history
own-empty = record { apart = λ i j o p one other is. cc; alone = λ i o one. tt }

pub own-timed : (h : History) (t : ℕ) → AreOwn h → AreOwn (timed h t)
own-timed h t own = record { apart = own.apart; alone = own.alone }

pub own-closed : (h : History) (closed : Bool) → AreOwn h → AreOwn (record h { closed = closed })
own-closed h closed own = record { apart = own.apart; alone = own.alone }

-- a later entry
pub own-pushed : (h : History) (e : Entry) → AreBy h → h.last < e.timestamp → AreOwn h → AreOwn (pushed h e)
own-pushed h e by later own = record {
  apart = own.apart;
  alone = λ i o is. AllByRecursion_push _ h.entries e (own.alone i o is)
      (λ same. let before = by i o is in omega arith);
}

-- ---- one more account

module _ (h : History) (n : Opened) (by_last : AreBy h) (past : IsUpTo h.last h) (later : h.last < n.timestamp)
    (own : AreOwn h) where
  -- an account that is found was there, or it is the new one
  either : (i : ℕ) (o : Opened) → opened (with_account h n) i ≡ Some o
      → (opened h i ≡ Some o) ⊎ ((o ≡ n) × (n.request.id ≡ i))
  either i o is = by (opened h i) (n.request.id == i) refl (sym (opened-with_account h n i) ∙ is)
    where
      by : (p : Option Opened) (b : Bool) → (n.request.id == i) ≡ b
          → option_or p (if b then Some n else None) ≡ Some o → (p ≡ Some o) ⊎ ((o ≡ n) × (n.request.id ≡ i))
      by p b same found = grind arith

  pub own-account : AreOwn (with_account h n)
  own-account = record {
    apart = λ i j o p one other is. elim (either i o one) [
      | inl a ↦ elim (either j p other) [
        | inl b ↦ own.apart i j o p a b is
        | inr b ↦ λ same.
            let before = by_last i o a in
            let new : p.timestamp ≡ n.timestamp = ap (λ (x : Opened). x.timestamp) b.0 in omega arith
      ]
      | inr a ↦ elim (either j p other) [
        | inl b ↦ λ same.
            let before = by_last j p b in
            let new : o.timestamp ≡ n.timestamp = ap (λ (x : Opened). x.timestamp) a.0 in omega arith
        | inr b ↦ absurd (is (sym a.1 ∙ b.1))
      ]
    ];
    alone = λ i o one. elim (either i o one) [
      | inl a ↦ own.alone i o a
      | inr a ↦ AllByRecursion-weaker _ _ (λ e before same.
          let new : o.timestamp ≡ n.timestamp = ap (λ (x : Opened). x.timestamp) a.0 in omega arith) h.entries past
    ];
  }

-- ---- what the events of a history show

-- two accounts that are there have timestamps of their own
apart_of : (h : History) → AreOwn h → (i j : ℕ) → IsSome (opened h i) → IsSome (opened h j) → i ≢ j
    → (account_of h i).timestamp ≢ (account_of h j).timestamp
apart_of h own i j one other is = grind arith

-- no event has the timestamp of an account
no_event : (h : History) (t : ℕ) (es : List Entry) → AllByRecursion (λ (e : Entry). e.timestamp ≢ t) es
    → has_time (times_of (map (event_of h) es)) t ≡ false
no_event h t [] other = refl
no_event h t (e ∷ es) other = rw (ne_eqb e.timestamp t other.0) (no_event h t es other.1)

pub no_event_at : (h : History) → AreOwn h → (i : ℕ) → IsSome (opened h i)
    → has_time (times_of (events h)) (account_of h i).timestamp ≡ false
no_event_at h own i there = no_event h _ h.entries (own.alone i _ (account_is h i there))

-- an account that events show is one of the history, and has its timestamp
abbrev IsShown : History → ℕ × FixedFields → Type 0
IsShown h a = IsSome (opened h a.0) × (a.1.timestamp ≡ (account_of h a.0).timestamp)

-- the id of an account that is there
pub id_found : (h : History) (id : ℕ) → IsSome (opened h id) → (account_of h id).request.id ≡ id
id_found h id there = opened_id h _ id (account_is h id there)

shown_one : (h : History) (id : ℕ) (f : FixedFields) → IsSome (opened h id)
    → f.timestamp ≡ (account_of h id).timestamp → IsShown h ((account_of h id).request.id, f)
shown_one h id f there is = subst (λ n. IsShown h (n, f)) (sym (id_found h id there)) (there, is)

shown_all : (h : History) (es : List Entry) → AllByRecursion (HasAccounts h) es
    → AllByRecursion (IsShown h) (flat_map accounts_of (map (event_of h) es))
shown_all h [] known = tt
shown_all h (e ∷ es) known = (
  shown_one h e.transfer.debit_account_id
      (fixed_fields e.transfer.ledger (event_of h e).debit_account) known.0.0 refl,
  (
    shown_one h e.transfer.credit_account_id
        (fixed_fields e.transfer.ledger (event_of h e).credit_account) known.0.1 refl,
    shown_all h es known.1,
  ),
)

-- what holds of accounts holds of each that is kept of them
kept_all : (P : ℕ × FixedFields → Type 0) (fs those : List (ℕ × FixedFields)) → AllByRecursion P fs
    → AllByRecursion P those → AllByRecursion P (fold with_shown fs those)
kept_all P fs [] all more = all
kept_all P fs (a ∷ those) all more = kept_all P (with_shown fs a) those (by (is_some (lookup (nat_eq a.0) fs))) more.1
  where
    by : (b : Bool) → AllByRecursion P (if b then fs else (fs ++ a ∷ []))
    by true = all
    by false = AllByRecursion_push _ fs a all more.0

-- no other account has the timestamp of an account that isn't among them
none_at : (h : History) → AreOwn h → (i : ℕ) → IsSome (opened h i) → (fs : List (ℕ × FixedFields))
    → AllByRecursion (IsShown h) fs → fields_under fs i ≡ None → account_at fs (account_of h i).timestamp ≡ None
none_at h own i there [] all none = refl
none_at h own i there (a ∷ fs) all none =
    by (nat_eq i a.0) refl none (none_at h own i there fs all.1)
  where
    by : (b : Bool) → nat_eq i a.0 ≡ b → (if b then Some a.1 else fields_under fs i) ≡ None
        → (fields_under fs i ≡ None → account_at fs (account_of h i).timestamp ≡ None)
        → account_at (a ∷ fs) (account_of h i).timestamp ≡ None
    by b is found rest = grind arith

pub no_account_at : (h : History) → AreOwn h → AllByRecursion (HasAccounts h) h.entries → (i : ℕ)
    → IsSome (opened h i) → fields_before (events h) i ≡ None
    → account_at (accounts_before (events h)) (account_of h i).timestamp ≡ None
no_account_at h own known i there none =
    none_at h own i there (accounts_before (events h))
    (kept_all (IsShown h) [] (flat_map accounts_of (events h)) tt (shown_all h h.entries known))
    (accounts_before-fields (events h) i ∙ none)

-- so nothing is refused by an account's timestamp
times_none : (known : Bool) (times : List ℕ) (fs : List (ℕ × FixedFields)) (a : EventAccount)
    → (known ≡ false → (has_time times a.timestamp ≡ false) × (account_at fs a.timestamp ≡ None))
    → NoneApplies (times_lines (times_known known times fs a.timestamp) a)
times_none true times fs a is = (refl, (refl, tt))
times_none false times fs a is = let none = is refl in (none.0, (ap is_some none.1, tt))

pub own_times : (h : History) → AreOwn h → AllByRecursion (HasAccounts h) h.entries → (i : ℕ) (a : EventAccount)
    → IsSome (opened h i) → a.id ≡ i → a.timestamp ≡ (account_of h i).timestamp
    → NoneApplies
    (times_lines (times_known (is_some (fields_before (events h) a.id)) (times_of (events h))
    (accounts_before (events h)) a.timestamp) a)
own_times h own known i a there id_is time_is =
    times_none (is_some (fields_before (events h) a.id)) (times_of (events h)) (accounts_before (events h)) a (λ is. (
      ap (has_time (times_of (events h))) time_is ∙ no_event_at h own i there,
      ap (account_at (accounts_before (events h))) time_is
          ∙ no_account_at h own known i there
          (ap (fields_before (events h)) (sym id_is) ∙ no_more (fields_before (events h) a.id) is),
    ))
  where
    no_more : (o : Option FixedFields) → is_some o ≡ false → o ≡ None
    no_more None is = refl
    no_more (Some x) is = cc

pub own_pair : (h : History) → AreOwn h → (i j : ℕ) → IsSome (opened h i) → IsSome (opened h j) → i ≢ j
    → ((account_of h i).timestamp == (account_of h j).timestamp) ≡ false
own_pair h own i j one other is = ne_eqb _ _ (apart_of h own i j one other is)
