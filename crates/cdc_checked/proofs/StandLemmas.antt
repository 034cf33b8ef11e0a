-- A checker stands for the events that it applied.
use Rattle.std.proofs.Common.{◌≡◌, ℕ, ◌<◌, ◌≤◌, Bool, true, false, List, [], ◌∷◌, ◌++◌, Option, Some, None, append-nil, is_none, refl, sym, ap, ap₂, ◌∙◌, inl, inr, arith}
use Rattle.std.specs.Prelude.{◌⊎◌, ◌==◌, ◌&&◌, ◌||◌, nat_eq, nat_lt, filter, find, fold, reverse, if◌then◌else◌, option_map, unwrap_or}
use Rattle.std.specs.List.{flat_map}
use Rattle.std.specs.Map.{lookup}
use Rattle.std.proofs.lemmas.Bool.{and_left, and_from, and_right, eq-eqb, le-ltb, lt-ltb, ne_eqb}
use Rattle.std.proofs.lemmas.Bool.Decides.{eqb_tells}
use Rattle.std.proofs.lemmas.Grind.{flat_map-append}
use Rattle.std.proofs.lemmas.List.{reverse-append}
use Rattle.std.proofs.lemmas.List.Elements.{filter-append}
use Rattle.indexmap.specs.IndexMap.{insert_entry}
use Rattle.cdc_types.specs.declared.accounts.Balances.{Balances}
use Rattle.cdc_types.specs.declared.events.Event.{Event}
use Rattle.cdc_types.specs.Lines.{first_line}
use Rattle.cdc_types.specs.Timestamps.{last_timestamp}
use Rattle.cdc_types.proofs.Rising.{last_timestamp_from-push}
use Rattle.cdc_ledger.specs.Accounts.{no_balances}
use Rattle.cdc_ledger.specs.Kinds.{settles}
use Rattle.cdc_subscriber.specs.declared.book.BookEntry.{BookEntry}
use Rattle.cdc_subscriber.specs.Book.{entry_of, sides}
use Rattle.cdc_audit.specs.declared.refusals.Refusal.{Refusal}
use Rattle.cdc_audit.specs.Known.{balances_after, settled_id}
use Rattle.cdc_checked.specs.declared.checker.KnownAccount.{KnownAccount}
use Rattle.cdc_checked.specs.Based.{based_rules, is_based, next_by, rules_by}
use Rattle.cdc_checked.specs.Checked.{account_rules, is_applicable, is_new, last_of, names, open_in, open_one, open_then}
use Rattle.cdc_checked.specs.Standing.{CheckerState, StandsFor, known_after, known_by, known_under, lines_for, one_under, unknown, with_accounts}

-- ---- what is kept under a key

-- after one more entry
pub lookup_put : {V : Type 0} (es : List (ℕ × V)) (key : ℕ) (v : V) (id : ℕ)
    → lookup (nat_eq id) (insert_entry nat_eq es key v) ≡ (if key == id then Some v else lookup (nat_eq id) es)
lookup_put [] key v id =
    elim (eqb_tells key id) [
      | inl same ↦ rw (same.0, eq-eqb id key (sym same.1)) refl
      | inr other ↦ rw (other.0, ne_eqb id key (λ is. other.1 (sym is))) refl
    ]
lookup_put (first ∷ rest) key v id =
    elim (eqb_tells key first.0) [
      | inl here ↦ elim (eqb_tells key id) [
        | inl same ↦ rw (here.0, same.0, eq-eqb id first.0 (sym same.1 ∙ here.1)) refl
        | inr other ↦ rw (here.0, other.0, ne_eqb id first.0 (λ is. other.1 (here.1 ∙ sym is))) refl
      ]
      | inr apart ↦ elim (eqb_tells id first.0) [
        | inl there ↦ rw (apart.0, there.0, ne_eqb key id (λ is. apart.1 (is ∙ there.1))) refl
        | inr away ↦ rw (apart.0, away.0) (lookup_put rest key v id)
      ]
    ]

-- ---- one more event

-- what events show last of the account of this id
abbrev seen : ℕ → List Event → Option BookEntry
seen id es = find (λ entry. entry.id == id) (reverse (flat_map sides es))

seen-push : (id : ℕ) (es : List Event) (e : Event)
    → seen id (es ++ e ∷ [])
    ≡ (if e.credit_account.id == id then Some (entry_of e.credit_account)
    else (if e.debit_account.id == id then Some (entry_of e.debit_account) else seen id es))
seen-push id es e =
    rw (flat_map-append sides es (e ∷ []), reverse-append (flat_map sides es) (sides e)) refl

pub balances_after-push : (es : List Event) (e : Event) (id : ℕ)
    → balances_after (es ++ e ∷ []) id
    ≡ (if e.credit_account.id == id then (entry_of e.credit_account).balances
    else (if e.debit_account.id == id then (entry_of e.debit_account).balances else balances_after es id))
balances_after-push es e id =
    ap (λ (o : Option BookEntry). unwrap_or (option_map (λ entry. entry.balances) o) no_balances) (seen-push id es e)
    ∙ by (e.credit_account.id == id) (e.debit_account.id == id)
  where
    by : (a b : Bool)
        → unwrap_or (option_map (λ entry. entry.balances) (if a then Some (entry_of e.credit_account)
        else (if b then Some (entry_of e.debit_account) else seen id es))) no_balances
        ≡ (if a then (entry_of e.credit_account).balances
        else (if b then (entry_of e.debit_account).balances else balances_after es id))
    by true b = refl
    by false true = refl
    by false false = refl

pub last_of-push : (es : List Event) (e : Event) (id : ℕ)
    → last_of (es ++ e ∷ []) id
    ≡ (if e.credit_account.id == id then e.timestamp
    else (if e.debit_account.id == id then e.timestamp else last_of es id))
last_of-push es e id =
    ap last_timestamp (filter-append (names id) es (e ∷ []))
    ∙ by (e.debit_account.id == id) (e.credit_account.id == id)
  where
    by : (d c : Bool)
        → last_timestamp (filter (names id) es ++ (if d || c then e ∷ [] else []))
        ≡ (if c then e.timestamp else (if d then e.timestamp else last_of es id))
    by true true = last_timestamp_from-push 0 (filter (names id) es) e
    by true false = last_timestamp_from-push 0 (filter (names id) es) e
    by false true = last_timestamp_from-push 0 (filter (names id) es) e
    by false false = ap last_timestamp (append-nil (filter (names id) es))

pub open_in-push : (es : List Event) (e : Event) (id : ℕ) → open_in (es ++ e ∷ []) id ≡ open_then id (open_in es id) e
open_in-push es e id = fold_push (open_then id) None es e
  where
    fold_push : {S X : Type 0} (f : S → X → S) (s : S) (xs : List X) (x : X)
        → fold f s (xs ++ x ∷ []) ≡ f (fold f s xs) x
    fold_push f s [] x = refl
    fold_push f s (y ∷ xs) x = fold_push f (f s y) xs x

-- what is known of an account after it
known_push : (accounts : List (ℕ × KnownAccount)) (e : Event) (id : ℕ)
    → known_under (with_accounts accounts e) id
    ≡ (if e.credit_account.id == id then known_by e.timestamp e.credit_account
    else (if e.debit_account.id == id then known_by e.timestamp e.debit_account else known_under accounts id))
known_push accounts e id =
    ap (λ (o : Option KnownAccount). unwrap_or o unknown)
    (lookup_put (insert_entry nat_eq accounts e.debit_account.id (known_by e.timestamp e.debit_account))
    e.credit_account.id (known_by e.timestamp e.credit_account) id
    ∙ ap (λ (o : Option KnownAccount).
    if e.credit_account.id == id then Some (known_by e.timestamp e.credit_account) else o)
    (lookup_put accounts e.debit_account.id (known_by e.timestamp e.debit_account) id))
    ∙ by (e.credit_account.id == id) (e.debit_account.id == id)
  where
    by : (a b : Bool)
        → unwrap_or (if a then Some (known_by e.timestamp e.credit_account)
        else (if b then Some (known_by e.timestamp e.debit_account) else lookup (nat_eq id) accounts)) unknown
        ≡ (if a then known_by e.timestamp e.credit_account
        else (if b then known_by e.timestamp e.debit_account else known_under accounts id))
    by true b = refl
    by false true = refl
    by false false = refl

pub stands_push : (old new : CheckerState) (applied : List Event) (e : Event) → StandsFor old applied
    → new.accounts ≡ with_accounts old.accounts e
    → ((id : ℕ) → lookup (nat_eq id) new.open_ones ≡ open_then id (lookup (nat_eq id) old.open_ones) e)
    → StandsFor new (applied ++ e ∷ [])
stands_push old new applied e stands accounts opens = record {
  balances = λ id.
      ap (λ (es : List (ℕ × KnownAccount)). (known_under es id).balances) accounts
      ∙ ap (λ (k : KnownAccount). k.balances) (known_push old.accounts e id)
      ∙ balances (known_under old.accounts id) _ (e.credit_account.id == id) (e.debit_account.id == id)
      (stands.balances id)
      ∙ sym (balances_after-push applied e id);
  last = λ id.
      ap (λ (es : List (ℕ × KnownAccount)). (known_under es id).last) accounts
      ∙ ap (λ (k : KnownAccount). k.last) (known_push old.accounts e id)
      ∙ last (known_under old.accounts id) _ (e.credit_account.id == id) (e.debit_account.id == id) (stands.last id)
      ∙ sym (last_of-push applied e id);
  open_ones = λ id.
      opens id ∙ ap (λ (o : Option Event). open_then id o e) (stands.open_ones id)
      ∙ sym (open_in-push applied e id);
}
  where
    balances : (k : KnownAccount) (b : Balances) (c d : Bool) → k.balances ≡ b
        → (if c then known_by e.timestamp e.credit_account
        else (if d then known_by e.timestamp e.debit_account else k)).balances
        ≡ (if c then (entry_of e.credit_account).balances
        else (if d then (entry_of e.debit_account).balances else b))
    balances k b true d same = refl
    balances k b false true same = refl
    balances k b false false same = same

    last : (k : KnownAccount) (n : ℕ) (c d : Bool) → k.last ≡ n
        → (if c then known_by e.timestamp e.credit_account
        else (if d then known_by e.timestamp e.debit_account else k)).last
        ≡ (if c then e.timestamp else (if d then e.timestamp else n))
    last k b true d same = refl
    last k b false true same = refl
    last k b false false same = same

-- ---- what becomes of an event

-- an event that isn't new is late, and changes nothing
pub is_late : (checker : CheckerState) (applied : List Event) (e : Event) → StandsFor checker applied
    → (e.timestamp ≤ (known_under checker.accounts e.debit_account.id).last)
    ⊎ (e.timestamp ≤ (known_under checker.accounts e.credit_account.id).last) → is_new applied e ≡ false
is_late checker applied e stands (inl debit) =
    and_left (nat_lt (last_of applied e.debit_account.id) e.timestamp)
    (nat_lt (last_of applied e.credit_account.id) e.timestamp)
    (le-ltb (last_of applied e.debit_account.id) e.timestamp
    (let same = stands.last e.debit_account.id in omega (arith, same, debit)))
is_late checker applied e stands (inr credit) =
    and_right (nat_lt (last_of applied e.debit_account.id) e.timestamp)
    (nat_lt (last_of applied e.credit_account.id) e.timestamp)
    (le-ltb (last_of applied e.credit_account.id) e.timestamp
    (let same = stands.last e.credit_account.id in omega (arith, same, credit)))

pub is_newer : (checker : CheckerState) (applied : List Event) (e : Event) → StandsFor checker applied
    → (known_under checker.accounts e.debit_account.id).last < e.timestamp
    → (known_under checker.accounts e.credit_account.id).last < e.timestamp → is_new applied e ≡ true
is_newer checker applied e stands debit credit =
    and_from (nat_lt (last_of applied e.debit_account.id) e.timestamp)
    (nat_lt (last_of applied e.credit_account.id) e.timestamp)
    (lt-ltb (last_of applied e.debit_account.id) e.timestamp
    (let same = stands.last e.debit_account.id in omega (arith, same, debit)))
    (lt-ltb (last_of applied e.credit_account.id) e.timestamp
    (let same = stands.last e.credit_account.id in omega (arith, same, credit)))

-- what is known of an account is what the events show of it
pub known_is : (checker : CheckerState) (applied : List Event) (id : ℕ) → StandsFor checker applied
    → known_under checker.accounts id ≡ known_after applied id
known_is checker applied id stands =
    ap₂ (λ (b : Balances) (t : ℕ). let it : KnownAccount = record { balances = b; last = t } in it)
    (stands.balances id) (stands.last id)

-- with what is known in place of the events, the lines are the same
lines_are : (baseline : Bool) (applied : List Event) (e : Event)
    → lines_for baseline (open_one applied e) (known_after applied e.debit_account.id)
    (known_after applied e.credit_account.id) e ≡ rules_by baseline applied e
lines_are true applied e = refl
lines_are false applied e = refl

-- the reason by what is known is the one by the events
pub same_reason : (baseline : Bool) (checker : CheckerState) (applied : List Event) (e : Event)
    → StandsFor checker applied
    → first_line (lines_for baseline (one_under checker.open_ones e)
    (known_under checker.accounts e.debit_account.id) (known_under checker.accounts e.credit_account.id) e)
    ≡ first_line (rules_by baseline applied e)
same_reason baseline checker applied e stands =
    ap (λ (o : Option Event). first_line (lines_for baseline (if settles e.kind then o else None)
    (known_under checker.accounts e.debit_account.id) (known_under checker.accounts e.credit_account.id) e))
    (stands.open_ones (settled_id e))
    ∙ ap₂ (λ (a b : KnownAccount). first_line (lines_for baseline (open_one applied e) a b e))
    (known_is checker applied e.debit_account.id stands) (known_is checker applied e.credit_account.id stands)
    ∙ ap first_line (lines_are baseline applied e)

-- an event that becomes something else than applied changes nothing
pub next_if_not : (baseline : Bool) (applied : List Event) (e : Event) → is_new applied e ≡ false
    → next_by baseline applied e ≡ applied
unfolding is_applicable is_based
next_if_not true applied e not =
    ap (λ b. if b && is_none (first_line (based_rules applied e)) then applied ++ e ∷ [] else applied) not
next_if_not false applied e not =
    ap (λ b. if b && is_none (first_line (account_rules applied e)) then applied ++ e ∷ [] else applied) not

pub next_if_refused : (baseline : Bool) (applied : List Event) (e : Event) (why : Refusal)
    → first_line (rules_by baseline applied e) ≡ Some why → next_by baseline applied e ≡ applied
unfolding is_applicable is_based
next_if_refused true applied e why refused =
    ap (λ (o : Option Refusal). if is_new applied e && is_none o then applied ++ e ∷ [] else applied) refused
    ∙ ap (λ b. if b then applied ++ e ∷ [] else applied) (and_right (is_new applied e) false refl)
next_if_refused false applied e why refused =
    ap (λ (o : Option Refusal). if is_new applied e && is_none o then applied ++ e ∷ [] else applied) refused
    ∙ ap (λ b. if b then applied ++ e ∷ [] else applied) (and_right (is_new applied e) false refl)

pub next_if_applied : (baseline : Bool) (applied : List Event) (e : Event) → is_new applied e ≡ true
    → first_line (rules_by baseline applied e) ≡ None → next_by baseline applied e ≡ applied ++ e ∷ []
unfolding is_applicable is_based
next_if_applied true applied e new passes =
    ap₂ (λ b (o : Option Refusal). if b && is_none o then applied ++ e ∷ [] else applied) new passes
next_if_applied false applied e new passes =
    ap₂ (λ b (o : Option Refusal). if b && is_none o then applied ++ e ∷ [] else applied) new passes

-- the same of a reason that was found so
pub reason_is : (baseline : Bool) (checker : CheckerState) (applied : List Event) (e : Event) (why : Option Refusal)
    (one : Option Event) (debited credited : KnownAccount) → StandsFor checker applied
    → why ≡ first_line (lines_for baseline one debited credited e) → one ≡ one_under checker.open_ones e
    → debited ≡ known_under checker.accounts e.debit_account.id
    → credited ≡ known_under checker.accounts e.credit_account.id
    → why ≡ first_line (rules_by baseline applied e)
reason_is baseline checker applied e why one debited credited stands is one_is debited_is credited_is =
    is ∙ ap (λ (o : Option Event). first_line (lines_for baseline o debited credited e)) one_is
    ∙ ap₂ (λ (a b : KnownAccount).
    first_line (lines_for baseline (one_under checker.open_ones e) a b e)) debited_is credited_is
    ∙ same_reason baseline checker applied e stands
