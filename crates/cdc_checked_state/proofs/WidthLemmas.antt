-- That a checked follower of events with numbers of their widths can be saved.
use Rattle.std.proofs.Common.{◌≡◌, ℕ, ◌+◌, ◌<◌, ◌^◌, Bool, true, false, List, [], ◌∷◌, ◌++◌, Option, Some, None, Result, Ok, Err, append-nil, append_assoc, inl, inr, refl, sym, ap, ◌∙◌, subst, arith}
use Rattle.std.specs.Prelude.{◌==◌, ◌&&◌, cond, filter, fold, max, nat_eq, unwrap_or, if◌then◌else◌}
use Rattle.std.specs.List.{AllByRecursion}
use Rattle.std.specs.Map.{keys_of, lookup}
use Rattle.std.proofs.lemmas.Bool.{and_parts, eqb-true}
use Rattle.std.proofs.lemmas.Bool.Decides.{eqb_tells}
use Rattle.std.proofs.lemmas.Map.Keys.{IsDistinct-head, IsDistinct-tail}
use Rattle.cdc_types.specs.declared.accounts.Balances.{Balances}
use Rattle.cdc_types.specs.declared.events.Event.{Event}
use Rattle.cdc_types.specs.declared.events.EventAccount.{EventAccount}
use Rattle.cdc_types.specs.Timestamps.{last_timestamp_from}
use Rattle.cdc_ledger.specs.Kinds.{holds, settles}
use Rattle.cdc_ledger.proofs.Elements.{AllByRecursion_push}
use Rattle.cdc_message.specs.Widths.{AccountFits, EventFits}
use Rattle.cdc_match.specs.declared.pairs.Mode.TheVariants.{All}
use Rattle.cdc_match.specs.Arguments.{Arguments}
use Rattle.cdc_subscriber.specs.declared.book.BookEntry.{BookEntry}
use Rattle.cdc_subscriber.specs.Book.{book_of, entries_of, entry_of, put}
use Rattle.cdc_subscriber.proofs.BookLemmas.{book_of-push, eqb_same, eqb_swap}
use Rattle.cdc_follow.specs.declared.entries.Content.{Content}
use Rattle.cdc_follow.specs.declared.entries.Content.TheVariants as content
use Rattle.cdc_follow.specs.declared.entries.Entry.{Entry}
use Rattle.cdc_follow.specs.declared.errors.LineError.{LineError}
use Rattle.cdc_follow.specs.Entries.{line_entry}
use Rattle.cdc_follow.specs.Lines.{lines_of}
use Rattle.cdc_follow.specs.Saved.{EntryFits}
use Rattle.cdc_follow.specs.Widths.{ContentFits}
use Rattle.cdc_follow.proofs.EntryWidths.{entries_fit}
use Rattle.cdc_audit.specs.Known.{balances_after, settled_id}
use Rattle.cdc_audit_state.specs.Saveable.{AreDistinct, IsByItsId}
use Rattle.cdc_checked.specs.declared.checker.KnownAccount.{KnownAccount}
use Rattle.cdc_checked.specs.Based.{is_based, next_by}
use Rattle.cdc_checked.specs.Checked.{is_applicable, last_of, names, open_then}
use Rattle.cdc_checked.specs.Standing.{known_under, unknown}
use Rattle.cdc_checked.proofs.StandLemmas.{balances_after-push}
use Rattle.cdc_checked_follow.specs.declared.follower.Checking.{Checking}
use Rattle.cdc_checked_follow.specs.declared.follower.Checking.TheVariants.{Applied, Late, Refused, Ended, OutOfRange}
use Rattle.cdc_checked_follow.specs.declared.streams.CheckStop.{CheckStop}
use Rattle.cdc_checked_follow.specs.Checking.{Checked, CheckedState, content_outcome, is_out_of_range, lines_checked, next_content, stop_for}
use Rattle.cdc_checked_follow.specs.Standing.{taken_of, takes}
use Rattle.cdc_checked_follow.proofs.StreamLemmas.{bad_line, entry_line, no_lines, past_line}
use Rattle.cdc_checked_state.specs.declared.rows.Row.{Row}
use Rattle.cdc_checked_state.specs.Laws.{AppliedFit, FollowedEventsFit, FollowersCanBeSaved}
use Rattle.cdc_checked_state.specs.Saveable.{KnownFits, RowFits}
use Rattle.cdc_checked_state.specs.States.{book_rows, known_rows, open_rows}

-- ---- a map's entries, by its look-ups

differs : {V : Type 0} (id k : ℕ) (v : V) (es : List (ℕ × V))
    → AllByRecursion (λ key. nat_eq id key ≡ false) (keys_of es) → lookup (nat_eq k) es ≡ Some v
    → nat_eq k id ≡ false
differs id k v [] all is = absurd cc
differs id k v (x ∷ es) all is =
    elim (eqb_tells k x.0) [
      | inl same ↦ eqb_swap id k (subst (λ n. nat_eq id n ≡ false) (sym same.1) all.0)
      | inr other ↦ differs id k v es all.1
          (sym (ap (λ b. cond b (Some x.1) (lookup (nat_eq k) es)) other.0) ∙ is)
    ]

from_lookups : {V : Type 0} (P : ℕ → V → Type 0) (es : List (ℕ × V)) → AreDistinct es
    → ((k : ℕ) (v : V) → lookup (nat_eq k) es ≡ Some v → P k v) → AllByRecursion (λ (e : ℕ × V). P e.0 e.1) es
from_lookups P [] distinct holds = tt
from_lookups P (e ∷ es) distinct holds = (
  holds e.0 e.1 (ap (λ b. cond b (Some e.1) (lookup (nat_eq e.0) es)) (eqb_same e.0)),
  from_lookups P es (IsDistinct-tail nat_eq e.0 (keys_of es) distinct) (λ k v is.
      holds k v (ap (λ b. cond b (Some e.1) (lookup (nat_eq k) es))
      (differs e.0 k v es (IsDistinct-head nat_eq e.0 (keys_of es) distinct) is) ∙ is)),
)

-- ---- a book

put_fits : (entry : BookEntry) (book : List BookEntry) → EntryFits entry → AllByRecursion EntryFits book
    → AllByRecursion EntryFits (put entry book)
put_fits entry [] fits all = (fits, tt)
put_fits entry (other ∷ rest) fits all = by (other.id == entry.id) (put_fits entry rest fits all.1)
  where
    by : (b : Bool) → AllByRecursion EntryFits (put entry rest)
        → AllByRecursion EntryFits (if b then entry ∷ rest else other ∷ put entry rest)
    by true later = (fits, all.1)
    by false later = (all.0, later)

entry_fits : (a : EventAccount) → AccountFits a → EntryFits (entry_of a)
entry_fits a fits = record {
  id = fits.id;
  debits_pending = fits.debits_pending;
  debits_posted = fits.debits_posted;
  credits_pending = fits.credits_pending;
  credits_posted = fits.credits_posted;
}

-- the book of further events
book_more : (past rest : List Event) → AllByRecursion EntryFits (book_of past) → AllByRecursion EventFits rest
    → AllByRecursion EntryFits (book_of (past ++ rest))
book_more past [] fits all =
    subst (λ (es : List Event). AllByRecursion EntryFits (book_of es)) (sym (append-nil past)) fits
book_more past (e ∷ rest) fits all =
    subst (λ (es : List Event). AllByRecursion EntryFits (book_of es)) (append_assoc past (e ∷ []) rest)
    (book_more (past ++ e ∷ []) rest
    (subst (AllByRecursion EntryFits) (sym (book_of-push past e))
    (put_fits (entry_of e.credit_account) _ (entry_fits e.credit_account all.0.credit_account)
    (put_fits (entry_of e.debit_account) (book_of past) (entry_fits e.debit_account all.0.debit_account) fits)))
    all.1)

-- ---- what applied events show

-- the events that pass a test
kept_fit : (p : Event → Bool) (es : List Event) → AllByRecursion EventFits es → AllByRecursion EventFits (filter p es)
kept_fit p [] all = tt
kept_fit p (e ∷ es) all = by (p e) (kept_fit p es all.1)
  where
    by : (b : Bool) → AllByRecursion EventFits (filter p es)
        → AllByRecursion EventFits (if b then e ∷ filter p es else filter p es)
    by true rest = (all.0, rest)
    by false rest = rest

greatest_fits : (t : ℕ) (es : List Event) → t < 2 ^ 64 → AllByRecursion EventFits es
    → fold (λ s (e : Event). max s e.timestamp) t es < 2 ^ 64
greatest_fits t [] small all = small
greatest_fits t (e ∷ es) small all =
    greatest_fits (max t e.timestamp) es (let fits = all.0.timestamp in omega (arith, small, fits)) all.1

last_fits : (t : ℕ) (es : List Event) → t < 2 ^ 64 → AllByRecursion EventFits es → last_timestamp_from t es < 2 ^ 64
last_fits t [] small all = small
last_fits t (e ∷ es) small all = last_fits e.timestamp es all.0.timestamp all.1

-- the balances of an account
record BalancesFit (b : Balances) : Type 0 where
  pub debits_pending : b.debits_pending < 2 ^ 128
  pub debits_posted : b.debits_posted < 2 ^ 128
  pub credits_pending : b.credits_pending < 2 ^ 128
  pub credits_posted : b.credits_posted < 2 ^ 128

side_fits : (a : EventAccount) → AccountFits a → BalancesFit (entry_of a).balances
side_fits a fits = record {
  debits_pending = fits.debits_pending;
  debits_posted = fits.debits_posted;
  credits_pending = fits.credits_pending;
  credits_posted = fits.credits_posted;
}

shown_fit : (id : ℕ) (past rest : List Event) → BalancesFit (balances_after past id)
    → AllByRecursion EventFits rest → BalancesFit (balances_after (past ++ rest) id)
shown_fit id past [] fits all =
    subst (λ (es : List Event). BalancesFit (balances_after es id)) (sym (append-nil past)) fits
shown_fit id past (e ∷ rest) fits all =
    subst (λ (es : List Event). BalancesFit (balances_after es id)) (append_assoc past (e ∷ []) rest)
    (shown_fit id (past ++ e ∷ []) rest (subst BalancesFit (sym (balances_after-push past e id))
    (by (e.credit_account.id == id) (e.debit_account.id == id))) all.1)
  where
    by : (a b : Bool) → BalancesFit (if a then (entry_of e.credit_account).balances
        else (if b then (entry_of e.debit_account).balances else balances_after past id))
    by true b = side_fits e.credit_account all.0.credit_account
    by false true = side_fits e.debit_account all.0.debit_account
    by false false = fits

balances_fit : (id : ℕ) (es : List Event) → AllByRecursion EventFits es → BalancesFit (balances_after es id)
balances_fit id es all =
    shown_fit id [] es (record {
      debits_pending = omega arith;
      debits_posted = omega arith;
      credits_pending = omega arith;
      credits_posted = omega arith;
    }) all

-- what a checker knows of it
known_fits : (v : KnownAccount) (b : Balances) (t : ℕ) → v.balances ≡ b → v.last ≡ t → BalancesFit b → t < 2 ^ 64
    → KnownFits v
known_fits v b t same at fits small = record {
  debits_pending = subst (λ (x : Balances). x.debits_pending < 2 ^ 128) (sym same) fits.debits_pending;
  debits_posted = subst (λ (x : Balances). x.debits_posted < 2 ^ 128) (sym same) fits.debits_posted;
  credits_pending = subst (λ (x : Balances). x.credits_pending < 2 ^ 128) (sym same) fits.credits_pending;
  credits_posted = subst (λ (x : Balances). x.credits_posted < 2 ^ 128) (sym same) fits.credits_posted;
  last = omega (arith, at, small);
}

-- the event of an open pending transfer
abbrev OpenFits : ℕ → Option Event → Type 0
OpenFits id None = Unit {0}
OpenFits id (Some e) = EventFits e × (id ≡ e.transfer.id)

open_fits : (id : ℕ) (es : List Event) (o : Option Event) → OpenFits id o → AllByRecursion EventFits es
    → OpenFits id (fold (open_then id) o es)
open_fits id [] o fits all = fits
open_fits id (e ∷ es) o fits all =
    open_fits id es (open_then id o e)
    (by (holds e.kind && (e.transfer.id == id)) refl (settles e.kind && (settled_id e == id))) all.1
  where
    by : (a : Bool) → (holds e.kind && (e.transfer.id == id)) ≡ a → (b : Bool)
        → OpenFits id (if a then Some e else (if b then None else o))
    by true is b =
        (all.0, sym (eqb-true e.transfer.id id (and_parts (holds e.kind) (e.transfer.id == id) is).1))
    by false is true = tt
    by false is false = fits

-- ---- the lines

book_lines : (book : List (ℕ × Balances)) (more : List Row) → AllByRecursion EntryFits (entries_of book)
    → AllByRecursion RowFits more → AllByRecursion RowFits (book_rows book ++ more)
book_lines [] more all others = others
book_lines (a ∷ book) more all others = (all.0, book_lines book more all.1 others)

known_lines : (accounts : List (ℕ × KnownAccount)) (more : List Row)
    → AllByRecursion (λ id. id < 2 ^ 128) (keys_of accounts)
    → AllByRecursion (λ (a : ℕ × KnownAccount). KnownFits a.1) accounts → AllByRecursion RowFits more
    → AllByRecursion RowFits (known_rows accounts ++ more)
known_lines [] more ids all others = others
known_lines (a ∷ accounts) more ids all others =
    ((ids.0, all.0), known_lines accounts more ids.1 all.1 others)

open_lines : (events : List (ℕ × Event))
    → AllByRecursion (λ (o : ℕ × Event). EventFits o.1 × (o.0 ≡ o.1.transfer.id)) events
    → AllByRecursion RowFits (open_rows events)
open_lines [] all = tt
open_lines (o ∷ events) all = (all.0.0, open_lines events all.1)

by_ids : (events : List (ℕ × Event))
    → AllByRecursion (λ (o : ℕ × Event). EventFits o.1 × (o.0 ≡ o.1.transfer.id)) events
    → AllByRecursion IsByItsId events
by_ids [] all = tt
by_ids (o ∷ events) all = (all.0.1, by_ids events all.1)

pub can_be_saved : FollowersCanBeSaved
can_be_saved taking binding follower state stands fit one_line book accounts open_ones =
    let applied = state.applied in
    let checker = stands.checker in
    let opened = from_lookups (λ (k : ℕ) (e : Event). EventFits e × (k ≡ e.transfer.id))
    follower.checker.open_ones open_ones.distinct (λ k e is.
    subst (OpenFits k) (sym (checker.open_ones k) ∙ is) (open_fits k applied None tt fit)) in
    let known = from_lookups (λ (k : ℕ) (v : KnownAccount). KnownFits v) follower.checker.accounts accounts.distinct
    (λ k v is.
    let under : known_under follower.checker.accounts k ≡ v =
    ap (λ (o : Option KnownAccount). unwrap_or o unknown) is in
    known_fits v (balances_after applied k) (last_of applied k)
    (ap (λ (a : KnownAccount). a.balances) (sym under) ∙ checker.balances k)
    (ap (λ (a : KnownAccount). a.last) (sym under) ∙ checker.last k) (balances_fit k applied fit)
    (last_fits 0 (filter (names k) applied) (omega arith) (kept_fit (names k) applied fit))) in
    let shown : AllByRecursion EntryFits (entries_of follower.book) =
    subst (AllByRecursion EntryFits) (sym stands.book)
    (book_more [] (taken_of taking applied) tt (kept_fit (takes taking) applied fit)) in
    record {
      line = one_line;
      applied = let is = stands.applied in omega (arith, is);
      last = let is = stands.last in let most = greatest_fits 0 applied (omega arith) fit in omega (arith, is, most);
      rows = book_lines follower.book _ shown
          (known_lines follower.checker.accounts _ accounts.fit known
          (open_lines follower.checker.open_ones opened));
      book = book.distinct;
      accounts = accounts.distinct;
      open_ones = open_ones.distinct;
      by_ids = by_ids follower.checker.open_ones opened;
    }

-- ---- what is applied of bytes

next_fits : (state : CheckedState) (c : Content) → AppliedFit state → ContentFits c
    → AppliedFit (next_content state c)
next_fits state content.End fits small = fits
next_fits state (content.Event e) fits small =
    by (is_out_of_range e) (next_by state.baseline state.applied e) (one_more state.baseline)
  where
    by : (a : Bool) (later : List Event) → AllByRecursion EventFits later
        → AppliedFit (if a then state else record state { applied = later })
    by true later all = fits
    by false later all = all

    one_or_none : (b : Bool) → AllByRecursion EventFits (if b then state.applied ++ e ∷ [] else state.applied)
    one_or_none true = AllByRecursion_push EventFits state.applied e fits small
    one_or_none false = fits

    one_more : (baseline : Bool) → AllByRecursion EventFits (next_by baseline state.applied e)
    one_more true = one_or_none (is_based state.applied e)
    one_more false = one_or_none (is_applicable state.applied e)

-- what is followed in the end fits
abbrev EndFits : Checked → Type 0
EndFits followed = AppliedFit followed.state

module _ (taking : Arguments) (skips : Bool) where
  -- one line in front of others, by its entry
  line_fits : (state : CheckedState) (number : ℕ) (line : List ℕ) (rest : List (List ℕ))
      (read : Result (Option Entry) LineError) → line_entry false line ≡ read → AppliedFit state
      → ((state : CheckedState) → AppliedFit state → EndFits (lines_checked skips state (number + 1) rest))
      → EndFits (lines_checked skips state number (line ∷ rest))
  line_fits state number line rest (Ok None) is all later =
      subst EndFits (sym (past_line taking skips state number line rest is)) (later state all)
  line_fits state number line rest (Err error) is all later =
      subst EndFits (sym (bad_line taking skips state number line rest error is)) all
  line_fits state number line rest (Ok (Some entry)) is all later = by _ refl
    where
      by : (answer : Option CheckStop) → stop_for skips (content_outcome state entry.content) number ≡ answer
          → EndFits (lines_checked skips state number (line ∷ rest))
      by None stops =
          subst EndFits (sym (entry_line taking skips state number line rest entry None is stops))
          (later (next_content state entry.content)
          (next_fits state entry.content all (entries_fit false line entry is)))
      by (Some why) stops =
          subst EndFits (sym (entry_line taking skips state number line rest entry (Some why) is stops)) all

  lines_fit : (state : CheckedState) (number : ℕ) (lines : List (List ℕ)) → AppliedFit state
      → EndFits (lines_checked skips state number lines)
  lines_fit state number [] all = subst EndFits (sym (no_lines taking skips state number)) all
  lines_fit state number (line ∷ rest) all =
      line_fits state number line rest _ refl all (λ next fits. lines_fit next (number + 1) rest fits)

pub followed_fit : FollowedEventsFit
followed_fit skips state bytes all = lines_fit takes_all skips state 1 (lines_of bytes) all
  where
    takes_all : Arguments
    takes_all = record { mode = All; pairs = [] }
