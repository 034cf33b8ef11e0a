-- That an auditor of events with numbers of their widths can be saved.
use Rattle.cdc_audit_state.proofs.Words.{AccountFits, AllByRecursion, AreBook, AreDistinct, AuditsCanBeSaved, BookEntry, Bool, EntryFits, Event, EventAccount, EventFits, Fields, FieldsFit, FixedFields, IsByItsId, IsDistinct-head, IsDistinct-tail, IsKnownOf, List, None, Open, Option, Pending, Plain, Row, RowFits, Settled, Some, Stored, StoredFits, Time, Transfer, [], and_parts, ap, append-nil, append_assoc, are_distinct, arith, book_of, book_of-push, cond, entry_of, eqb_same, eqb_swap, eqb_tells, expiry_rows, false, false≢true, find, flat_map, holds, ids_of, inl, inr, is_among, keys_of, lookup, map, nat_eq, neither, not, option_map, put, refl, stored_under, stores, subst, sym, true, ℕ, ◌&&◌, ◌++◌, ◌<◌, ◌==◌, ◌^◌, ◌||◌, ◌∙◌, ◌∷◌, ◌≡◌}
use Rattle.cdc_subscriber.specs.SubscriberState.{SubscriberState}
use Rattle.cdc_types.specs.Timestamps.{last_timestamp_from}
use Rattle.cdc_audit.proofs.KnownLemmas.{chain_length-late}
use Rattle.cdc_audit.specs.Apart.{times_of}
use Rattle.cdc_audit.specs.Fields.{accounts_of, fields_before, fixed_fields}
use Rattle.cdc_audit.specs.Known.{expiry_or, is_settled, is_stored, last_expiry_from, open_event, pending_amount, pending_event}

-- ---- the accounts

either : {X : Type 0} (P : X → Type 0) (b : Bool) (x y : X) → P x → P y → P (cond b x y)
either P true x y here there = here
either P false x y here there = there

side_fits : (a : EventAccount) → AccountFits a → EntryFits (entry_of a)
side_fits a fits = record {
  id = fits.id;
  debits_pending = fits.debits_pending;
  debits_posted = fits.debits_posted;
  credits_pending = fits.credits_pending;
  credits_posted = fits.credits_posted;
}

put_fits : (entry : BookEntry) (book : List BookEntry) → EntryFits entry → AllByRecursion EntryFits book
    → AllByRecursion EntryFits (put entry book)
put_fits entry [] fits all = (fits, tt)
put_fits entry (other ∷ rest) fits all =
    either (AllByRecursion EntryFits) (other.id == entry.id) (entry ∷ rest) (other ∷ put entry rest) (fits, all.1)
    (all.0, put_fits entry rest fits all.1)

-- an account that is put is the only further one
put_apart : (id : ℕ) (entry : BookEntry) (book : List BookEntry) → (entry.id == id) ≡ false
    → is_among id (ids_of book) ≡ false → is_among id (ids_of (put entry book)) ≡ false
put_apart id entry [] differs apart = rw differs refl
put_apart id entry (other ∷ rest) differs apart =
    let both = neither (other.id == id) (is_among id (ids_of rest)) apart in
    elim (eqb_tells other.id entry.id) [
      | inl same ↦ rw (same.0, differs, both.1) refl
      | inr other-id ↦ rw (other-id.0, both.0) (put_apart id entry rest differs both.1)
    ]

both_true : (a b : Bool) → (not a && b) ≡ true → (a ≡ false) × (b ≡ true)
both_true true b is = absurd cc
both_true false b is = (refl, is)

put_distinct : (entry : BookEntry) (book : List BookEntry) → are_distinct (ids_of book) ≡ true
    → are_distinct (ids_of (put entry book)) ≡ true
put_distinct entry [] distinct = refl
put_distinct entry (other ∷ rest) distinct =
    let both = both_true (is_among other.id (ids_of rest)) (are_distinct (ids_of rest)) distinct in
    elim (eqb_tells other.id entry.id) [
      | inl same ↦ rw (same.0, sym same.1, both.0) both.1
      | inr apart ↦ rw (apart.0, put_apart other.id entry rest (eqb_swap other.id entry.id apart.0) both.0)
          (put_distinct entry rest both.1)
    ]

put_book : (a : EventAccount) (book : List BookEntry) → AccountFits a → AreBook book → AreBook (put (entry_of a) book)
put_book a book fits are = record {
  fit = put_fits (entry_of a) book (side_fits a fits) are.fit;
  distinct = put_distinct (entry_of a) book are.distinct;
}

-- the book of further events
book_more : (past rest : List Event) → AreBook (book_of past) → AllByRecursion EventFits rest
    → AreBook (book_of (past ++ rest))
book_more past [] are fit = subst (λ es. AreBook (book_of es)) (sym (append-nil past)) are
book_more past (e ∷ rest) are fit =
    subst (λ es. AreBook (book_of es)) (append_assoc past (e ∷ []) rest)
    (book_more (past ++ e ∷ []) rest
    (subst AreBook (sym (book_of-push past e))
    (put_book e.credit_account _ fit.0.credit_account
    (put_book e.debit_account (book_of past) fit.0.debit_account are))) fit.1)

book_fits : (past : List Event) → AllByRecursion EventFits past → AreBook (book_of past)
book_fits past fit = book_more [] past (record { fit = tt; distinct = refl }) fit

-- ---- what events show

timestamp_fits : (last : ℕ) (past : List Event) → last < 2 ^ 64 → AllByRecursion EventFits past
    → last_timestamp_from last past < 2 ^ 64
timestamp_fits last [] small fit = small
timestamp_fits last (e ∷ past) small fit = timestamp_fits e.timestamp past fit.0.timestamp fit.1

abbrev MayFit : Option Event → Type 0
MayFit None = Unit {0}
MayFit (Some e) = EventFits e

expiry_fits : (last : Option Event) (past : List Event) → MayFit last → AllByRecursion EventFits past
    → MayFit (last_expiry_from last past)
expiry_fits last [] fits all = fits
expiry_fits last (e ∷ past) fits all =
    expiry_fits (expiry_or last e) past (either MayFit (stores e.kind) last (Some e) fits all.0) all.1

-- an event that is found
found : (test : Event → Bool) (past : List Event) (e : Event) → AllByRecursion EventFits past
    → find test past ≡ Some e → EventFits e × (test e ≡ true)
found test [] e fit is = absurd cc
found test (x ∷ past) e fit is = by (test x) refl (λ there. found test past e fit.1 there)
  where
    some_is : {a b : Event} → ◌≡◌ {A = Option Event} (Some a) (Some b) → a ≡ b
    some_is q = cc

    by : (b : Bool) → test x ≡ b → (find test past ≡ Some e → EventFits e × (test e ≡ true))
        → EventFits e × (test e ≡ true)
    by true passes later =
        let same : x ≡ e = some_is (sym (ap (λ b. cond b (Some x) (find test past)) passes) ∙ is) in
        (subst EventFits same fit.0, sym (ap test same) ∙ passes)
    by false fails later = later (sym (ap (λ b. cond b (Some x) (find test past)) fails) ∙ is)

same_number : (a b : ℕ) → (a == b) ≡ true → a ≡ b
same_number a b is =
    elim (eqb_tells a b) [
      | inl same ↦ same.1
      | inr other ↦ absurd (false≢true (sym other.0 ∙ is))
    ]

-- the id of a stored transfer
id_fits : (past : List Event) (id : ℕ) → AllByRecursion EventFits past → is_stored past id ≡ true → id < 2 ^ 128
id_fits [] id fit is = absurd (false≢true is)
id_fits (e ∷ past) id fit is =
    by (stores e.kind && (e.transfer.id == id)) refl (λ there. id_fits past id fit.1 there)
  where
    by : (b : Bool) → (stores e.kind && (e.transfer.id == id)) ≡ b → (is_stored past id ≡ true → id < 2 ^ 128)
        → id < 2 ^ 128
    by true here later =
        let same = same_number e.transfer.id id (and_parts (stores e.kind) (e.transfer.id == id) here).1 in
        subst (λ (n : ℕ). n < 2 ^ 128) same fit.0.transfer.id
    by false there later = later (sym (ap (λ b. b || is_stored past id) there) ∙ is)

-- the event of a pending transfer
pending_found : (past : List Event) (id : ℕ) (e : Event) → AllByRecursion EventFits past
    → pending_event past id ≡ Some e → EventFits e × (id ≡ e.transfer.id)
pending_found past id e fit is =
    let it = found (λ x. holds x.kind && (x.transfer.id == id)) past e fit is in
    (it.0, sym (same_number e.transfer.id id (and_parts (holds e.kind) (e.transfer.id == id) it.1).1))

-- its amount
amount_fits : (past : List Event) (id amount : ℕ) → AllByRecursion EventFits past
    → pending_amount past id ≡ Some amount → amount < 2 ^ 128
amount_fits past id amount fit is = by (pending_event past id) refl
  where
    by : (it : Option Event) → pending_event past id ≡ it → amount < 2 ^ 128
    by None none =
        let never : None ≡ Some amount = sym (ap (option_map (λ (e : Event). e.transfer.amount)) none) ∙ is in cc
    by (Some e) some =
        let same : Some e.transfer.amount ≡ Some amount =
        sym (ap (option_map (λ (e : Event). e.transfer.amount)) some) ∙ is in
        let amounts : e.transfer.amount ≡ amount = cc in
        subst (λ (n : ℕ). n < 2 ^ 128) amounts (pending_found past id e fit some).0.transfer.amount

open_found : (past : List Event) (id : ℕ) (e : Event) → AllByRecursion EventFits past
    → open_event past id ≡ Some e → EventFits e × (id ≡ e.transfer.id)
open_found past id e fit is = by (is_settled past id) refl
  where
    by : (b : Bool) → is_settled past id ≡ b → EventFits e × (id ≡ e.transfer.id)
    by true settled =
        let never : None ≡ Some e = sym (ap (λ b. cond b None (pending_event past id)) settled) ∙ is in cc
    by false open_yet =
        pending_found past id e fit (sym (ap (λ b. cond b None (pending_event past id)) open_yet) ∙ is)

-- the fields of an account
account_fits : (ledger : ℕ) (a : EventAccount) → ledger < 2 ^ 32 → AccountFits a
    → (a.id < 2 ^ 128) × FieldsFit (fixed_fields ledger a)
account_fits ledger a small fits = (
  fits.id,
  record {
    user_data_128 = fits.user_data_128;
    user_data_64 = fits.user_data_64;
    user_data_32 = fits.user_data_32;
    ledger = small;
    code = fits.code;
    flags = fits.flags;
    timestamp = fits.timestamp;
  },
)

abbrev AccountIs : ℕ → FixedFields → Type 0
AccountIs id fields = (id < 2 ^ 128) × FieldsFit fields

-- the first of these entries under an id
first_under : (id shown : ℕ) (fields those : FixedFields) (rest : List (ℕ × FixedFields)) → AccountIs shown those
    → (lookup (nat_eq id) rest ≡ Some fields → AccountIs id fields)
    → lookup (nat_eq id) ((shown, those) ∷ rest) ≡ Some fields → AccountIs id fields
first_under id shown fields those rest fits later is =
    elim (eqb_tells id shown) [
      | inl same ↦
          let here : Some those ≡ Some fields =
          sym (ap (λ b. cond b (Some those) (lookup (nat_eq id) rest)) same.0) ∙ is in
          let it : those ≡ fields = cc in
          subst (AccountIs id) it (subst (λ n. AccountIs n those) (sym same.1) fits)
      | inr other ↦ later (sym (ap (λ b. cond b (Some those) (lookup (nat_eq id) rest)) other.0) ∙ is)
    ]

fields_found : (past : List Event) (id : ℕ) (fields : FixedFields) → AllByRecursion EventFits past
    → fields_before past id ≡ Some fields → AccountIs id fields
fields_found [] id fields fit is = absurd cc
fields_found (e ∷ past) id fields fit is =
    let others : List (ℕ × FixedFields) = flat_map accounts_of past in
    first_under id e.debit_account.id fields (fixed_fields e.ledger e.debit_account)
    ((e.credit_account.id, fixed_fields e.ledger e.credit_account) ∷ others)
    (account_fits e.ledger e.debit_account fit.0.ledger fit.0.debit_account)
    (λ later. first_under id e.credit_account.id fields (fixed_fields e.ledger e.credit_account) others
    (account_fits e.ledger e.credit_account fit.0.ledger fit.0.credit_account)
    (λ last. fields_found past id fields fit.1 last) later) is

-- ---- a map's entries, by its look-ups

differs : {V : Type 0} (id k : ℕ) (v : V) (es : List (ℕ × V))
    → AllByRecursion (λ key. nat_eq id key ≡ false) (keys_of es) → lookup (nat_eq k) es ≡ Some v
    → nat_eq k id ≡ false
differs id k v [] all is = absurd cc
differs id k v (x ∷ es) all is =
    elim (eqb_tells k x.0) [
      | inl same ↦ eqb_swap id k (subst (λ n. nat_eq id n ≡ false) (sym same.1) all.0)
      | inr other ↦ differs id k v es all.1
          (sym (ap (λ b. cond b (Some x.1) (lookup (nat_eq k) es)) other.0) ∙ is)
    ]

from_lookups : {V : Type 0} (P : ℕ → V → Type 0) (es : List (ℕ × V)) → AreDistinct es
    → ((k : ℕ) (v : V) → lookup (nat_eq k) es ≡ Some v → P k v) → AllByRecursion (λ (e : ℕ × V). P e.0 e.1) es
from_lookups P [] distinct holds = tt
from_lookups P (e ∷ es) distinct holds = (
  holds e.0 e.1 (ap (λ b. cond b (Some e.1) (lookup (nat_eq e.0) es)) (eqb_same e.0)),
  from_lookups P es (IsDistinct-tail nat_eq e.0 (keys_of es) distinct) (λ k v is.
      holds k v (ap (λ b. cond b (Some e.1) (lookup (nat_eq k) es))
      (differs e.0 k v es (IsDistinct-head nat_eq e.0 (keys_of es) distinct) is) ∙ is)),
)

transfer_fits : (transfers : List (ℕ × Stored)) (past : List Event) → AllByRecursion EventFits past
    → ((id : ℕ) → IsKnownOf (stored_under transfers id) past id) → (k : ℕ) (v : Stored)
    → lookup (nat_eq k) transfers ≡ Some v → RowFits (Transfer k v)
transfer_fits transfers past fit known k v is =
    let it : IsKnownOf (Some v) past k = subst (λ o. IsKnownOf o past k) is (known k) in
    (id_fits past k fit it.stored, by v it)
  where
    by : (v : Stored) → IsKnownOf (Some v) past k → StoredFits v
    by Plain it = tt
    by (Pending amount) it = amount_fits past k amount fit it.amount
    by (Settled amount) it = amount_fits past k amount fit it.amount

-- the timestamps of events
times_fit : (past : List Event) → AllByRecursion EventFits past → AllByRecursion (λ t. t < 2 ^ 64) (times_of past)
times_fit [] fit = tt
times_fit (e ∷ past) fit = (fit.0.timestamp, times_fit past fit.1)

-- ---- the lines

mapped : {V : Type 0} (row : V → Row) (es : List V) (more : List Row) → AllByRecursion (λ e. RowFits (row e)) es
    → AllByRecursion RowFits more → AllByRecursion RowFits (map row es ++ more)
mapped row [] more all others = others
mapped row (e ∷ es) more all others = (all.0, mapped row es more all.1 others)

mapped_last : {V : Type 0} (row : V → Row) (es : List V) → AllByRecursion (λ e. RowFits (row e)) es
    → AllByRecursion RowFits (map row es)
mapped_last row [] all = tt
mapped_last row (e ∷ es) all = (all.0, mapped_last row es all.1)

with_expiry : (expired : Option Event) (more : List Row) → MayFit expired → AllByRecursion RowFits more
    → AllByRecursion RowFits (expiry_rows expired ++ more)
with_expiry None more fits all = all
with_expiry (Some e) more fits all = (fits, all)

-- both of what holds of the open ones
firsts : (es : List (ℕ × Event)) → AllByRecursion (λ (o : ℕ × Event). EventFits o.1 × IsByItsId o) es
    → AllByRecursion (λ (o : ℕ × Event). RowFits (Open o.1)) es
firsts [] all = tt
firsts (o ∷ es) all = (all.0.0, firsts es all.1)

seconds : (es : List (ℕ × Event)) → AllByRecursion (λ (o : ℕ × Event). EventFits o.1 × IsByItsId o) es
    → AllByRecursion IsByItsId es
seconds [] all = tt
seconds (o ∷ es) all = (all.0.1, seconds es all.1)

pub can_be_saved : AuditsCanBeSaved
can_be_saved auditor state stands fit transfers open_ones fields =
    let past = state.past in
    let opened = from_lookups (λ (k : ℕ) (e : Event). EventFits e × (k ≡ e.transfer.id)) auditor.open_ones open_ones
    (λ k e is. open_found past k e fit (sym (stands.open_ones k) ∙ is)) in
    let stored = from_lookups (λ k v. RowFits (Transfer k v)) auditor.transfers transfers
    (transfer_fits auditor.transfers past fit stands.transfers) in
    let shown = from_lookups (λ k f. RowFits (Fields k f)) auditor.fields fields
    (λ k f is. fields_found past k f fit (sym (stands.fields k) ∙ is)) in
    let kept = sym stands.kept in
    record {
      open_yet = ap (λ (k : SubscriberState). k.closed) stands.kept;
      last = subst (λ (k : SubscriberState). k.last < 2 ^ 64) kept (timestamp_fits 0 past (omega arith) fit);
      applied = subst (λ (k : SubscriberState). k.applied < 2 ^ 64) kept (omega arith);
      chain =
          let late = chain_length-late past stands.rising in
          let last = timestamp_fits 0 past (omega arith) fit in
          let same = stands.chain in
          omega (arith, late, last, same);
      book = subst (λ (k : SubscriberState). AreBook k.book) kept (book_fits past fit);
      rows = with_expiry auditor.expired _ (subst MayFit (sym stands.expired) (expiry_fits None past tt fit))
          (mapped (λ (t : ℕ × Stored). Transfer t.0 t.1) auditor.transfers _ stored
          (mapped (λ (o : ℕ × Event). Open o.1) auditor.open_ones _ (firsts auditor.open_ones opened)
          (mapped (λ (f : ℕ × FixedFields). Fields f.0 f.1) auditor.fields _ shown
          (mapped_last Time auditor.times (subst (AllByRecursion (λ t. t < 2 ^ 64)) (sym stands.times)
          (times_fit past fit))))));
      transfers = transfers;
      open_ones = open_ones;
      by_ids = seconds auditor.open_ones opened;
      fields = fields;
    }
