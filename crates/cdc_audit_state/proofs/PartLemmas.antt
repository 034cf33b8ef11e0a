-- What the lines of a state that can be saved contain.
use Rattle.cdc_audit_state.proofs.Words.{Account, AllByRecursion, AreDistinct, AuditorState, BookEntry, Bool, CanBeSaved, Event, FixedFields, IsByItsId, IsDistinct-head, IsDistinct-tail, List, None, Option, PartsState, Row, Some, Stored, [], account_line, and_parts, ap, append-nil, append_assoc, are_distinct, cond, eqb_swap, expiry_rows, false, fields_rows, flat_map, fold, ids_of, is_among, is_some, keys_of, known_rows, lookup, map, nat_eq, neither, no_parts, not, open_rows, open_under, parts_of, refl, rows_text, subst, sym, time_rows, transfer_rows, true, with_account, with_open, with_row, ℕ, ◌++◌, ◌==◌, ◌∙◌, ◌∷◌, ◌≡◌}
use Rattle.cdc_audit_state.specs.States.{row_line}
use Rattle.indexmap.specs.IndexMap.{insert_entry}

-- the lines of accounts
abbrev pub account_rows : List BookEntry → List Row
account_rows entries = map Account entries

pub accounts_text : (entries : List BookEntry) → rows_text (account_rows entries) ≡ flat_map account_line entries
unfolding row_line
accounts_text [] = refl
accounts_text (entry ∷ rest) = ap (λ text. account_line entry ++ text) (accounts_text rest)

-- ---- keys that come last

-- a key isn't among those before it
key_apart : {V : Type 0} (k : ℕ) (v : V) (e : ℕ × V) (done left : List (ℕ × V))
    → AreDistinct ((e ∷ done) ++ (k, v) ∷ left) → (k == e.0) ≡ false
key_apart k v e done left distinct =
    eqb_swap e.0 k (apart done (IsDistinct-head nat_eq e.0 (keys_of (done ++ (k, v) ∷ left)) distinct))
  where
    apart : (es : List _) → AllByRecursion (λ key. nat_eq e.0 key ≡ false) (keys_of (es ++ (k, v) ∷ left))
        → nat_eq e.0 k ≡ false
    apart [] all = all.0
    apart (x ∷ es) all = apart es all.1

-- so it isn't found among them
not_there : {V : Type 0} (k : ℕ) (v : V) (done left : List (ℕ × V)) → AreDistinct (done ++ (k, v) ∷ left)
    → lookup (nat_eq k) done ≡ None
not_there k v [] left distinct = refl
not_there k v (e ∷ done) left distinct =
    ap (λ b. cond b (Some e.1) (lookup (nat_eq k) done)) (key_apart k v e done left distinct)
    ∙ not_there k v done left (IsDistinct-tail nat_eq e.0 (keys_of (done ++ (k, v) ∷ left)) distinct)

-- a key that differs from those before it is inserted last
pub inserted_last : {V : Type 0} (k : ℕ) (v : V) (done left : List (ℕ × V)) → AreDistinct (done ++ (k, v) ∷ left)
    → insert_entry nat_eq done k v ≡ done ++ (k, v) ∷ []
inserted_last k v [] left distinct = refl
inserted_last k v (e ∷ done) left distinct =
    ap (λ b. cond b ((e.0, v) ∷ done) (e ∷ insert_entry nat_eq done k v)) (key_apart k v e done left distinct)
    ∙ ap (λ es. e ∷ es)
    (inserted_last k v done left (IsDistinct-tail nat_eq e.0 (keys_of (done ++ (k, v) ∷ left)) distinct))

-- the same of an account
not_true : (b : Bool) → not b ≡ true → b ≡ false
not_true true is = sym is
not_true false is = refl

apart : (id : ℕ) (book left : List BookEntry) (entry : BookEntry)
    → is_among id (ids_of (book ++ entry ∷ left)) ≡ false → (entry.id == id) ≡ false
apart id [] left entry absent = (neither (entry.id == id) (is_among id (ids_of left)) absent).0
apart id (b ∷ book) left entry absent =
    apart id book left entry (neither (b.id == id) (is_among id (ids_of (book ++ entry ∷ left))) absent).1

not_yet : (book left : List BookEntry) (entry : BookEntry) → are_distinct (ids_of (book ++ entry ∷ left)) ≡ true
    → is_among entry.id (ids_of book) ≡ false
not_yet [] left entry distinct = refl
not_yet (b ∷ book) left entry distinct =
    let ids = ids_of (book ++ entry ∷ left) in
    let parts = and_parts (not (is_among b.id ids)) (are_distinct ids) distinct in
    let other : (b.id == entry.id) ≡ false =
    eqb_swap entry.id b.id (apart b.id book left entry (not_true (is_among b.id ids) parts.0)) in
    rw (other, not_yet book left entry parts.1) refl

-- ---- lines of one kind, one after another

-- what further lines contain
abbrev pub on : PartsState → List Row → PartsState
on parts rows = fold with_row parts rows

accounts_on : (left : List BookEntry) (parts : PartsState) (more : List Row)
    → are_distinct (ids_of (parts.accounts ++ left)) ≡ true
    → on parts (account_rows left ++ more) ≡ on (record parts { accounts = parts.accounts ++ left }) more
accounts_on [] parts more distinct =
    ap (λ es. on (record parts { accounts = es }) more) (sym (append-nil parts.accounts))
accounts_on (entry ∷ left) parts more distinct =
    let grown : with_account parts.accounts entry ≡ parts.accounts ++ entry ∷ [] =
    ap (λ b. cond b parts.accounts (parts.accounts ++ entry ∷ [])) (not_yet parts.accounts left entry distinct) in
    let whole : (parts.accounts ++ entry ∷ []) ++ left ≡ parts.accounts ++ entry ∷ left =
    append_assoc parts.accounts (entry ∷ []) left in
    ap (λ es. on (record parts { accounts = es }) (account_rows left ++ more)) grown
    ∙ accounts_on left (record parts { accounts = parts.accounts ++ entry ∷ [] }) more
    (ap (λ es. are_distinct (ids_of es)) whole ∙ distinct)
    ∙ ap (λ es. on (record parts { accounts = es }) more) whole

transfers_on : (left : List (ℕ × Stored)) (parts : PartsState) (more : List Row)
    → AreDistinct (parts.transfers ++ left)
    → on parts (transfer_rows left ++ more) ≡ on (record parts { transfers = parts.transfers ++ left }) more
transfers_on [] parts more distinct =
    ap (λ es. on (record parts { transfers = es }) more) (sym (append-nil parts.transfers))
transfers_on (e ∷ left) parts more distinct =
    let whole : (parts.transfers ++ e ∷ []) ++ left ≡ parts.transfers ++ e ∷ left =
    append_assoc parts.transfers (e ∷ []) left in
    ap (λ es. on (record parts { transfers = es }) (transfer_rows left ++ more))
    (inserted_last e.0 e.1 parts.transfers left distinct)
    ∙ transfers_on left (record parts { transfers = parts.transfers ++ e ∷ [] }) more
    (subst AreDistinct (sym whole) distinct)
    ∙ ap (λ es. on (record parts { transfers = es }) more) whole

open_on : (left : List (ℕ × Event)) (parts : PartsState) (more : List Row)
    → AreDistinct (parts.open_ones ++ left) → AllByRecursion IsByItsId left
    → on parts (open_rows left ++ more) ≡ on (record parts { open_ones = parts.open_ones ++ left }) more
open_on [] parts more distinct all =
    ap (λ es. on (record parts { open_ones = es }) more) (sym (append-nil parts.open_ones))
open_on (e ∷ left) parts more distinct all =
    let whole : (parts.open_ones ++ e ∷ []) ++ left ≡ parts.open_ones ++ e ∷ left =
    append_assoc parts.open_ones (e ∷ []) left in
    let grown : with_open parts.open_ones e.1 ≡ parts.open_ones ++ e ∷ [] =
    ap (λ id. cond (is_some (open_under parts.open_ones id)) parts.open_ones (parts.open_ones ++ (id, e.1) ∷ []))
    (sym all.0)
    ∙ ap (λ o. cond (is_some o) parts.open_ones (parts.open_ones ++ e ∷ []))
    (not_there e.0 e.1 parts.open_ones left distinct) in
    ap (λ es. on (record parts { open_ones = es }) (open_rows left ++ more)) grown
    ∙ open_on left (record parts { open_ones = parts.open_ones ++ e ∷ [] }) more
    (subst AreDistinct (sym whole) distinct) all.1
    ∙ ap (λ es. on (record parts { open_ones = es }) more) whole

fields_on : (left : List (ℕ × FixedFields)) (parts : PartsState) (more : List Row)
    → AreDistinct (parts.fixed ++ left)
    → on parts (fields_rows left ++ more) ≡ on (record parts { fixed = parts.fixed ++ left }) more
fields_on [] parts more distinct = ap (λ es. on (record parts { fixed = es }) more) (sym (append-nil parts.fixed))
fields_on (e ∷ left) parts more distinct =
    let whole : (parts.fixed ++ e ∷ []) ++ left ≡ parts.fixed ++ e ∷ left = append_assoc parts.fixed (e ∷ []) left in
    ap (λ es. on (record parts { fixed = es }) (fields_rows left ++ more))
    (inserted_last e.0 e.1 parts.fixed left distinct)
    ∙ fields_on left (record parts { fixed = parts.fixed ++ e ∷ [] }) more (subst AreDistinct (sym whole) distinct)
    ∙ ap (λ es. on (record parts { fixed = es }) more) whole

times_on : (left : List ℕ) (parts : PartsState)
    → on parts (time_rows left) ≡ record parts { times = parts.times ++ left }
times_on [] parts = ap (λ ts. record parts { times = ts }) (sym (append-nil parts.times))
times_on (t ∷ left) parts =
    times_on left (record parts { times = parts.times ++ t ∷ [] })
    ∙ ap (λ ts. record parts { times = ts }) (append_assoc parts.times (t ∷ []) left)

expiry_on : (expired : Option Event) (parts : PartsState) (more : List Row) → parts.expired ≡ None
    → on parts (expiry_rows expired ++ more) ≡ on (record parts { expired = expired }) more
expiry_on None parts more none = ap (λ expired. on (record parts { expired = expired }) more) none
expiry_on (Some e) parts more none = refl

-- all lines of a state
pub contained : (auditor : AuditorState) → CanBeSaved auditor
    → parts_of (account_rows auditor.kept.book ++ known_rows auditor) ≡ record {
      accounts = auditor.kept.book;
      expired = auditor.expired;
      transfers = auditor.transfers;
      open_ones = auditor.open_ones;
      fixed = auditor.fields;
      times = auditor.times;
    }
contained auditor can =
    let a1 : PartsState = record no_parts { accounts = auditor.kept.book } in
    let a2 : PartsState = record a1 { expired = auditor.expired } in
    let a3 : PartsState = record a2 { transfers = auditor.transfers } in
    let a4 : PartsState = record a3 { open_ones = auditor.open_ones } in
    let a5 : PartsState = record a4 { fixed = auditor.fields } in
    accounts_on auditor.kept.book no_parts (known_rows auditor) can.book.distinct
    ∙ expiry_on auditor.expired a1 _ refl
    ∙ transfers_on auditor.transfers a2 _ can.transfers
    ∙ open_on auditor.open_ones a3 _ can.open_ones can.by_ids
    ∙ fields_on auditor.fields a4 _ can.fields
    ∙ times_on auditor.times a5
