-- Laws of saves: what executing them leaves in the tables, whoever made them, and wherever their text is cut off.
use Rattle.std.specs.Prelude.{◌≡◌, ◌⊎◌, ◌<◌, ◌^◌, ℕ, nat_eq, ◌==◌, ◌&&◌, Bool, true, not, if◌then◌else◌, Option, Some}
use Rattle.std.specs.Prelude.{List, [], ◌∷◌, ◌++◌, codes, map, take}
use Rattle.std.specs.List.{AllByRecursion, flat_map, list_all}
use Rattle.std.specs.Map.{lookup}
use Rattle.cdc_types.specs.declared.events.Event.{Event}
use Rattle.cdc_types.specs.Timestamps.{RiseFrom}
use Rattle.cdc_match.specs.Arguments.{Arguments}
use Rattle.cdc_message.specs.declared.items.Item.{Item}
use Rattle.cdc_subscriber.specs.Book.{are_distinct, book_of, ids_of}
use Rattle.cdc_subscriber.specs.declared.book.BookEntry.{BookEntry}
use Rattle.cdc_follow.specs.declared.entries.Entry.{Entry}
use Rattle.cdc_follow.specs.Following.{FollowState, follow_all, next_follow, outcome_of}
use Rattle.cdc_follow.specs.Laws.{IsOfQueue, KeepsPrefix, taken_by}
use Rattle.cdc_follow.specs.Saved.{book_text}
use Rattle.cdc_book_log.specs.Details.{items_of}
use Rattle.cdc_book_log.specs.Replay.{emptied}
use Rattle.cdc_sql.specs.Names.{is_name}
use Rattle.cdc_sql.specs.Places.{PlaceFits, place_of}
use Rattle.cdc_sql.specs.Plain.{is_plain}
use Rattle.cdc_sql.specs.Rows.{row_of, rows_by}
use Rattle.cdc_sql.specs.Saves.{Save, Step, events_in, save_of, saves_from}
use Rattle.cdc_sql.specs.Statements.{account_numbers, row_numbers, transfer_numbers}
use Rattle.cdc_sql.specs.Tables.{Tables, execute_all, tables_by, times_of}
use Rattle.cdc_sql.specs.declared.places.Place.{Place}
use Rattle.cdc_sql.specs.declared.rows.AccountRow.{AccountRow}
use Rattle.cdc_sql.specs.Texts.{body_text, position_text, saves_text}

-- a position, and a line feed, is the text of a saved book without accounts
abbrev pub PositionsAreBooks : Type 0
PositionsAreBooks = (chained : Bool) (binding : List ℕ) (state : FollowState)
    → position_text chained binding (place_of state) ++ codes "\n" ≡ book_text chained binding (emptied state)

-- the place after steps, and the events that were given in them
abbrev pub place_after : Place → List Step → Place
place_after place [] = place
place_after place (step ∷ steps) = place_after step.after steps

abbrev pub events_of_steps : List Step → List Event
events_of_steps steps = flat_map (λ step. events_in step.items) steps

-- Executing the saves of a follower's steps makes of the tables of a place the tables of the place where it went, with
-- the events that were given meanwhile, if no two events have one timestamp.
abbrev pub SavesMakeTables : Type 0
SavesMakeTables = (keeps chained : Bool) (binding : List ℕ) (place : Place) (applied : List Event) (steps : List Step)
    → are_distinct (times_of (applied ++ events_of_steps steps)) ≡ true
    → execute_all chained binding (tables_by keeps chained binding place applied) (saves_from keeps place steps)
    ≡ tables_by keeps chained binding (place_after place steps) (applied ++ events_of_steps steps)

-- the balances of an account's row, by its number
abbrev pub entry_of_row : ℕ × AccountRow → BookEntry
entry_of_row account = record { id = account.0; balances = account.1.balances }

-- the rows of events have the accounts and the balances of the events' book
abbrev pub RowsAreBooks : Type 0
RowsAreBooks = (events : List Event) → map entry_of_row (rows_by events) ≡ book_of events

-- each account has one row
abbrev pub RowsAreDistinct : Type 0
RowsAreDistinct = (events : List Event) → are_distinct (ids_of (map entry_of_row (rows_by events))) ≡ true

-- the row of an account with this number, if it has one
abbrev pub row_in : List (ℕ × AccountRow) → ℕ → Option AccountRow
row_in rows id = lookup (nat_eq id) rows

-- an event's credited account gets the row that the event shows of it, and so does its debited account if that is
-- another one; the others keep theirs
abbrev pub RowsAreLast : Type 0
RowsAreLast = (events : List Event) (e : Event) (id : ℕ) → row_in (rows_by (events ++ e ∷ [])) id
    ≡ (if id == e.credit_account.id then Some (row_of e e.credit_account)
    else (if id == e.debit_account.id then Some (row_of e e.debit_account) else row_in (rows_by events) id))

-- the items that a follower's subscriber is given of entries
abbrev pub items_by : Arguments → FollowState → List Entry → List Item
items_by binding state [] = []
items_by binding state (entry ∷ entries) =
    items_of (outcome_of binding state entry) entry.content ++ items_by binding (next_follow binding state entry) entries

-- a follower's step by entries
abbrev pub step_by : Arguments → FollowState → List Entry → Step
step_by binding state entries =
    record { after = place_of (follow_all binding state entries); items = items_by binding state entries }

-- a save of a follower, which was at any place, and since then took entries of a chained queue, in whatever order,
-- number and choice
pub record IsSaveOf (keeps : Bool) (binding : Arguments) (queue : List Event) (save : Save) : Type 0 where
  pub state : FollowState
  pub entries : List Entry
  pub are_of_queue : AllByRecursion (IsOfQueue queue) entries
  pub is : save ≡ save_of keeps (place_of state) (step_by binding state entries)

-- The tables are those of a follower that keeps a prefix of the queue: of the events of the prefix that its binding
-- takes, the accounts have the rows that the last ones show, and the events are all of them, if they are kept.
pub record AreOfPrefix (keeps : Bool) (arguments : Arguments) (chained : Bool) (binding : List ℕ) (queue : List Event)
    (tables : Tables) : Type 0 where
  pub state : FollowState
  pub prefix : KeepsPrefix arguments queue state
  pub are : tables ≡ tables_by keeps chained binding (place_of state) (taken_by arguments prefix.before)

-- Whatever followers of one queue made these saves, and in whatever order they are executed, also after some that
-- failed: the tables stay those of a prefix of the queue.
abbrev pub WhateverSavesKeepAPrefix : Type 0
WhateverSavesKeepAPrefix = (keeps : Bool) (arguments : Arguments) (chained : Bool) (binding : List ℕ)
    (queue : List Event) (tables : Tables) (saves : List Save) → RiseFrom 0 queue
    → AreOfPrefix keeps arguments chained binding queue tables
    → AllByRecursion (IsSaveOf keeps arguments queue) saves
    → AreOfPrefix keeps arguments chained binding queue (execute_all chained binding tables saves)

-- the steps of a follower that saves after each of these lists of entries
abbrev pub steps_by : Arguments → FollowState → List (List Entry) → List Step
steps_by binding state [] = []
steps_by binding state (entries ∷ later) =
    step_by binding state entries ∷ steps_by binding (follow_all binding state entries) later

-- the tables are those of this follower, which keeps a prefix of the queue
abbrev pub AreOf : Bool → Arguments → Bool → List ℕ → List Event → FollowState → Tables → Type 0
AreOf keeps arguments chained binding queue state tables =
    (prefix : KeepsPrefix arguments queue state)
    × (tables ≡ tables_by keeps chained binding (place_of state) (taken_by arguments prefix.before))

-- A follower that keeps a prefix of the queue, and whose tables these are, takes entries of the queue and saves now and
-- then: after its saves the tables are its own.
abbrev pub SavesKeepAPrefix : Type 0
SavesKeepAPrefix = (keeps : Bool) (arguments : Arguments) (chained : Bool) (binding : List ℕ) (queue : List Event)
    (state : FollowState) (tables : Tables) (taken : List (List Entry)) → RiseFrom 0 queue
    → AreOf keeps arguments chained binding queue state tables
    → AllByRecursion (AllByRecursion (IsOfQueue queue)) taken
    → AreOf keeps arguments chained binding queue
    (follow_all arguments state (flat_map (λ entries. entries) taken))
    (execute_all chained binding tables (saves_from keeps (place_of state) (steps_by arguments state taken)))

-- what is left of a save's text that is cut off: a part that ends before the last letter of COMMIT; or all up to that
-- word, and a part of what follows it
abbrev pub IsPartOf : List ℕ → Bool → List ℕ → Save → List ℕ → Type 0
IsPartOf name chained binding save part =
    ((m : ℕ) × (part ≡ take m (body_text name chained binding save ++ codes "COMMI")))
    ⊎ ((rest : List ℕ) × (part ≡ body_text name chained binding save ++ (codes "COMMIT" ++ rest)))

-- a text of saves that is cut off after so many bytes: the whole text of the first saves, and a part of the next one's
pub record IsCut (name : List ℕ) (chained : Bool) (binding : List ℕ) (saves : List Save) (n : ℕ) : Type 0 where
  pub done : List Save
  pub lost : List Save
  pub part : List ℕ
  pub parted : saves ≡ done ++ lost
  pub text_is : take n (saves_text name chained binding saves) ≡ saves_text name chained binding done ++ part
  pub last : lost ≡ [] → part ≡ []
  pub next : (save : Save) (later : List Save) → lost ≡ save ∷ later → IsPartOf name chained binding save part

abbrev pub CutsLeaveWholeSaves : Type 0
CutsLeaveWholeSaves = (name : List ℕ) (chained : Bool) (binding : List ℕ) (saves : List Save) (n : ℕ)
    → IsCut name chained binding saves n

-- a byte isn't the letter M
abbrev pub is_no_m : ℕ → Bool
is_no_m byte = not (byte == 77)

-- each of these numbers has the width that a number may have
abbrev pub AreNumbers : List ℕ → Type 0
AreNumbers numbers = AllByRecursion (λ n. n < 2 ^ 128) numbers

-- an account's row, and an event, have such numbers alone
abbrev pub RowFits : ℕ × AccountRow → Type 0
RowFits account = AreNumbers (account.0 ∷ row_numbers account.1)

abbrev pub EventFits : Event → Type 0
EventFits e = AreNumbers (e.timestamp ∷ e.ledger ∷ []) × (AreNumbers (transfer_numbers e.transfer)
    × (AreNumbers (account_numbers e.debit_account) × AreNumbers (account_numbers e.credit_account)))

-- so does a save
pub record SaveFits (save : Save) : Type 0 where
  pub before : PlaceFits save.before
  pub after : PlaceFits save.after
  pub rows : AllByRecursion RowFits save.rows
  pub events : AllByRecursion EventFits save.events

-- before its commit, the text of a save has no letter M, so no word COMMIT
abbrev pub BodiesDoNotCommit : Type 0
BodiesDoNotCommit = (name : List ℕ) (chained : Bool) (binding : List ℕ) (save : Save) → is_name name ≡ true
    → is_plain binding ≡ true → SaveFits save → list_all is_no_m (body_text name chained binding save) ≡ true

-- a byte ends no quoted text and begins no escape
abbrev pub is_unquoted : ℕ → Bool
is_unquoted byte = not (byte == 39) && not (byte == 92)

-- a position stands between quotes: it has no quote and no backslash
abbrev pub PositionsAreQuoted : Type 0
PositionsAreQuoted = (chained : Bool) (binding : List ℕ) (place : Place) → is_plain binding ≡ true → PlaceFits place
    → list_all is_unquoted (position_text chained binding place) ≡ true
