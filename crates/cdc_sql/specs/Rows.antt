-- The rows of accounts, and what a follower has applied since a save.
use Rattle.std.specs.Prelude.{◌<◌, ◌≤◌, ℕ, nat_eq, fold, List, [], Option, Some, None, IfSome}
use Rattle.std.specs.Vec.{vec_capacity, vec_len}
use Rattle.std.specs.declared.alloc.Global.{Global}
use Rattle.std.specs.declared.vec.Vec.{Vec}
use Rattle.indexmap.specs.IndexMap.{insert_all, insert_entry, spare}
use Rattle.cdc_types.specs.declared.events.Event.{Event}
use Rattle.cdc_types.specs.declared.events.EventAccount.{EventAccount}
use Rattle.cdc_subscriber.specs.Book.{entry_of}
use Rattle.cdc_book_log.specs.Details.{details_of}
use Rattle.cdc_sql.specs.declared.rows.AccountRow.{AccountRow}
use Rattle.cdc_sql.specs.declared.rows.Recent.{Recent}

-- the row of an account that an event shows: its balances after the event, and the rest of what the event shows of it
abbrev pub row_of : Event → EventAccount → AccountRow
row_of e account = record { balances = (entry_of account).balances; details = details_of e account }

-- rows by the numbers of their accounts, after an event: that of the debited account, then that of the credited one. A
-- row takes the place of the one with its number, or comes last.
abbrev pub show_rows : Event → List (ℕ × AccountRow) → List (ℕ × AccountRow)
show_rows e rows =
    insert_entry nat_eq
    (insert_entry nat_eq rows e.debit_account.id (row_of e e.debit_account))
    e.credit_account.id (row_of e e.credit_account)

-- rows after events
abbrev pub rows_after : List (ℕ × AccountRow) → List Event → List (ℕ × AccountRow)
rows_after rows events = fold (λ shown e. show_rows e shown) rows events

-- the rows that events make of none: of each account that they show, what the last of them shows
abbrev pub rows_by : List Event → List (ℕ × AccountRow)
rows_by events = rows_after [] events

-- rows that are put into others, one after another
abbrev pub put_rows : List (ℕ × AccountRow) → List (ℕ × AccountRow) → List (ℕ × AccountRow)
put_rows changed rows = insert_all nat_eq rows changed

-- the events; none if they aren't kept
abbrev pub events_kept : Option (Vec Event Global) → List Event
events_kept None = []
events_kept (Some kept) = kept.items

-- there is room for one more event, if events are kept
abbrev pub HasEventRoom : Option (Vec Event Global) → Type 0
HasEventRoom events = IfSome events (λ kept. vec_len kept < vec_capacity kept)

-- there is room for what one more event shows
abbrev pub HasRoom : Recent → Type 0
HasRoom recent = (2 ≤ spare recent.rows) × HasEventRoom recent.events
