-- The tables of a database, and what executing saves does to them.
use Rattle.std.specs.Prelude.{ℕ, ◌==◌, ◌&&◌, ◌++◌, Bool, bytes_eq, fold, if◌then◌else◌, List, map}
use Rattle.cdc_types.specs.declared.events.Event.{Event}
use Rattle.cdc_subscriber.specs.Book.{are_distinct}
use Rattle.cdc_sql.specs.Rows.{put_rows, rows_by}
use Rattle.cdc_sql.specs.Saves.{Save, kept_if}
use Rattle.cdc_sql.specs.Texts.{position_text}
use Rattle.cdc_sql.specs.declared.places.Place.{Place}
use Rattle.cdc_sql.specs.declared.rows.AccountRow.{AccountRow}

-- the one row of the table `book`
pub record BookRow : Type 0 where
  pub position : List ℕ
  pub seen : ℕ
  pub last : ℕ
  pub applied : ℕ

-- that row, the rows of the table `accounts`, by their numbers, and those of the table `events`; the order of rows has
-- no meaning
pub record Tables : Type 0 where
  pub book : BookRow
  pub accounts : List (ℕ × AccountRow)
  pub events : List Event

-- the book's row at a place
abbrev pub row_at : Bool → List ℕ → Place → BookRow
row_at chained binding place = record {
  position = position_text chained binding place;
  seen = place.seen;
  last = place.last;
  applied = place.applied;
}

-- the tables of a follower at this place that has applied these events, which may be kept: the row of each account is
-- what the last of them shows of it
abbrev pub tables_by : Bool → Bool → List ℕ → Place → List Event → Tables
tables_by keeps chained binding place applied = record {
  book = row_at chained binding place;
  accounts = rows_by applied;
  events = kept_if keeps applied;
}

-- two rows are the same in every column
abbrev pub same_row : BookRow → BookRow → Bool
same_row one other = bytes_eq one.position other.position
    && (one.seen == other.seen && (one.last == other.last && one.applied == other.applied))

-- the timestamps of events, which are the keys of their table
abbrev pub times_of : List Event → List ℕ
times_of events = map (λ e. e.timestamp) events

-- the row is where the save begins, and the keys of the events that the save adds are new
abbrev pub takes : Bool → List ℕ → Tables → Save → Bool
takes chained binding tables save =
    same_row tables.book (row_at chained binding save.before)
    && are_distinct (times_of (tables.events ++ save.events))

-- What executing a save does: if the row is where the save begins, and no event's key is there, the row is moved, the
-- row of each account that changed takes the place of the one with its number, or is added, and the events are added.
-- Else the transaction fails, and nothing changes.
abbrev pub execute : Bool → List ℕ → Tables → Save → Tables
execute chained binding tables save =
    if takes chained binding tables save
    then (record {
      book = row_at chained binding save.after;
      accounts = put_rows save.rows tables.accounts;
      events = tables.events ++ save.events;
    })
    else tables

-- saves are executed one after another, also after one that failed
abbrev pub execute_all : Bool → List ℕ → Tables → List Save → Tables
execute_all chained binding tables saves = fold (execute chained binding) tables saves
