-- What the lines of a state's text contain (private: for the code's own contracts).
use Rattle.std.specs.Prelude.{◌≡◌, ℕ, List, [], ◌∷◌, ◌++◌, Option, Some, None, IsSomeAnd, fold, nat_eq, if◌then◌else◌}
use Rattle.std.specs.List.{AllByRecursion}
use Rattle.indexmap.specs.IndexMap.{insert_entry}
use Rattle.cdc_types.specs.declared.events.Event.{Event}
use Rattle.cdc_subscriber.specs.declared.book.BookEntry.{BookEntry}
use Rattle.cdc_subscriber.specs.Book.{ids_of, is_among}
use Rattle.cdc_audit.specs.declared.checks.Stored.{Stored}
use Rattle.cdc_audit.specs.declared.fields.FixedFields.{FixedFields}
use Rattle.cdc_audit.specs.Standing.{with_open}
use Rattle.cdc_audit_state.specs.declared.rows.Row.{Row}
use Rattle.cdc_audit_state.specs.declared.rows.Row.TheVariants.{Account, Expired, Transfer, Open, Fields, Time}
use Rattle.cdc_audit_state.specs.Saveable.{RowFits}
use Rattle.cdc_audit_state.specs.States.{rows_text}

-- the accounts, the last expiry, the stored transfers, the open ones, the fixed fields and the timestamps
pub record PartsState : Type 0 where
  pub accounts : List BookEntry
  pub expired : Option Event
  pub transfers : List (ℕ × Stored)
  pub open_ones : List (ℕ × Event)
  pub fixed : List (ℕ × FixedFields)
  pub times : List ℕ

abbrev pub no_parts : PartsState
no_parts = record { accounts = []; expired = None; transfers = []; open_ones = []; fixed = []; times = [] }

-- an account after the others, unless its id is there
abbrev pub with_account : List BookEntry → BookEntry → List BookEntry
with_account entries entry =
    if is_among entry.id (ids_of entries) then entries else (entries ++ entry ∷ [])

-- with what one more line contains
abbrev pub with_row : PartsState → Row → PartsState
with_row parts (Account entry) = record parts { accounts = with_account parts.accounts entry }
with_row parts (Expired e) = record parts { expired = Some e }
with_row parts (Transfer id stored) = record parts { transfers = insert_entry nat_eq parts.transfers id stored }
with_row parts (Open e) = record parts { open_ones = with_open parts.open_ones e }
with_row parts (Fields id fields) = record parts { fixed = insert_entry nat_eq parts.fixed id fields }
with_row parts (Time timestamp) = record parts { times = parts.times ++ timestamp ∷ [] }

-- what these lines contain
abbrev pub parts_of : List Row → PartsState
parts_of rows = fold with_row no_parts rows

-- if a text is that of lines, this is what they contain
abbrev pub GivesParts : List ℕ → Option PartsState → Type 0
GivesParts text read =
    (rows : List Row) → AllByRecursion RowFits rows → text ≡ rows_text rows
    → IsSomeAnd read (λ (it : PartsState). it ≡ parts_of rows)
