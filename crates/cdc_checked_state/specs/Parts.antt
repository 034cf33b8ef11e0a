-- What the lines of a state's text contain (private: for the code's own contracts).
use Rattle.std.specs.Prelude.{◌≡◌, ℕ, List, [], Option, IsSomeAnd, fold, nat_eq}
use Rattle.std.specs.List.{AllByRecursion}
use Rattle.indexmap.specs.IndexMap.{insert_entry}
use Rattle.cdc_types.specs.declared.accounts.Balances.{Balances}
use Rattle.cdc_types.specs.declared.events.Event.{Event}
use Rattle.cdc_checked.specs.declared.checker.KnownAccount.{KnownAccount}
use Rattle.cdc_checked_state.specs.declared.rows.Row.{Row}
use Rattle.cdc_checked_state.specs.declared.rows.Row.TheVariants.{Account, Known, Open}
use Rattle.cdc_checked_state.specs.Saveable.{RowFits}
use Rattle.cdc_checked_state.specs.States.{rows_text}

-- the book, what is known of accounts, and the events of the open pending transfers
pub record PartsState : Type 0 where
  pub book : List (ℕ × Balances)
  pub accounts : List (ℕ × KnownAccount)
  pub open_ones : List (ℕ × Event)

abbrev pub no_parts : PartsState
no_parts = record { book = []; accounts = []; open_ones = [] }

-- with what one more line contains
abbrev pub with_row : PartsState → Row → PartsState
with_row parts (Account entry) = record parts { book = insert_entry nat_eq parts.book entry.id entry.balances }
with_row parts (Known id known) = record parts { accounts = insert_entry nat_eq parts.accounts id known }
with_row parts (Open e) = record parts { open_ones = insert_entry nat_eq parts.open_ones e.transfer.id e }

-- what these lines contain
abbrev pub parts_of : List Row → PartsState
parts_of rows = fold with_row no_parts rows

-- if a text is that of lines, this is what they contain
abbrev pub GivesParts : List ℕ → Option PartsState → Type 0
GivesParts text read =
    (rows : List Row) → AllByRecursion RowFits rows → text ≡ rows_text rows
    → IsSomeAnd read (λ (it : PartsState). it ≡ parts_of rows)
