-- How a contract sees the ledger's tables (for private contracts and the laws).
use Rattle.std.specs.Prelude.{ℕ}
use Rattle.cdc_ledger.specs.History.{History}

-- the history that they hold, and for how many more accounts, entries and stored transfers there is room
pub record Contents : Type 0 where
  pub history : History
  pub account_room : ℕ
  pub entry_room : ℕ
  pub place_room : ℕ
