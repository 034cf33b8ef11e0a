-- Places by ids: how a contract sees a map from ids to places, and which places those of a ledger are (for private
-- contracts and the laws).
use Rattle.std.specs.Prelude.{ℕ, ◌==◌, ◌&&◌, List, Option, nat_eq, position}
use Rattle.std.specs.Map.{lookup}
use Rattle.cdc_types.specs.declared.accounts.Account.{Account}
use Rattle.cdc_types.specs.declared.events.Entry.{Entry}
use Rattle.cdc_ledger.specs.Kinds.{stores}

-- the ids with their places, and for how many more there is room
pub record PlacesById : Type 0 where
  pub places : List (ℕ × ℕ)
  pub room : ℕ

-- the place of this id, if it has one
abbrev pub place_of : PlacesById → ℕ → Option ℕ
place_of ids id = lookup (nat_eq id) ids.places

-- the place of the account of this id
abbrev pub account_place : List Account → ℕ → Option ℕ
account_place accounts id = position (λ a. a.id == id) accounts

-- the place of the entry that stored the transfer of this id
abbrev pub stored_place : List Entry → ℕ → Option ℕ
stored_place entries id = position (λ e. stores e.kind && (e.transfer.id == id)) entries
