-- The history that a ledger's tables represent, and the invariant of the tables between two calls (for private
-- contracts and the laws).
use Rattle.std.specs.Prelude.{ℕ, ◌-◌, ◌≡◌, min, map, vec_len, vec_capacity}
use Rattle.cdc_ledger.specs.declared.tables.Tables.TheInside.{Inside}
use Rattle.cdc_ledger.specs.Accounts.{opened_as}
use Rattle.cdc_ledger.specs.Contents.{Contents}
use Rattle.cdc_ledger.specs.Endings.{endings_of}
use Rattle.cdc_ledger.specs.Events.{accounts_now}
use Rattle.cdc_ledger.specs.History.{History}
use Rattle.cdc_ledger.specs.PlacesById.{account_place, place_of, stored_place}
use Rattle.cdc_ledger.specs.Sound.{IsSound}

-- the history that the tables hold
abbrev pub history_of : Inside → History
history_of t = record {
  accounts = map opened_as t.accounts.items;
  entries = t.entries.items;
  last = t.last;
  closed = t.closed;
}

-- that history, and for how many more accounts, entries and stored transfers there is room
abbrev pub contents_of : Inside → Contents
contents_of t = record {
  history = history_of t;
  account_room = min (vec_capacity t.accounts - vec_len t.accounts) t.account_places.room;
  entry_room = min (vec_capacity t.entries - vec_len t.entries) (vec_capacity t.endings - vec_len t.endings);
  place_room = t.transfer_places.room;
}

-- the running balances are the sums over the entries; it is kept how each transfer was settled; an id has the place in
-- a map that a search of the list would find
pub record IsKept (t : Inside) : Type 0 where
  pub balanced : t.accounts.items ≡ accounts_now (history_of t)
  pub accounts_placed : (id : ℕ) → place_of t.account_places id ≡ account_place t.accounts.items id
  pub ended : t.endings.items ≡ endings_of t.entries.items
  pub transfers_placed : (id : ℕ) → place_of t.transfer_places id ≡ stored_place t.entries.items id
  pub sound : IsSound (history_of t)
