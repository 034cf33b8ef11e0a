-- The items that a broker has accepted, and how many of the first ones it has let go. Cited by private contracts alone.
use Rattle.std.specs.Prelude.{◌==◌, ◌-◌, ℕ, Bool, List, length, nat_le}
use Rattle.cdc_message.specs.declared.items.Item.{Item}

-- all items, with those that were let go; how many those are; and for how many more memory is reserved
pub record BacklogState : Type 0 where
  pub items : List Item
  pub gone : ℕ
  pub room : ℕ

-- no memory is reserved for one more item
abbrev pub is_full : BacklogState → Bool
is_full backlog = backlog.room == 0

-- at least half of the items that are left are before this place
abbrev pub has_half_before : BacklogState → ℕ → Bool
has_half_before backlog place = nat_le (length backlog.items - place) (place - backlog.gone)
