-- The pending transfers whose time is up (TigerBeetle, Two-Phase Transfers, `timeout`).
use Rattle.std.specs.Prelude.{ℕ, Bool, ◌==◌, ◌&&◌, ◌||◌, not, nat_lt, nat_le, List, [], ◌∷◌, map, filter, if◌then◌else◌}
use Rattle.cdc_types.specs.declared.events.Entry.{Entry}
use Rattle.cdc_types.specs.declared.transfers.Transfer.{Transfer}
use Rattle.cdc_ledger.specs.History.{History}
use Rattle.cdc_ledger.specs.Kinds.{holds}
use Rattle.cdc_ledger.specs.Balances.{resolved}
use Rattle.cdc_ledger.specs.Filling.{expires_at}

-- the entry's transfer is pending, has a timeout that is up at the timestamp now, and was neither posted, voided nor
-- expired
abbrev pub is_due : History → ℕ → Entry → Bool
is_due h now e =
    holds e.kind && not (e.transfer.timeout == 0) && nat_le (expires_at e.transfer) now
    && not (resolved h e.transfer h.last)

-- p expires before q, or, if both expire at the same time, has the earlier timestamp
abbrev pub is_sooner : Transfer → Transfer → Bool
is_sooner p q =
    nat_lt (expires_at p) (expires_at q) || ((expires_at p == expires_at q) && nat_lt p.timestamp q.timestamp)

-- p in its place among transfers in order
abbrev pub insert_by_end : Transfer → List Transfer → List Transfer
insert_by_end p [] = p ∷ []
insert_by_end p (q ∷ qs) = if is_sooner q p then q ∷ insert_by_end p qs else p ∷ q ∷ qs

-- the transfers in the order of their expiry times
abbrev pub in_order_of_end : List Transfer → List Transfer
in_order_of_end [] = []
in_order_of_end (p ∷ ps) = insert_by_end p (in_order_of_end ps)

-- the pending transfers that are due at the timestamp now, in the order of their expiry times
abbrev pub due : History → ℕ → List Transfer
due h now = in_order_of_end (map (λ e. e.transfer) (filter (is_due h now) h.entries))
