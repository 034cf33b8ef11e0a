-- What an index has: a triple for each pending transfer with a timeout that nothing settled yet (for private contracts
-- and the laws).
use Rattle.std.specs.Prelude.{ℕ, ◌+◌, Bool, ◌==◌, ◌&&◌, not, Option, Some, None, List, [], ◌∷◌, if◌then◌else◌}
use Rattle.std.specs.FinSet.{from_list, insert}
use Rattle.cdc_types.specs.declared.events.Entry.{Entry}
use Rattle.cdc_types.specs.declared.transfers.Transfer.{Transfer}
use Rattle.cdc_expiry.specs.declared.triple.Triple.{Triple}
use Rattle.cdc_expiry.specs.Triples.{Triples, without}
use Rattle.cdc_ledger.specs.History.{History}
use Rattle.cdc_ledger.specs.Kinds.{holds}
use Rattle.cdc_ledger.specs.Balances.{resolved}
use Rattle.cdc_ledger.specs.Filling.{expires_at}

-- the entry's transfer is pending, has a timeout, and was neither posted, voided nor expired
abbrev pub is_open : History → Entry → Bool
is_open h e = holds e.kind && not (e.transfer.timeout == 0) && not (resolved h e.transfer h.last)

-- the expiry time of the entry's transfer, the timestamp of its creation, and the index of the entry
abbrev pub triple_at : ℕ → Entry → Triple
triple_at place e =
    record { expires_at = expires_at e.transfer; timestamp = e.transfer.timestamp; slot = place }

-- the triples of those of the entries that pass the test, of which the first has this place
abbrev pub triples_from : (Entry → Bool) → ℕ → List Entry → List Triple
triples_from test place [] = []
triples_from test place (e ∷ es) =
    if test e then triple_at place e ∷ triples_from test (place + 1) es else triples_from test (place + 1) es

-- the triples of a history, in the order of its entries
abbrev pub open_triples : History → List Triple
open_triples h = triples_from (is_open h) 0 h.entries

-- the set of these triples, without their order
abbrev pub index_of : History → Triples
index_of h = from_list (open_triples h)

-- the entry has a triple of its own until something settles its transfer
abbrev pub opens : Entry → Bool
opens e = holds e.kind && not (e.transfer.timeout == 0)

-- the set after an entry at this place: without the triple of the pending transfer that it settles, if any, or with its
-- own, if it has one
abbrev pub ends_after : Option Transfer → Entry → ℕ → Triples → Triples
ends_after (Some p) e place ends = without ends (expires_at p) p.timestamp
ends_after None e place ends = if opens e then insert ends (triple_at place e) else ends
