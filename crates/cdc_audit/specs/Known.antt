-- What the events before an event show: the balances of each account, and which transfers were stored and settled.
use Rattle.std.specs.Prelude.{ℕ, ◌+◌, Bool, false, ◌==◌, ◌&&◌, List, [], ◌∷◌, find, Option, Some, None, option_map, unwrap_or, if◌then◌else◌}
use Rattle.std.specs.List.{list_any}
use Rattle.cdc_types.specs.declared.accounts.Balances.{Balances}
use Rattle.cdc_types.specs.declared.events.Event.{Event}
use Rattle.cdc_types.specs.declared.events.EventKind.{EventKind}
use Rattle.cdc_types.specs.declared.events.EventKind.TheVariants.{SinglePhase, TwoPhasePending, TwoPhasePosted, TwoPhaseVoided, TwoPhaseExpired}
use Rattle.cdc_types.specs.declared.events.EventTransfer.{EventTransfer}
use Rattle.cdc_types.specs.declared.transfers.TheConstants.TransferFlags.{LINKED}
use Rattle.cdc_types.specs.Flags.{has_flag}
use Rattle.cdc_ledger.specs.Accounts.{no_balances}
use Rattle.cdc_ledger.specs.Kinds.{holds, settles, stores}
use Rattle.cdc_subscriber.specs.Book.{balances_shown}

-- an event stored a transfer that is linked to the next one
abbrev pub is_linked : Event → Bool
is_linked e = stores e.kind && has_flag e.transfer.flags LINKED

-- the last event stored a linked transfer; this value if there is none
abbrev pub linked_from : Bool → List Event → Bool
linked_from linked [] = linked
linked_from linked (e ∷ es) = linked_from (is_linked e) es

-- these events end within a chain: the last one stored a linked transfer
abbrev pub ends_in_chain : List Event → Bool
ends_in_chain past = linked_from false past

-- how many linked transfers these events end with, after so many before them
abbrev pub chain_length_from : ℕ → List Event → ℕ
chain_length_from n [] = n
chain_length_from n (e ∷ es) = chain_length_from (if is_linked e then n + 1 else 0) es

abbrev pub chain_length : List Event → ℕ
chain_length past = chain_length_from 0 past

-- the event if it is an expiry; otherwise this value
abbrev pub expiry_or : Option Event → Event → Option Event
expiry_or last e = if stores e.kind then last else Some e

-- the last expiry of these events; this value if there is none
abbrev pub last_expiry_from : Option Event → List Event → Option Event
last_expiry_from last [] = last
last_expiry_from last (e ∷ es) = last_expiry_from (expiry_or last e) es

-- the last expiry of these events, if there is one
abbrev pub last_expiry : List Event → Option Event
last_expiry past = last_expiry_from None past

-- the balances of an account after these events: those that its last event shows; four zeros before its first one
abbrev pub balances_after : List Event → ℕ → Balances
balances_after past id = unwrap_or (balances_shown past id) no_balances

-- an event stored a transfer of this id
abbrev pub is_stored : List Event → ℕ → Bool
is_stored past id = list_any (λ e. stores e.kind && (e.transfer.id == id)) past

-- the event that stored the pending transfer of this id, if one did
abbrev pub pending_event : List Event → ℕ → Option Event
pending_event past id = find (λ e. holds e.kind && (e.transfer.id == id)) past

-- the amount of the pending transfer of this id, if an event stored one
abbrev pub pending_amount : List Event → ℕ → Option ℕ
pending_amount past id = option_map (λ (e : Event). e.transfer.amount) (pending_event past id)

-- the id of the pending transfer that an event of this kind with this transfer posts, voids or lets expire
abbrev pub settled_id_by : EventKind → EventTransfer → ℕ
settled_id_by SinglePhase x = 0
settled_id_by TwoPhasePending x = 0
settled_id_by TwoPhasePosted x = x.pending_id
settled_id_by TwoPhaseVoided x = x.pending_id
settled_id_by TwoPhaseExpired x = x.id

abbrev pub settled_id : Event → ℕ
settled_id e = settled_id_by e.kind e.transfer

-- an event posted, voided or let expire the pending transfer of this id
abbrev pub is_settled : List Event → ℕ → Bool
is_settled past id = list_any (λ e. settles e.kind && (settled_id e == id)) past

-- the event that stored the pending transfer of this id, if one did and none settled it
abbrev pub open_event : List Event → ℕ → Option Event
open_event past id = if is_settled past id then None else pending_event past id
