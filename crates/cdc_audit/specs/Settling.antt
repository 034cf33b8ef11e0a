-- What a post, a void and an expiry have of the pending transfer that they settle.
use Rattle.std.specs.Prelude.{ℕ, ◌+◌, ◌*◌, Bool, ◌==◌, ◌&&◌, ◌||◌, not, nat_le, nat_lt, List, [], ◌∷◌, Option, Some, None, if◌then◌else◌}
use Rattle.cdc_types.specs.declared.events.Event.{Event}
use Rattle.cdc_types.specs.declared.events.EventTransfer.{EventTransfer}
use Rattle.cdc_ledger.specs.Kinds.{moves, stores}
use Rattle.cdc_audit.specs.declared.refusals.Refusal.{Refusal}
use Rattle.cdc_audit.specs.declared.refusals.Refusal.TheVariants.{OtherFields, Amount, NoTimeout, TooSoon, TooLate}
use Rattle.cdc_audit.specs.Known.{settled_id}

-- every field of the two transfers is equal
abbrev pub is_same_transfer : EventTransfer → EventTransfer → Bool
is_same_transfer x y =
    (x.id == y.id) && (x.amount == y.amount) && (x.pending_id == y.pending_id) && (x.user_data_128 == y.user_data_128)
    && (x.user_data_64 == y.user_data_64) && (x.user_data_32 == y.user_data_32) && (x.timeout == y.timeout)
    && (x.code == y.code) && (x.flags == y.flags) && (x.timestamp == y.timestamp)

-- a field of a post or a void is 0 only if the pending transfer's own is
abbrev pub is_taken_over : ℕ → ℕ → Bool
is_taken_over shown own = not (shown == 0) || (own == 0)

-- so it is with the user data of this transfer, which posts or voids the pending one
abbrev pub has_data_of : EventTransfer → EventTransfer → Bool
has_data_of pending x =
    is_taken_over x.user_data_128 pending.user_data_128 && is_taken_over x.user_data_64 pending.user_data_64
    && is_taken_over x.user_data_32 pending.user_data_32

-- an event has the accounts, the ledger, the code and the user data of the pending transfer, which this one stored; an
-- expiry has the whole transfer
abbrev pub has_fields_of : Event → Event → Bool
has_fields_of pending e =
    (e.debit_account.id == pending.debit_account.id) && (e.credit_account.id == pending.credit_account.id)
    && (e.ledger == pending.ledger) && (e.transfer.code == pending.transfer.code)
    && (if stores e.kind then has_data_of pending.transfer e.transfer else is_same_transfer e.transfer pending.transfer)

-- a post has at most the amount that is held; a void and an expiry have just this amount
abbrev pub has_amount_of : ℕ → Event → Bool
has_amount_of held e = if moves e.kind then nat_le e.transfer.amount held else (e.transfer.amount == held)

-- when a pending transfer expires, in nanoseconds; its timeout is in seconds
abbrev pub expires_at : EventTransfer → ℕ
expires_at x = x.timestamp + x.timeout * 1000000000

-- a pending transfer with a timeout has expired by this time
abbrev pub has_expired : ℕ → EventTransfer → Bool
has_expired t x = not (x.timeout == 0) && nat_le (expires_at x) t

-- the lines on an event that settles a pending transfer, which this event stored
abbrev pub settling_lines : Option Event → Event → List (Bool × Refusal)
settling_lines None e = []
settling_lines (Some pending) e =
    (not (has_fields_of pending e), OtherFields (settled_id e)) ∷ (
      not (has_amount_of pending.transfer.amount e),
      Amount e.transfer.amount (settled_id e) pending.transfer.amount,
    ) ∷
    (not (stores e.kind) && (pending.transfer.timeout == 0), NoTimeout (settled_id e)) ∷ (
      not (stores e.kind) && nat_lt e.timestamp (expires_at pending.transfer),
      TooSoon (settled_id e) e.timestamp (expires_at pending.transfer),
    ) ∷ (
      stores e.kind && has_expired e.timestamp pending.transfer,
      TooLate (settled_id e) e.timestamp (expires_at pending.transfer),
    ) ∷
    []
