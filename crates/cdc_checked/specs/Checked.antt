-- Checked following: an event is applied only if the balances that it shows of its two accounts follow from the events
-- that were applied before.
use Rattle.std.specs.Prelude.{ℕ, Bool, ◌==◌, ◌&&◌, ◌||◌, nat_lt, is_none, Option, Some, None, List, [], ◌∷◌, ◌++◌, filter, fold, if◌then◌else◌}
use Rattle.cdc_types.specs.declared.accounts.Balances.{Balances}
use Rattle.cdc_types.specs.declared.events.Event.{Event}
use Rattle.cdc_types.specs.Lines.{first_line}
use Rattle.cdc_types.specs.Timestamps.{last_timestamp}
use Rattle.cdc_ledger.specs.Kinds.{holds, settles}
use Rattle.cdc_audit.specs.declared.checks.Amounts.{Amounts}
use Rattle.cdc_audit.specs.declared.refusals.Refusal.{Refusal}
use Rattle.cdc_audit.specs.declared.refusals.Refusal.TheVariants.{NotPending}
use Rattle.cdc_audit.specs.Checks.{account_lines, nothing}
use Rattle.cdc_audit.specs.Known.{balances_after, settled_id}
use Rattle.cdc_audit.specs.Rules.{held, posted}
use Rattle.cdc_audit.specs.Settling.{settling_lines}

-- the event has the account of this id
abbrev pub names : ℕ → Event → Bool
names id e = (e.debit_account.id == id) || (e.credit_account.id == id)

-- the timestamp of the last of these events that has the account, or 0
abbrev pub last_of : List Event → ℕ → ℕ
last_of applied id = last_timestamp (filter (names id) applied)

-- the event is later than each applied event of its two accounts
abbrev pub is_new : List Event → Event → Bool
is_new applied e =
    nat_lt (last_of applied e.debit_account.id) e.timestamp
    && nat_lt (last_of applied e.credit_account.id) e.timestamp

-- the event that stored the open pending transfer of this id, if there is one, after one more event
abbrev pub open_then : ℕ → Option Event → Event → Option Event
open_then id before e =
    if holds e.kind && (e.transfer.id == id) then Some e
    else (if settles e.kind && (settled_id e == id) then None else before)

-- the event that stored the open pending transfer of this id, if there is one, after these events
abbrev pub open_in : List Event → ℕ → Option Event
open_in applied id = fold (open_then id) None applied

-- the event that stored the pending transfer that an event settles, if that one is open
abbrev pub open_one : List Event → Event → Option Event
open_one applied e = if settles e.kind then open_in applied (settled_id e) else None

-- the amount that this event's pending transfer holds
abbrev pub amount_held : Option Event → ℕ
amount_held None = 0
amount_held (Some pending) = pending.transfer.amount

-- what an event moves
abbrev pub amounts_by : Option Event → Event → Amounts
amounts_by pending e = record { posted = posted e; held = held e; released = amount_held pending }

-- the lines on the pending transfer that an event settles: it is open, and has the event's fields
abbrev pub pending_lines : Option Event → Event → List (Bool × Refusal)
pending_lines pending e =
    (settles e.kind && is_none pending, NotPending (settled_id e)) ∷ settling_lines pending e

-- the lines on the balances of both accounts, by those before
abbrev pub sums_lines : Option Event → Balances → Balances → Event → List (Bool × Refusal)
sums_lines pending debited credited e =
    account_lines e.debit_account debited (amounts_by pending e) nothing
    ++ account_lines e.credit_account credited nothing (amounts_by pending e)

-- all lines on an event by the pending transfer that it settles and the balances of its accounts
abbrev pub lines_by : Option Event → Balances → Balances → Event → List (Bool × Refusal)
lines_by pending debited credited e = pending_lines pending e ++ sums_lines pending debited credited e

-- all lines on an event by the events that were applied
abbrev pub account_rules : List Event → Event → List (Bool × Refusal)
account_rules applied e =
    lines_by (open_one applied e) (balances_after applied e.debit_account.id)
    (balances_after applied e.credit_account.id) e

-- an event is applied if it is new and no line refuses it
unfoldable pub is_applicable : List Event → Event → Bool
is_applicable applied e = is_new applied e && is_none (first_line (account_rules applied e))

-- what was applied after one more event was received
abbrev pub next_checked : List Event → Event → List Event
next_checked applied e = if is_applicable applied e then applied ++ e ∷ [] else applied

-- what is applied of all that was received
abbrev pub checked : List Event → List Event
checked received = fold next_checked [] received
