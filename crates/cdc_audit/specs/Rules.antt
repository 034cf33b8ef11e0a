-- The rules by which an event follows the events before it.
use Rattle.std.specs.Prelude.{ℕ, ◌+◌, Bool, false, ◌==◌, ◌&&◌, not, nat_lt, is_none, List, [], ◌∷◌, ◌++◌, Option, None, unwrap_or, if◌then◌else◌}
use Rattle.cdc_types.specs.declared.bounds.TheConstants.Limits.{TIMESTAMP}
use Rattle.cdc_types.specs.declared.events.Event.{Event}
use Rattle.cdc_types.specs.Lines.{first_line}
use Rattle.cdc_types.specs.Timestamps.{last_timestamp}
use Rattle.cdc_ledger.specs.Kinds.{holds, moves, settles, stores}
use Rattle.cdc_audit.specs.declared.refusals.BalanceField.{BalanceField}
use Rattle.cdc_audit.specs.declared.refusals.BalanceField.TheVariants.{DebitsPending, DebitsPosted, CreditsPending, CreditsPosted}
use Rattle.cdc_audit.specs.declared.refusals.Refusal.{Refusal}
use Rattle.cdc_audit.specs.declared.refusals.Refusal.TheVariants.{BrokenChain, NotLater, OneAccount, TooHigh, KnownId, NotPending, Settled, Balance}
use Rattle.cdc_audit.specs.Known.{balances_after, ends_in_chain, is_settled, is_stored, last_expiry, open_event, pending_amount, settled_id}
use Rattle.cdc_audit.specs.EventShapes.{shape_lines}
use Rattle.cdc_audit.specs.Apart.{apart_lines, times_before}
use Rattle.cdc_audit.specs.Expiries.{expiry_lines, first_due}
use Rattle.cdc_audit.specs.Fields.{created_lines, fields_before, fields_lines}
use Rattle.cdc_audit.specs.Limits.{limits_lines}
use Rattle.cdc_audit.specs.Rooms.{room_before, room_lines}
use Rattle.cdc_audit.specs.Settling.{settling_lines}

-- what an event adds to the posted sums, adds to the pending sums and releases of the pending sums
abbrev pub posted : Event → ℕ
posted e = if moves e.kind then e.transfer.amount else 0

abbrev pub held : Event → ℕ
held e = if holds e.kind then e.transfer.amount else 0

abbrev pub released : List Event → Event → ℕ
released past e = if settles e.kind then unwrap_or (pending_amount past (settled_id e)) 0 else 0

-- the line on one balance: what is shown isn't what was before, with what is added and less what is released
abbrev pub balance_line : ℕ → BalanceField → ℕ → ℕ → ℕ → ℕ → Bool × Refusal
balance_line account field shown before added less = (
  not (shown + less == before + added),
  Balance (record {
    account = account;
    field = field;
    shown = shown;
    before = before;
    added = added;
    released = less;
  }),
)

-- the lines on the account that is debited: its credits stay
abbrev pub debit_lines : List Event → Event → List (Bool × Refusal)
debit_lines past e =
    let account = e.debit_account in
    let before = balances_after past account.id in
    balance_line account.id DebitsPending account.debits_pending before.debits_pending (held e) (released past e) ∷
    balance_line account.id DebitsPosted account.debits_posted before.debits_posted (posted e) 0 ∷
    balance_line account.id CreditsPending account.credits_pending before.credits_pending 0 0 ∷
    balance_line account.id CreditsPosted account.credits_posted before.credits_posted 0 0 ∷
    []

-- the lines on the account that is credited: its debits stay
abbrev pub credit_lines : List Event → Event → List (Bool × Refusal)
credit_lines past e =
    let account = e.credit_account in
    let before = balances_after past account.id in
    balance_line account.id DebitsPending account.debits_pending before.debits_pending 0 0 ∷
    balance_line account.id DebitsPosted account.debits_posted before.debits_posted 0 0 ∷
    balance_line account.id CreditsPending account.credits_pending before.credits_pending (held e) (released past e) ∷
    balance_line account.id CreditsPosted account.credits_posted before.credits_posted (posted e) 0 ∷
    []

-- the lines on the transfer that an event stores, and on the pending one that it settles
abbrev pub transfer_lines : List Event → Event → List (Bool × Refusal)
transfer_lines past e =
    (stores e.kind && is_stored past e.transfer.id, KnownId e.transfer.id) ∷
    (settles e.kind && is_none (pending_amount past (settled_id e)), NotPending (settled_id e)) ∷
    (settles e.kind && is_settled past (settled_id e), Settled (settled_id e)) ∷
    []

-- the event that stored the pending transfer that an event settles, if that one is open
abbrev pub settled_event : List Event → Event → Option Event
settled_event past e = if settles e.kind then open_event past (settled_id e) else None

-- the lines on the fields of both accounts that never change, and on the timestamps at which they were created
abbrev pub fixed_lines : List Event → Event → List (Bool × Refusal)
fixed_lines past e =
    fields_lines (fields_before past e.debit_account.id) e.ledger e.debit_account
    ++ fields_lines (fields_before past e.credit_account.id) e.ledger e.credit_account
    ++ created_lines e
    ++ apart_lines (times_before past e.debit_account) (times_before past e.credit_account) e

-- the lines on all balances
abbrev pub balances_lines : List Event → Event → List (Bool × Refusal)
balances_lines past e = debit_lines past e ++ credit_lines past e

-- the lines on an event's timestamp, which follows this one and has a bound, and on its accounts being one
abbrev pub order_lines : ℕ → Event → List (Bool × Refusal)
order_lines last e =
    (not (nat_lt last e.timestamp), NotLater e.timestamp last) ∷
    (e.debit_account.id == e.credit_account.id, OneAccount e.debit_account.id) ∷
    (nat_lt TIMESTAMP e.timestamp, TooHigh e.timestamp) ∷
    []

-- the line on an event after one of a linked transfer: it stores a transfer, one nanosecond later
abbrev pub chain_lines : Bool → ℕ → Event → List (Bool × Refusal)
chain_lines linked last e =
    (linked && not (stores e.kind && (e.timestamp == last + 1)), BrokenChain e.timestamp last) ∷ []

-- all lines on an event, in order, of another ledger's stream or of ours
abbrev pub event_lines : Bool → List Event → Event → List (Bool × Refusal)
event_lines foreign past e =
    order_lines (last_timestamp past) e ++ shape_lines e ++ fixed_lines past e ++ transfer_lines past e
    ++ (settling_lines (settled_event past e) e ++ expiry_lines (first_due past) (last_expiry past) e)
    ++ (chain_lines (ends_in_chain past) (last_timestamp past) e ++ limits_lines e)
    ++ (balances_lines past e ++ room_lines (room_before foreign past e) e)

-- why an event can't follow those before it, if it can't
unfoldable pub refusal : List Event → Event → Option Refusal
refusal past e = first_line (event_lines false past e)

-- the same of another ledger's stream, or of ours
unfoldable pub refusal_of : Bool → List Event → Event → Option Refusal
refusal_of foreign past e = first_line (event_lines foreign past e)
