-- The rules again, by the few facts of the earlier events that they need (private: for the code's own contracts, except
-- what `IsKnownOf` cites).
use Rattle.std.specs.Prelude.{ℕ, Bool, true, false, ◌&&◌, is_none, is_some, List, [], ◌∷◌, ◌++◌, Option, Some, None, unwrap_or, if◌then◌else◌}
use Rattle.cdc_types.specs.declared.accounts.Balances.{Balances}
use Rattle.cdc_types.specs.declared.events.Event.{Event}
use Rattle.cdc_types.specs.declared.events.EventAccount.{EventAccount}
use Rattle.cdc_ledger.specs.Kinds.{holds, settles, stores}
use Rattle.cdc_audit.specs.declared.checks.Amounts.{Amounts}
use Rattle.cdc_audit.specs.declared.checks.Facts.{Facts}
use Rattle.cdc_audit.specs.declared.checks.Stored.{Stored}
use Rattle.cdc_audit.specs.declared.checks.Stored.TheVariants.{Plain, Pending}
use Rattle.cdc_audit.specs.declared.checks.Stored.TheVariants as stored
use Rattle.cdc_audit.specs.declared.refusals.BalanceField.TheVariants.{DebitsPending, DebitsPosted, CreditsPending, CreditsPosted}
use Rattle.cdc_audit.specs.declared.refusals.Mismatch.{Mismatch}
use Rattle.cdc_audit.specs.declared.refusals.Refusal.{Refusal}
use Rattle.cdc_audit.specs.declared.refusals.Refusal.TheVariants.{KnownId, NotPending, Settled}
use Rattle.cdc_audit.specs.Known.{settled_id}
use Rattle.cdc_audit.specs.EventShapes.{shape_lines}
use Rattle.cdc_audit.specs.Apart.{apart_lines}
use Rattle.cdc_audit.specs.Expiries.{expiry_lines}
use Rattle.cdc_audit.specs.Fields.{created_lines, fields_lines}
use Rattle.cdc_audit.specs.Limits.{limits_lines}
use Rattle.cdc_audit.specs.Rules.{balance_line, chain_lines, held, order_lines, posted}
use Rattle.cdc_audit.specs.Rooms.{room_lines}
use Rattle.cdc_audit.specs.Settling.{settling_lines}

-- the amount of a stored transfer that is or was pending
abbrev pub amount_of : Stored → Option ℕ
amount_of Plain = None
amount_of (Pending amount) = Some amount
amount_of (stored.Settled amount) = Some amount

abbrev pub amount_in : Option Stored → Option ℕ
amount_in None = None
amount_in (Some known) = amount_of known

-- a stored transfer was pending, and no longer is
abbrev pub no_longer : Stored → Bool
no_longer Plain = false
no_longer (Pending amount) = false
no_longer (stored.Settled amount) = true

abbrev pub was_settled : Option Stored → Bool
was_settled None = false
was_settled (Some known) = no_longer known

-- what an event stores of its transfer
abbrev pub stored_by : Event → Stored
stored_by e = if holds e.kind then Pending e.transfer.amount else Plain

-- the amount that an event releases
abbrev pub released : Facts → Event → ℕ
released facts e = if settles e.kind then unwrap_or (amount_in facts.settled) 0 else 0

-- what an event moves on one side of each account, and on the other one
abbrev pub amounts_of : Facts → Event → Amounts
amounts_of facts e = record { posted = posted e; held = held e; released = released facts e }

abbrev pub nothing : Amounts
nothing = record { posted = 0; held = 0; released = 0 }

-- the line on one balance
abbrev pub mismatch_line : Mismatch → Bool × Refusal
mismatch_line m = balance_line m.account m.field m.shown m.before m.added m.released

-- the lines on one account
abbrev pub account_lines : EventAccount → Balances → Amounts → Amounts → List (Bool × Refusal)
account_lines account before debits credits =
    balance_line account.id DebitsPending account.debits_pending before.debits_pending debits.held debits.released ∷
    balance_line account.id DebitsPosted account.debits_posted before.debits_posted debits.posted 0 ∷
    balance_line account.id CreditsPending account.credits_pending before.credits_pending credits.held
    credits.released ∷
    balance_line account.id CreditsPosted account.credits_posted before.credits_posted credits.posted 0 ∷
    []

-- the lines on both accounts
abbrev pub balances_lines : Facts → Event → List (Bool × Refusal)
balances_lines facts e =
    account_lines e.debit_account facts.debited (amounts_of facts e) nothing
    ++ account_lines e.credit_account facts.credited nothing (amounts_of facts e)

-- the lines on the fields of both accounts that never change, and on the timestamps at which they were created
abbrev pub fixed_lines : Facts → Event → List (Bool × Refusal)
fixed_lines facts e =
    fields_lines facts.debit_fields e.ledger e.debit_account
    ++ fields_lines facts.credit_fields e.ledger e.credit_account
    ++ created_lines e
    ++ apart_lines facts.debit_times facts.credit_times e

-- the lines on the transfers
abbrev pub transfer_lines : Facts → Event → List (Bool × Refusal)
transfer_lines facts e =
    (stores e.kind && is_some facts.own, KnownId e.transfer.id) ∷
    (settles e.kind && is_none (amount_in facts.settled), NotPending (settled_id e)) ∷
    (settles e.kind && was_settled facts.settled, Settled (settled_id e)) ∷
    []

-- all lines, in order
abbrev pub lines : Facts → Event → List (Bool × Refusal)
lines facts e =
    order_lines facts.last e ++ shape_lines e ++ fixed_lines facts e ++ transfer_lines facts e
    ++ (settling_lines facts.open_one e ++ expiry_lines facts.first facts.expired e)
    ++ (chain_lines facts.linked facts.last e ++ limits_lines e)
    ++ (balances_lines facts e ++ room_lines facts.room e)
