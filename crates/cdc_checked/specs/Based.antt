-- Checked following by baseline: the first event of an account is taken as it is, so a stream may begin anywhere. A
-- pending transfer that no applied event stored is taken to hold what its settlement releases.
use Rattle.std.specs.Prelude.{ℕ, ◌-◌, Bool, true, false, ◌==◌, ◌&&◌, is_none, max, Option, Some, None, List, [], ◌∷◌, ◌++◌, fold, if◌then◌else◌}
use Rattle.cdc_types.specs.declared.accounts.Balances.{Balances}
use Rattle.cdc_types.specs.declared.events.Event.{Event}
use Rattle.cdc_types.specs.declared.events.EventAccount.{EventAccount}
use Rattle.cdc_types.specs.Lines.{first_line}
use Rattle.cdc_ledger.specs.Kinds.{moves, settles}
use Rattle.cdc_audit.specs.declared.checks.Amounts.{Amounts}
use Rattle.cdc_audit.specs.declared.refusals.Refusal.{Refusal}
use Rattle.cdc_audit.specs.Checks.{account_lines, nothing}
use Rattle.cdc_audit.specs.Known.{balances_after}
use Rattle.cdc_audit.specs.Rules.{held, posted}
use Rattle.cdc_audit.specs.Settling.{settling_lines}
use Rattle.cdc_checked.specs.Checked.{account_rules, is_new, last_of, next_checked, open_one}

-- the balances of an account whose last applied event has this timestamp; none before its first one, since the
-- timestamp of an applied event is above 0
abbrev pub seen : ℕ → Balances → Option Balances
seen t shown = if t == 0 then None else Some shown

-- what the applied events show last of an account, if one of them has it
abbrev pub seen_after : List Event → ℕ → Option Balances
seen_after applied id = seen (last_of applied id) (balances_after applied id)

-- how far a pending sum falls with an event: that of the debited account if it was seen, otherwise that of the credited
-- one; 0 if neither was
abbrev pub fall : Option Balances → Option Balances → Event → ℕ
fall (Some debited) credited e = debited.debits_pending - e.debit_account.debits_pending
fall None (Some credited) e = credited.credits_pending - e.credit_account.credits_pending
fall None None e = 0

-- what an event that settles a pending transfer releases, if no applied event stored that one: a void and an expiry
-- their own amount, a post what the pending sum falls by, but at least its own amount
abbrev pub inferred : Option Balances → Option Balances → Event → ℕ
inferred debited credited e =
    if settles e.kind then
    (if moves e.kind then max (fall debited credited e) e.transfer.amount else e.transfer.amount) else 0

-- what an event releases, by the event that stored the pending transfer that it settles
abbrev pub freed_by : Option Event → Option Balances → Option Balances → Event → ℕ
freed_by (Some pending) debited credited e = pending.transfer.amount
freed_by None debited credited e = inferred debited credited e

-- what an event moves, if it releases this
abbrev pub moved_by : ℕ → Event → Amounts
moved_by freed e = record { posted = posted e; held = held e; released = freed }

-- the lines on an account; there are none before its first event
abbrev pub seen_lines : EventAccount → Option Balances → Amounts → Amounts → List (Bool × Refusal)
seen_lines account None debits credits = []
seen_lines account (Some before) debits credits = account_lines account before debits credits

-- the lines on the balances of both accounts, if the event releases this
abbrev pub seen_sums : ℕ → Option Balances → Option Balances → Event → List (Bool × Refusal)
seen_sums freed debited credited e =
    seen_lines e.debit_account debited (moved_by freed e) nothing
    ++ seen_lines e.credit_account credited nothing (moved_by freed e)

-- all lines on an event, by the pending transfer that it settles and the balances of its accounts
abbrev pub seen_rules : Option Event → Option Balances → Option Balances → Event → List (Bool × Refusal)
seen_rules pending debited credited e =
    settling_lines pending e ++ seen_sums (freed_by pending debited credited e) debited credited e

-- all lines on an event, by the events that were applied
abbrev pub based_rules : List Event → Event → List (Bool × Refusal)
based_rules applied e =
    seen_rules (open_one applied e) (seen_after applied e.debit_account.id) (seen_after applied e.credit_account.id) e

-- by baseline, an event is applied if it is new and no line refuses it
unfoldable pub is_based : List Event → Event → Bool
is_based applied e = is_new applied e && is_none (first_line (based_rules applied e))

-- what was applied after one more event was received
abbrev pub next_based : List Event → Event → List Event
next_based applied e = if is_based applied e then applied ++ e ∷ [] else applied

-- what is applied of all that was received
abbrev pub based : List Event → List Event
based received = fold next_based [] received

-- ---- either rule: by baseline, or not

abbrev pub rules_by : Bool → List Event → Event → List (Bool × Refusal)
rules_by true applied e = based_rules applied e
rules_by false applied e = account_rules applied e

abbrev pub next_by : Bool → List Event → Event → List Event
next_by true applied e = next_based applied e
next_by false applied e = next_checked applied e
