-- The timestamps at which accounts were created: each belongs to one account, and to no event.
use Rattle.std.specs.Prelude.{ℕ, Bool, false, ◌==◌, is_some, List, [], ◌∷◌, ◌++◌, map, find, fold, Option, None, option_map, unwrap_or, nat_eq, if◌then◌else◌}
use Rattle.std.specs.List.{flat_map, list_any}
use Rattle.std.specs.Map.{lookup}
use Rattle.cdc_types.specs.declared.events.Event.{Event}
use Rattle.cdc_types.specs.declared.events.EventAccount.{EventAccount}
use Rattle.cdc_audit.specs.declared.apart.Times.{Times}
use Rattle.cdc_audit.specs.declared.fields.FixedFields.{FixedFields}
use Rattle.cdc_audit.specs.declared.refusals.Refusal.{Refusal}
use Rattle.cdc_audit.specs.declared.refusals.Refusal.TheVariants.{CreatedAtEvent, CreatedTogether}
use Rattle.cdc_audit.specs.Fields.{accounts_of, fields_before}

-- the timestamps of events
abbrev pub times_of : List Event → List ℕ
times_of events = map (λ e. e.timestamp) events

-- one of these timestamps is this one
abbrev pub has_time : List ℕ → ℕ → Bool
has_time times t = list_any (λ u. u == t) times

-- these accounts and one more, unless its id is among theirs
abbrev pub with_shown : List (ℕ × FixedFields) → ℕ × FixedFields → List (ℕ × FixedFields)
with_shown accounts a = if is_some (lookup (nat_eq a.0) accounts) then accounts else (accounts ++ a ∷ [])

-- the accounts that these events show, each by its first event
abbrev pub accounts_before : List Event → List (ℕ × FixedFields)
accounts_before past = fold with_shown [] (flat_map accounts_of past)

-- the id of the account that was created at this timestamp, if it is among these accounts
abbrev pub account_at : List (ℕ × FixedFields) → ℕ → Option ℕ
account_at accounts t = option_map (λ (a : ℕ × FixedFields). a.0) (find (λ a. a.1.timestamp == t) accounts)

-- what else has the timestamp of an account: of the events with these timestamps, and of these accounts. If the account
-- is known, this was checked before
abbrev pub times_known : Bool → List ℕ → List (ℕ × FixedFields) → ℕ → Times
times_known known times accounts t =
    if known then (record { of_event = false; of_account = None })
    else record { of_event = has_time times t; of_account = account_at accounts t }

-- the same of an account of an event, by the events before it
abbrev pub times_before : List Event → EventAccount → Times
times_before past a =
    times_known (is_some (fields_before past a.id)) (times_of past) (accounts_before past) a.timestamp

-- the lines on an account's timestamp: no earlier event and no other account has it
abbrev pub times_lines : Times → EventAccount → List (Bool × Refusal)
times_lines times a =
    (times.of_event, CreatedAtEvent a.id a.timestamp) ∷
    (is_some times.of_account, CreatedTogether a.id a.timestamp (unwrap_or times.of_account 0)) ∷
    []

-- the line on both accounts: they weren't created at one timestamp
abbrev pub together_lines : Event → List (Bool × Refusal)
together_lines e = (
  e.debit_account.timestamp == e.credit_account.timestamp,
  CreatedTogether e.credit_account.id e.credit_account.timestamp e.debit_account.id,
) ∷
    []

-- the lines on the timestamps of both accounts
abbrev pub apart_lines : Times → Times → Event → List (Bool × Refusal)
apart_lines debit credit e =
    times_lines debit e.debit_account ++ times_lines credit e.credit_account ++ together_lines e
