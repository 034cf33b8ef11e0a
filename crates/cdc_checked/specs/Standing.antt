-- What becomes of an event, what a checker keeps, and for which applied events it stands.
use Rattle.std.specs.Prelude.{◌≡◌, ℕ, Bool, true, false, nat_eq, Option, Some, None, unwrap_or, List, [], if◌then◌else◌}
use Rattle.std.specs.Map.{lookup}
use Rattle.indexmap.specs.IndexMap.{insert_entry}
use Rattle.cdc_types.specs.declared.events.Event.{Event}
use Rattle.cdc_types.specs.declared.events.EventAccount.{EventAccount}
use Rattle.cdc_types.specs.Lines.{first_line}
use Rattle.cdc_ledger.specs.Accounts.{no_balances}
use Rattle.cdc_ledger.specs.Kinds.{settles}
use Rattle.cdc_subscriber.specs.Book.{entry_of}
use Rattle.cdc_audit.specs.declared.refusals.Refusal.{Refusal}
use Rattle.cdc_audit.specs.Known.{balances_after, settled_id}
use Rattle.cdc_checked.specs.declared.checker.KnownAccount.{KnownAccount}
use Rattle.cdc_checked.specs.declared.checker.Outcome.{Outcome}
use Rattle.cdc_checked.specs.declared.checker.Outcome.TheVariants.{Applied, Late, Refused}
use Rattle.cdc_checked.specs.Based.{rules_by, seen, seen_rules}
use Rattle.cdc_checked.specs.Checked.{account_rules, is_new, last_of, lines_by, open_in}

-- what becomes of an event that is new or not, and that is refused for this reason, if at all
abbrev pub outcome_if : Bool → Option Refusal → Outcome
outcome_if false why = Late
outcome_if true None = Applied
outcome_if true (Some why) = Refused why

-- what becomes of an event after these were applied
abbrev pub outcome_of : List Event → Event → Outcome
outcome_of applied e = outcome_if (is_new applied e) (first_line (account_rules applied e))

-- the same by baseline, or not
abbrev pub outcome_by : Bool → List Event → Event → Outcome
outcome_by baseline applied e = outcome_if (is_new applied e) (first_line (rules_by baseline applied e))

-- each account, and the events of the open pending transfers, by their ids
pub record CheckerState : Type 0 where
  pub accounts : List (ℕ × KnownAccount)
  pub open_ones : List (ℕ × Event)

-- nothing is known
abbrev pub knows_nothing : CheckerState
knows_nothing = record { accounts = []; open_ones = [] }

-- what is known of an account before its first event: zeros
abbrev pub unknown : KnownAccount
unknown = record { balances = no_balances; last = 0 }

-- what is known of the account of this id
abbrev pub known_under : List (ℕ × KnownAccount) → ℕ → KnownAccount
known_under accounts id = unwrap_or (lookup (nat_eq id) accounts) unknown

-- the event of the open pending transfer that an event settles
abbrev pub one_under : List (ℕ × Event) → Event → Option Event
one_under open_ones e = if settles e.kind then lookup (nat_eq (settled_id e)) open_ones else None

-- the lines on an event, by baseline or not, by what is known of its accounts
abbrev pub lines_for : Bool → Option Event → KnownAccount → KnownAccount → Event → List (Bool × Refusal)
lines_for true pending debited credited e =
    seen_rules pending (seen debited.last debited.balances) (seen credited.last credited.balances) e
lines_for false pending debited credited e = lines_by pending debited.balances credited.balances e

-- what these applied events show of an account
abbrev pub known_after : List Event → ℕ → KnownAccount
known_after applied id = record { balances = balances_after applied id; last = last_of applied id }

-- what an event of this timestamp shows of an account
abbrev pub known_by : ℕ → EventAccount → KnownAccount
known_by timestamp a = record { balances = (entry_of a).balances; last = timestamp }

-- the accounts after one more event
abbrev pub with_accounts : List (ℕ × KnownAccount) → Event → List (ℕ × KnownAccount)
with_accounts accounts e =
    insert_entry nat_eq (insert_entry nat_eq accounts e.debit_account.id (known_by e.timestamp e.debit_account))
    e.credit_account.id (known_by e.timestamp e.credit_account)

-- a checker knows what these applied events show last of each account, and the open pending transfers
pub record StandsFor (checker : CheckerState) (applied : List Event) : Type 0 where
  pub balances : (id : ℕ) → (known_under checker.accounts id).balances ≡ balances_after applied id
  pub last : (id : ℕ) → (known_under checker.accounts id).last ≡ last_of applied id
  pub open_ones : (id : ℕ) → lookup (nat_eq id) checker.open_ones ≡ open_in applied id
