-- Accounts as the ledger keeps them, each with its balances so far (for private contracts and the laws, except
-- `no_balances`, which the rules of an audit cite).
use Rattle.std.specs.Prelude.{ℕ, ◌+◌, ◌≤◌, Bool, ◌==◌, not, List, ◌∷◌, find, unwrap_or, option_map}
use Rattle.cdc_types.specs.declared.accounts.Account.{Account}
use Rattle.cdc_types.specs.declared.accounts.Balances.{Balances}
use Rattle.cdc_types.specs.declared.accounts.NewAccount.{NewAccount}
use Rattle.cdc_types.specs.declared.events.Entry.{Entry}
use Rattle.cdc_types.specs.declared.events.Event.{Event}
use Rattle.cdc_types.specs.declared.events.EventAccount.{EventAccount}
use Rattle.cdc_types.specs.declared.results.TransferResult.{TransferResult}
use Rattle.cdc_types.specs.declared.results.TransferResult.TheVariants as transfer
use Rattle.cdc_types.specs.declared.transfers.NewTransfer.{NewTransfer}
use Rattle.cdc_ledger.specs.History.{Opened}
use Rattle.cdc_types.specs.Widths.{max_128}
use Rattle.cdc_ledger.specs.Events.{account_with, shown_account, shown_transfer, nobody}
use Rattle.cdc_ledger.specs.Submit.{opened_by}
use Rattle.cdc_ledger.specs.Verdict.{sum_lines}

-- the account as it was opened
abbrev pub opened_as : Account → Opened
opened_as a = record {
  request = record {
    id = a.id;
    user_data_128 = a.user_data_128;
    user_data_64 = a.user_data_64;
    user_data_32 = a.user_data_32;
    ledger = a.ledger;
    code = a.code;
    flags = a.flags;
  };
  timestamp = a.timestamp;
}

-- no amount yet
abbrev pub no_balances : Balances
no_balances = record { debits_pending = 0; debits_posted = 0; credits_pending = 0; credits_posted = 0 }

-- an account that was just opened
abbrev pub fresh_account : NewAccount → ℕ → Account
fresh_account request timestamp = account_with (opened_by request timestamp) no_balances

-- the account as an event shows it
abbrev pub shown_as : Account → EventAccount
shown_as a = shown_account (opened_as a) a.balances

-- what is pending and what is posted fit 128 bits together, on each side
abbrev pub HasBoundedSums : Account → Type 0
HasBoundedSums a =
    (a.balances.debits_pending + a.balances.debits_posted ≤ max_128)
    × (a.balances.credits_pending + a.balances.credits_posted ≤ max_128)

-- an account as an event shows it; if there is none, all fields are 0
abbrev pub shown_in : List Account → ℕ → EventAccount
shown_in accounts id =
    unwrap_or (option_map shown_as (find (λ a. a.id == id) accounts)) (shown_account nobody no_balances)

-- the event of an entry, from the accounts as they are after it
abbrev pub event_from : List Account → Entry → Event
event_from accounts e = record {
  timestamp = e.timestamp;
  kind = e.kind;
  ledger = e.transfer.ledger;
  transfer = shown_transfer e.transfer;
  debit_account = shown_in accounts e.transfer.debit_account_id;
  credit_account = shown_in accounts e.transfer.credit_account_id;
}

-- the lines on a single-phase or a pending transfer between these two accounts
abbrev pub lines_between : Account → Account → NewTransfer → ℕ → List (Bool × TransferResult)
lines_between debited credited r t =
    (not (debited.ledger == credited.ledger), transfer.AccountsMustHaveTheSameLedger) ∷
    (not (r.ledger == debited.ledger), transfer.TransferMustHaveTheSameLedgerAsAccounts) ∷
    sum_lines debited.balances credited.balances (opened_as debited).request (opened_as credited).request r t
