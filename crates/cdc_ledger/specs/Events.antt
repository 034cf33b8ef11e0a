-- The events that the ledger publishes for its entries (TigerBeetle, Change Data Capture).
use Rattle.std.specs.Prelude.{ℕ, unwrap_or, List, map}
use Rattle.cdc_types.specs.declared.accounts.Balances.{Balances}
use Rattle.cdc_types.specs.declared.accounts.Account.{Account}
use Rattle.cdc_types.specs.declared.events.Entry.{Entry}
use Rattle.cdc_types.specs.declared.events.Event.{Event}
use Rattle.cdc_types.specs.declared.events.EventAccount.{EventAccount}
use Rattle.cdc_types.specs.declared.events.EventTransfer.{EventTransfer}
use Rattle.cdc_types.specs.declared.transfers.Transfer.{Transfer}
use Rattle.cdc_ledger.specs.History.{Opened, History, opened}
use Rattle.cdc_ledger.specs.Balances.{balances}

-- an account with these balances
abbrev pub account_with : Opened → Balances → Account
account_with o sums = record {
  id = o.request.id;
  user_data_128 = o.request.user_data_128;
  user_data_64 = o.request.user_data_64;
  user_data_32 = o.request.user_data_32;
  ledger = o.request.ledger;
  code = o.request.code;
  flags = o.request.flags;
  balances = sums;
  timestamp = o.timestamp;
}

-- the account with its balances at the last timestamp
abbrev pub account_now : History → Opened → Account
account_now h o = account_with o (balances h o.request.id h.last)

-- all accounts, likewise, in the order in which they were opened
abbrev pub accounts_now : History → List Account
accounts_now h = map (account_now h) h.accounts

-- a transfer as an event shows it
abbrev pub shown_transfer : Transfer → EventTransfer
shown_transfer x = record {
  id = x.id;
  amount = x.amount;
  pending_id = x.pending_id;
  user_data_128 = x.user_data_128;
  user_data_64 = x.user_data_64;
  user_data_32 = x.user_data_32;
  timeout = x.timeout;
  code = x.code;
  flags = x.flags;
  timestamp = x.timestamp;
}

-- an account as an event shows it, with these balances
abbrev pub shown_account : Opened → Balances → EventAccount
shown_account o sums = record {
  id = o.request.id;
  debits_pending = sums.debits_pending;
  debits_posted = sums.debits_posted;
  credits_pending = sums.credits_pending;
  credits_posted = sums.credits_posted;
  user_data_128 = o.request.user_data_128;
  user_data_64 = o.request.user_data_64;
  user_data_32 = o.request.user_data_32;
  code = o.request.code;
  flags = o.request.flags;
  timestamp = o.timestamp;
}

-- the account that is shown if there is none; both accounts of a ledger's entry exist
abbrev pub nobody : Opened
nobody = record {
  request = record { id = 0; user_data_128 = 0; user_data_64 = 0; user_data_32 = 0; ledger = 0; code = 0; flags = 0 };
  timestamp = 0;
}

-- the account of this id at the timestamp t
abbrev pub account_at : History → ℕ → ℕ → EventAccount
account_at h id t = shown_account (unwrap_or (opened h id) nobody) (balances h id t)

-- the event of an entry, with both accounts as they are right after it
abbrev pub event_of : History → Entry → Event
event_of h e = record {
  timestamp = e.timestamp;
  kind = e.kind;
  ledger = e.transfer.ledger;
  transfer = shown_transfer e.transfer;
  debit_account = account_at h e.transfer.debit_account_id e.timestamp;
  credit_account = account_at h e.transfer.credit_account_id e.timestamp;
}

-- the events of all entries, in order
abbrev pub events : History → List Event
events h = map (event_of h) h.entries
