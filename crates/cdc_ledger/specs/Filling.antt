-- The transfer that is stored for a request: as it was asked for, or filled in from the pending transfer that it
-- posts or voids (TigerBeetle, Two-Phase Transfers).
use Rattle.std.specs.Prelude.{ℕ, ◌+◌, ◌*◌, Bool, ◌==◌, ◌&&◌, Option, Some, None, List, if◌then◌else◌, find}
use Rattle.cdc_types.specs.declared.events.Entry.{Entry}
use Rattle.cdc_types.specs.declared.transfers.NewTransfer.{NewTransfer}
use Rattle.cdc_types.specs.declared.transfers.Transfer.{Transfer}
use Rattle.cdc_types.specs.Flags.{is_post_request, is_plain_request}
use Rattle.cdc_types.specs.Widths.{max_128}
use Rattle.cdc_ledger.specs.History.{History}
use Rattle.cdc_ledger.specs.Kinds.{stores}

-- the first of the entries that stored a transfer of this id
abbrev pub stored_in : List Entry → ℕ → Option Entry
stored_in entries id = find (λ e. stores e.kind && (e.transfer.id == id)) entries

-- the entry that stored the transfer of this id
abbrev pub stored : History → ℕ → Option Entry
stored h id = stored_in h.entries id

-- the request with its timestamp
abbrev pub as_asked : NewTransfer → ℕ → Transfer
as_asked r t = record {
  id = r.id;
  debit_account_id = r.debit_account_id;
  credit_account_id = r.credit_account_id;
  amount = r.amount;
  pending_id = r.pending_id;
  user_data_128 = r.user_data_128;
  user_data_64 = r.user_data_64;
  user_data_32 = r.user_data_32;
  timeout = r.timeout;
  ledger = r.ledger;
  code = r.code;
  flags = r.flags;
  timestamp = t;
}

-- the given value; 0 means the pending transfer's own
abbrev pub or_own : ℕ → ℕ → ℕ
or_own given own = if given == 0 then own else given

-- what is posted or voided of the pending transfer p: the greatest number posts the whole, and 0 voids it
abbrev pub settled_amount : NewTransfer → Transfer → ℕ
settled_amount r p =
    if is_post_request r then (if r.amount == max_128 then p.amount else r.amount) else or_own r.amount p.amount

-- a post or a void of the pending transfer p
abbrev pub filled_from : Transfer → NewTransfer → ℕ → Transfer
filled_from p r t = record (as_asked r t) {
  debit_account_id = or_own r.debit_account_id p.debit_account_id;
  credit_account_id = or_own r.credit_account_id p.credit_account_id;
  amount = settled_amount r p;
  user_data_128 = or_own r.user_data_128 p.user_data_128;
  user_data_64 = or_own r.user_data_64 p.user_data_64;
  user_data_32 = or_own r.user_data_32 p.user_data_32;
  ledger = or_own r.ledger p.ledger;
  code = or_own r.code p.code;
}

-- a post or a void by the entry of its pending transfer, if there is one
abbrev pub filled_by : Option Entry → NewTransfer → ℕ → Transfer
filled_by None r t = as_asked r t
filled_by (Some e) r t = filled_from e.transfer r t

-- the transfer that is stored for the request at the timestamp t
abbrev pub filled : History → NewTransfer → ℕ → Transfer
filled h r t = if is_plain_request r then as_asked r t else filled_by (stored h r.pending_id) r t

-- every field but the timestamp is equal
abbrev pub is_same_transfer : Transfer → Transfer → Bool
is_same_transfer x y =
    (x.id == y.id) && (x.debit_account_id == y.debit_account_id) && (x.credit_account_id == y.credit_account_id)
    && (x.amount == y.amount) && (x.pending_id == y.pending_id) && (x.user_data_128 == y.user_data_128)
    && (x.user_data_64 == y.user_data_64) && (x.user_data_32 == y.user_data_32) && (x.timeout == y.timeout)
    && (x.ledger == y.ledger) && (x.code == y.code) && (x.flags == y.flags)

-- when a pending transfer expires, in nanoseconds; its timeout is in seconds
abbrev pub expires_at : Transfer → ℕ
expires_at p = p.timestamp + p.timeout * 1000000000
