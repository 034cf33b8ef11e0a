-- What it takes that an entry comes after a history (for private contracts and the laws).
use Rattle.std.specs.Prelude.{ℕ, ◌+◌, ◌<◌, ◌≤◌, ◌≡◌, ◌≢◌, true, false, None, ◌∷◌}
use Rattle.cdc_types.specs.declared.events.Entry.{Entry}
use Rattle.cdc_types.specs.declared.transfers.Transfer.{Transfer}
use Rattle.cdc_types.specs.Widths.{max_128}
use Rattle.cdc_ledger.specs.Balances.{balances, resolved}
use Rattle.cdc_ledger.specs.Changes.{pushed, expiry}
use Rattle.cdc_ledger.specs.Due.{due}
use Rattle.cdc_ledger.specs.Filling.{stored, expires_at}
use Rattle.cdc_ledger.specs.History.{History}
use Rattle.cdc_ledger.specs.Kinds.{holds, settles, stores}
use Rattle.cdc_ledger.specs.Sound.{HasAccounts, Settles}
use Rattle.cdc_ledger.specs.Verdict.{max_timestamp}

-- the sum of an entry's amount and of the pending and posted amounts fits 128 bits, on both sides
pub record HasRoom (h : History) (e : Entry) : Type 0 where
  pub debit : (balances h e.transfer.debit_account_id h.last).debits_pending
      + (balances h e.transfer.debit_account_id h.last).debits_posted + e.transfer.amount ≤ max_128
  pub credit : (balances h e.transfer.credit_account_id h.last).credits_pending
      + (balances h e.transfer.credit_account_id h.last).credits_posted + e.transfer.amount ≤ max_128

-- the entry settles a pending transfer of the history, which nothing did before
pub record SettlesOpen (h : History) (e : Entry) : Type 0 where
  pub pending : Entry
  pub settles : Settles h e pending
  pub unsettled : resolved h pending.transfer h.last ≡ false

-- the entry e may come after the history h, as far as sums, ids and pending transfers go
pub record Follows (h : History) (e : Entry) : Type 0 where
  pub accounts : HasAccounts h e
  pub apart : e.transfer.debit_account_id ≢ e.transfer.credit_account_id
  -- a transfer that it stores has a new id and its timestamp
  pub fresh : stores e.kind ≡ true → stored h e.transfer.id ≡ None
  pub dated : stores e.kind ≡ true → e.transfer.timestamp ≡ e.timestamp
  -- the expiry time of a pending transfer is in range
  pub timely : holds e.kind ≡ true → e.transfer.timeout ≢ 0 → expires_at e.transfer ≤ max_timestamp
  -- a single-phase or a pending one has room; any other one settles a pending transfer
  pub room : settles e.kind ≡ false → HasRoom h e
  pub settling : settles e.kind ≡ true → SettlesOpen h e

-- of the pending transfers that are due at the timestamp now, p is the first to expire: it may expire at any later
-- timestamp, and then the others are due
pub record IsDueNext (h : History) (now : ℕ) (p : Transfer) : Type 0 where
  pub follows : (t : ℕ) → Follows h (expiry p t)
  pub first : (t : ℕ) → h.last < t → due h now ≡ p ∷ due (pushed h (expiry p t)) now
