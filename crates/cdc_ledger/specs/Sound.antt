-- What holds of every history that a ledger makes. Contracts of a run cite `IsSound`.
use Rattle.std.specs.Prelude.{ℕ, ◌≤◌, ◌<◌, ◌≡◌, ◌≢◌, true, IsSome, Some, List, [], ◌∷◌, map, filter}
use Rattle.std.specs.List.{AllByRecursion}
use Rattle.cdc_types.specs.declared.events.Entry.{Entry}
use Rattle.cdc_types.specs.declared.events.EventKind.TheVariants.{TwoPhaseExpired}
use Rattle.cdc_ledger.specs.Balances.{IsBounded}
use Rattle.cdc_ledger.specs.Filling.{stored, expires_at}
use Rattle.cdc_ledger.specs.History.{History, opened}
use Rattle.cdc_ledger.specs.Kinds.{holds, settles, settled_id, stores}
use Rattle.cdc_ledger.specs.Verdict.{max_timestamp}

-- each entry is later than this timestamp and later than the entry before it
abbrev pub RiseFrom : ℕ → List Entry → Type 0
RiseFrom t [] = Unit {0}
RiseFrom t (e ∷ es) = (t < e.timestamp) × RiseFrom e.timestamp es

-- both accounts of the entry are there
abbrev pub HasAccounts : History → Entry → Type 0
HasAccounts h e = IsSome (opened h e.transfer.debit_account_id) × IsSome (opened h e.transfer.credit_account_id)

-- no number occurs twice
abbrev pub AreApart : List ℕ → Type 0
AreApart [] = Unit {0}
AreApart (n ∷ ns) = AllByRecursion (λ m. n ≢ m) ns × AreApart ns

-- the ids of the transfers that these entries stored
abbrev pub stored_ids : List Entry → List ℕ
stored_ids entries = map (λ e. e.transfer.id) (filter (λ e. stores e.kind) entries)

-- the entry e settles the transfer of the pending entry x: between the same accounts, and of no more
pub record Settles (h : History) (e x : Entry) : Type 0 where
  pub named : stored h (settled_id e.kind e.transfer) ≡ Some x
  pub pending : holds x.kind ≡ true
  pub debit : e.transfer.debit_account_id ≡ x.transfer.debit_account_id
  pub credit : e.transfer.credit_account_id ≡ x.transfer.credit_account_id
  pub within : e.transfer.amount ≤ x.transfer.amount
  -- an expiry shows the pending transfer itself
  pub shown : e.kind ≡ TwoPhaseExpired → e.transfer ≡ x.transfer

-- what holds of the entry e of a history, and stays so whatever comes later
pub record Stands (h : History) (e : Entry) : Type 0 where
  pub apart : e.transfer.debit_account_id ≢ e.transfer.credit_account_id
  pub dated : stores e.kind ≡ true → e.transfer.timestamp ≡ e.timestamp
  pub timely : holds e.kind ≡ true → e.transfer.timeout ≢ 0 → expires_at e.transfer ≤ max_timestamp
  pub settling : settles e.kind ≡ true → (x : Entry) × Settles h e x

-- what holds of every history that a ledger makes
pub record IsSound (h : History) : Type 0 where
  -- the entries' timestamps rise, and none is past the last one
  pub rising : RiseFrom 0 h.entries
  pub past : AllByRecursion (λ e. e.timestamp ≤ h.last) h.entries
  -- both accounts of each entry are there, and no two accounts have one id
  pub known : AllByRecursion (HasAccounts h) h.entries
  pub unique : AreApart (map (λ o. o.request.id) h.accounts)
  -- no two transfers have one id, and each post, void and expiry names a pending transfer
  pub once : AreApart (stored_ids h.entries)
  pub standing : AllByRecursion (Stands h) h.entries
  pub bounded : IsBounded h
  pub within : h.last ≤ max_timestamp
