-- The changes of a history, one at a time, and what an entry makes of balances.
use Rattle.cdc_ledger.proofs.Words.{◌≤◌, AllByRecursion, History, ℕ}
pub use Rattle.cdc_ledger.specs.Accounts.{no_balances}
pub use Rattle.cdc_ledger.specs.Effects.{part, balances_after, balances_after_entry, account_after, effect_of}
pub use Rattle.cdc_ledger.specs.Changes.{pushed, with_account, timed}

-- every entry is at or before the timestamp t
abbrev pub IsUpTo : ℕ → History → Type 0
IsUpTo t h = AllByRecursion (λ e. e.timestamp ≤ t) h.entries
