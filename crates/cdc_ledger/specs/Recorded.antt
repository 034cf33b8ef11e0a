-- Entries that were taken into the tables and may be taken out again (for private contracts and the laws).
use Rattle.std.specs.Prelude.{ℕ, ◌-◌, ◌<◌, ◌≤◌, ◌≡◌, Some, None, List, [], ◌∷◌, length, take, slice_get}
use Rattle.cdc_types.specs.declared.accounts.NewAccount.{NewAccount}
use Rattle.cdc_ledger.specs.declared.recording.Recorded.{Recorded}
use Rattle.cdc_ledger.specs.Changes.{pushed, with_account}
use Rattle.cdc_ledger.specs.Events.{accounts_now, event_of}
use Rattle.cdc_ledger.specs.Follows.{Follows}
use Rattle.cdc_ledger.specs.History.{History, opened}
use Rattle.cdc_ledger.specs.Movements.{IsMovement}
use Rattle.cdc_ledger.specs.Sound.{IsSound}
use Rattle.cdc_ledger.specs.Submit.{opened_by}
use Rattle.cdc_ledger.specs.Verdict.{max_timestamp}

-- the movement's entry was taken after the history h, of which enough is kept to go back to it
pub record IsRecorded (h : History) (r : Recorded) : Type 0 where
  pub sound : IsSound h
  pub follows : Follows h r.movement.entry
  pub later : h.last < r.movement.entry.timestamp
  pub within : r.movement.entry.timestamp ≤ max_timestamp
  pub movement : IsMovement h r.movement
  pub place : r.place ≡ length h.entries
  pub last : r.last ≡ h.last
  pub debit : slice_get (accounts_now h) r.movement.debit ≡ Some r.debit
  pub credit : slice_get (accounts_now h) r.movement.credit ≡ Some r.credit
  pub event : r.event ≡ event_of (pushed h r.movement.entry) r.movement.entry

-- the history before its last entry, when this was the last timestamp
abbrev pub without_entry : History → ℕ → History
without_entry h last = record h { entries = take (length h.entries - 1) h.entries; last = last }

-- the history before its last account, likewise
abbrev pub without_account : History → ℕ → History
without_account h last = record h { accounts = take (length h.accounts - 1) h.accounts; last = last }

-- this was the last entry that the history took
pub record IsLastRecorded (h : History) (r : Recorded) : Type 0 where
  pub before : History
  pub made : h ≡ pushed before r.movement.entry
  pub recorded : IsRecorded before r

-- the last account of the history was opened by this request at this timestamp, and before that `last` was the last
-- timestamp
pub record IsLastOpened (h : History) (last : ℕ) : Type 0 where
  pub before : History
  pub request : NewAccount
  pub time : ℕ
  pub made : h ≡ with_account before (opened_by request time)
  pub sound : IsSound before
  pub free : opened before request.id ≡ None
  pub dated : last ≡ before.last
  pub later : before.last ≤ time

-- the history after all of these entries
abbrev pub grown : History → List Recorded → History
grown h [] = h
grown h (r ∷ rs) = grown (pushed h r.movement.entry) rs

-- each of them was taken in turn
abbrev pub AreRecorded : History → List Recorded → Type 0
AreRecorded h [] = Unit {0}
AreRecorded h (r ∷ rs) = IsRecorded h r × AreRecorded (pushed h r.movement.entry) rs
