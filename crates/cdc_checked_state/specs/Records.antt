-- The records that follow a log's base (private: for the code's own contracts).
use Rattle.std.specs.Prelude.{◌≡◌, ◌+◌, ℕ, List, ◌++◌, length}
use Rattle.cdc_frames.specs.Frames.{BeginsNoFrame, frames}
use Rattle.cdc_match.specs.Arguments.{Arguments}
use Rattle.cdc_checked_follow.specs.Checking.{CheckedState}
use Rattle.cdc_checked_follow.specs.Standing.{CheckedFollowerState, StandsFor}
use Rattle.cdc_checked_state.specs.Logs.{AreWholeButLast, checked_all, log_name}

-- a text is that of records, and then a torn end
abbrev pub AreRecords : List ℕ → List (List ℕ) → List ℕ → Type 0
AreRecords text records torn =
    (text ≡ frames log_name 1 records ++ torn) × BeginsNoFrame log_name (length records + 1) torn

-- the records of a text were followed, the last one as far as it has entries
pub record ChecksRecords (taking : Arguments) (text : List ℕ) (old new : CheckedFollowerState) : Type 0 where
  pub records : List (List ℕ)
  pub torn : List ℕ
  pub text_is : AreRecords text records torn
  pub followed : (state : CheckedState) → StandsFor taking old state
      → AreWholeButLast state records × StandsFor taking new (checked_all state records)
