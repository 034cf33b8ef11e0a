-- The records that follow a log's base (private: for the code's own contracts).
use Rattle.std.specs.Prelude.{◌≡◌, ◌+◌, ℕ, List, ◌++◌, length}
use Rattle.cdc_frames.specs.Frames.{BeginsNoFrame, frames}
use Rattle.cdc_audit.specs.Audits.{AuditState}
use Rattle.cdc_audit.specs.Standing.{AuditorState, StandsFor}
use Rattle.cdc_audit_state.specs.Logs.{AreAcceptedButLast, audited_all, log_name}

-- a text is that of records, and then a torn end
abbrev pub AreRecords : List ℕ → List (List ℕ) → List ℕ → Type 0
AreRecords text records torn =
    (text ≡ frames log_name 1 records ++ torn) × BeginsNoFrame log_name (length records + 1) torn

-- the records of a text were audited, the last one as far as it is accepted
pub record AuditsRecords (text : List ℕ) (old new : AuditorState) : Type 0 where
  pub records : List (List ℕ)
  pub torn : List ℕ
  pub text_is : AreRecords text records torn
  pub audited : (state : AuditState) → StandsFor old state
      → AreAcceptedButLast state records × StandsFor new (audited_all state records)
