-- The log of an audit's state: frames, of which the first contains the text of a state, the base, and each later one the
-- lines that were audited since the one before. Read back, these lines are audited again.
use Rattle.std.specs.Prelude.{◌≡◌, ◌⊎◌, ◌<◌, ◌≤◌, ◌+◌, ◌^◌, ℕ, List, [], ◌∷◌, ◌++◌, codes, fold, length, take}
use Rattle.cdc_frames.specs.Frames.{BeginsNoFrame, frames}
use Rattle.cdc_audit.specs.declared.streams.AuditStop.TheVariants.{AtEnd}
use Rattle.cdc_audit.specs.Audits.{AuditState, bytes_audited}
use Rattle.cdc_audit.specs.Standing.{AuditorState, StandsFor}
use Rattle.cdc_audit_state.specs.States.{state_text}

-- what each frame begins with: the first line of a log is "audit-state 0 bytes ..", and that of a state "audit-state 1
-- foreign .."
abbrev pub log_name : List ℕ
log_name = codes "audit-state"

-- the text of a log
abbrev pub log_text : AuditorState → List (List ℕ) → List ℕ
log_text base records = frames log_name 0 (state_text base ∷ records)

-- A text is that of a log, and then a torn end, with which no whole frame begins.
abbrev pub IsLogText : List ℕ → AuditorState → List (List ℕ) → List ℕ → Type 0
IsLogText text base records torn =
    (text ≡ log_text base records ++ torn) × BeginsNoFrame log_name (length records + 1) torn

-- what auditing the bytes of records, one after another, comes to
abbrev pub audited_all : AuditState → List (List ℕ) → AuditState
audited_all state records = fold (λ so_far bytes. (bytes_audited so_far bytes).state) state records

-- each record is accepted up to its end
abbrev pub AreAccepted : AuditState → List (List ℕ) → Type 0
AreAccepted state [] = Unit {0}
AreAccepted state (bytes ∷ more) =
    ((bytes_audited state bytes).stop ≡ AtEnd) × AreAccepted (bytes_audited state bytes).state more

-- so is each but the last one, which may be accepted in part
abbrev pub AreAcceptedButLast : AuditState → List (List ℕ) → Type 0
AreAcceptedButLast state [] = Unit {0}
AreAcceptedButLast state (bytes ∷ []) = Unit {0}
AreAcceptedButLast state (bytes ∷ next ∷ more) =
    ((bytes_audited state bytes).stop ≡ AtEnd) × AreAcceptedButLast (bytes_audited state bytes).state (next ∷ more)

-- the records are accepted; or nothing follows them, and the last one is accepted in part
abbrev pub CanBeReplayed : AuditState → List (List ℕ) → List ℕ → Type 0
CanBeReplayed state records torn = AreAccepted state records ⊎ (AreAcceptedButLast state records × (torn ≡ []))

-- whatever audit the base stood for, the records are accepted after it, and the auditor stands for what that comes to
abbrev pub Replays : AuditorState → List (List ℕ) → AuditorState → Type 0
Replays base records auditor =
    (state : AuditState) → StandsFor base state
    → AreAccepted state records × StandsFor auditor (audited_all state records)

-- An auditor is read of this text, which is that of a log. Of the last record it may have taken only the lines before
-- one that isn't accepted: a crash may leave other bytes between the two lines of the last frame.
pub record IsRead (text : List ℕ) (auditor : AuditorState) : Type 0 where
  pub base : AuditorState
  pub records : List (List ℕ)
  pub torn : List ℕ
  pub text_is : IsLogText text base records torn
  pub audited : (state : AuditState) → StandsFor base state
      → AreAcceptedButLast state records × StandsFor auditor (audited_all state records)

-- A log is cut after n bytes: the records that ended before the cut are kept, and what is left of the next one is torn.
pub record IsCut (base : AuditorState) (records : List (List ℕ)) (n : ℕ) : Type 0 where
  pub kept : List (List ℕ)
  pub lost : List (List ℕ)
  pub torn : List ℕ
  pub parted : records ≡ kept ++ lost
  pub text_is : IsLogText (take n (log_text base records)) base kept torn
  pub next : (first : List ℕ) (others : List (List ℕ)) → lost ≡ first ∷ others
      → n < length (log_text base (kept ++ first ∷ []))

-- so it is wherever a log is cut, after its base
abbrev pub LogsCanBeCut : Type 0
LogsCanBeCut = (base : AuditorState) (records : List (List ℕ)) (n : ℕ) → length (log_text base records) < 2 ^ 64
    → length (log_text base []) ≤ n → IsCut base records n
