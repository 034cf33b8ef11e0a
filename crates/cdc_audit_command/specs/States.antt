-- An audit's state: what is kept of it, and how a later run goes on from it.
use Rattle.std.specs.Prelude.{◌≡◌, ◌≢◌, ◌⊎◌, ℕ, Bool, List, Option}
use Rattle.cdc_files.specs.declared.errors.StoreError.{StoreError}
use Rattle.cdc_files.specs.declared.errors.StoreError.TheVariants.{BadRecord, OutOfMemory}
use Rattle.cdc_audit.specs.Audits.{AuditState}
use Rattle.cdc_audit.specs.Standing.{AuditorState, StandsFor}
use Rattle.cdc_audit_state.specs.Logs.{CanBeReplayed, IsLogText, IsRead, Replays, log_text}
use Rattle.cdc_audit_state.specs.Saveable.{CanBeSaved}
use Rattle.cdc_audit_state.specs.States.{state_text}
use Rattle.cdc_streams.specs.Keeping.{AddsTexts}
use Rattle.cdc_audit_command.specs.declared.auditors.AuditSetup.{AuditSetup}
use Rattle.cdc_audit_command.specs.declared.auditors.StreamAudit.{StreamAudit}
use Rattle.cdc_audit_command.specs.declared.states.StateLog.{StateLog}

-- a text is that of a log whose replay is this auditor
abbrev pub IsTextOf : List ℕ → StreamAudit → Type 0
IsTextOf text it =
    (base : AuditorState) × (records : List (List ℕ)) × (text ≡ log_text base records)
    × Replays base records it.auditor

-- one log came from another, and meanwhile the store held the texts of logs of these, one after another
abbrev pub HasLogged : {L : Type 0} → (L → Option (List (List ℕ))) → AuditSetup → StateLog L → StateLog L
    → List StreamAudit → Type 0
HasLogged texts setup old new states = AddsTexts IsTextOf (texts old.log.store) (texts new.log.store) states

-- an auditor goes on from a text: that of a state alone, or that of a log, with a torn end perhaps
abbrev pub IsResumed : Bool → List ℕ → AuditorState → Type 0
IsResumed foreign text auditor = (auditor.foreign ≡ foreign) × ((text ≡ state_text auditor) ⊎ IsRead text auditor)

-- a text is that of no state that can be saved, of such a stream
abbrev pub IsNoState : Bool → List ℕ → Type 0
IsNoState foreign text =
    (state : AuditorState) → CanBeSaved state → state.foreign ≡ foreign → text ≢ state_text state

-- nor of a log of such states, whose records can be replayed
abbrev pub IsNoLog : Bool → List ℕ → Type 0
IsNoLog foreign text =
    (base : AuditorState) (records : List (List ℕ)) (torn : List ℕ) (state : AuditState) → CanBeSaved base
    → StandsFor base state → CanBeReplayed state records torn → state.foreign ≡ foreign
    → ¬ IsLogText text base records torn

-- a text isn't resumed because memory runs out, or because it is neither
abbrev pub IsRefused : Bool → List ℕ → StoreError → Type 0
IsRefused foreign text error =
    (error ≡ OutOfMemory) ⊎ ((error ≡ BadRecord) × IsNoState foreign text × IsNoLog foreign text)
