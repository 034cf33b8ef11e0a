-- What auditing a stream keeps, saves and prints.
use Rattle.std.specs.Prelude.{◌≡◌, ℕ, Bool, false, List, take, Option, Some, None, if◌then◌else◌}
use Rattle.cdc_follow.specs.Streams.{stream_of}
use Rattle.cdc_subscriber.specs.SubscriberState.{SubscriberState}
use Rattle.cdc_audit.specs.Audits.{AuditState}
use Rattle.cdc_audit.specs.Standing.{StandsFor}
use Rattle.cdc_audit.specs.declared.streams.AuditStop.{AuditStop}
use Rattle.cdc_audit.specs.declared.streams.AuditStop.TheVariants.{AtEnd}
use Rattle.cdc_audit_command.specs.Duplicates.{AuditsBy, entries_audited}
use Rattle.cdc_audit_command.specs.declared.auditors.AuditSetup.{AuditSetup}
use Rattle.cdc_audit_command.specs.declared.auditors.StreamAudit.{StreamAudit}
use Rattle.cdc_audit_command.specs.declared.auditors.StreamAuditor.{StreamAuditor}

-- what auditing has come to
abbrev pub audit_of : StreamAuditor → StreamAudit
audit_of it = record { auditor = it.auditor; duplicates = it.duplicates }

-- the same if no duplicate was skipped yet
abbrev pub begun_of : StreamAuditor → StreamAudit
begun_of it = record { auditor = it.auditor; duplicates = 0 }

-- how many duplicates were skipped, if they are to be
abbrev pub duplicates_by : AuditSetup → ℕ → Option ℕ
duplicates_by setup duplicates = if setup.skips_duplicates then Some duplicates else None

-- what was audited of the first so many entries of the bytes
abbrev pub audited_after : Bool → AuditState → List ℕ → ℕ → AuditState
audited_after skips state bytes count =
    (entries_audited skips state AtEnd (take count (stream_of false bytes).entries)).audited.state

-- whatever audit an auditor stood for, it stands for that of the first so many entries of the bytes
abbrev pub StandsAfter : AuditSetup → StreamAudit → List ℕ → ℕ → StreamAudit → Type 0
StandsAfter setup start bytes count now = (state : AuditState) → StandsFor start.auditor state
    → StandsFor now.auditor (audited_after setup.skips_duplicates state bytes count)

-- if no duplicate was skipped before, auditing the bytes makes this of an auditor, and stops for this reason
abbrev pub StopsAt : AuditSetup → StreamAudit → List ℕ → AuditStop → StreamAudit → Type 0
StopsAt setup start bytes stop now = start.duplicates ≡ 0
    → AuditsBy setup.skips_duplicates start.auditor bytes stop now.auditor now.duplicates

-- what is printed of a save, if this is printed of the timestamp of the last accepted event
abbrev pub prints_save_of : (ℕ → List ℕ) → AuditSetup → StreamAudit → List ℕ
prints_save_of prints setup it = prints it.auditor.kept.last

-- what is printed at the end, if this is printed of how many duplicates were skipped, of a subscriber of the accepted
-- events, and of why auditing stopped
abbrev pub prints_end_of : (Bool → Option ℕ → SubscriberState → AuditStop → List ℕ) → AuditSetup → StreamAudit
    → AuditStop → List ℕ
prints_end_of prints setup it stop =
    prints setup.shows_book (duplicates_by setup it.duplicates) it.auditor.kept stop
