-- The audit of a stream that may have duplicates: events that aren't later than the last accepted one are skipped.
use Rattle.std.specs.Prelude.{◌≡◌, ℕ, ◌+◌, Bool, false, nat_le, List, [], ◌∷◌, Option, Some, None, if◌then◌else◌}
use Rattle.cdc_types.specs.Timestamps.{last_timestamp}
use Rattle.cdc_follow.specs.declared.entries.Content.{Content}
use Rattle.cdc_follow.specs.declared.entries.Content.TheVariants as content
use Rattle.cdc_follow.specs.Lines.{lines_of}
use Rattle.cdc_follow.specs.Streams.{NumberedEntry, stream_of_lines}
use Rattle.cdc_audit.specs.declared.refusals.Refusal.{Refusal}
use Rattle.cdc_audit.specs.declared.streams.AuditStop.{AuditStop}
use Rattle.cdc_audit.specs.declared.streams.AuditStop.TheVariants as stop
use Rattle.cdc_audit.specs.Audits.{AuditState, Audited, audit_entries, entry_refusal, next_audit, stop_at}
use Rattle.cdc_audit.specs.Standing.{AuditorState, StandsFor}
use Rattle.cdc_audit.specs.Stops.{EndsAs}

-- an entry is a duplicate if it has an event that isn't later than this timestamp
abbrev pub is_duplicate : ℕ → Content → Bool
is_duplicate last (content.Event e) = nat_le e.timestamp last
is_duplicate last content.End = false

-- an audit, and how many duplicates it has skipped
pub record SkippingAudit : Type 0 where
  pub audited : Audited
  pub duplicates : ℕ

-- so many more were skipped
abbrev pub skipping_more : ℕ → SkippingAudit → SkippingAudit
skipping_more count later = record { audited = later.audited; duplicates = count + later.duplicates }

-- auditing goes on, or stops at an entry that is refused
abbrev pub skipping_on : Option Refusal → ℕ → AuditState → SkippingAudit → SkippingAudit
skipping_on None line state later = later
skipping_on (Some why) line state later =
    record { audited = record { state = state; stop = stop.Refused line why }; duplicates = 0 }

-- the audit of entries without their duplicates, after which the stream stops so: an event that isn't later than the
-- last accepted one is skipped and counted, and each other entry is audited
unfoldable pub audit_skipping : AuditState → AuditStop → List NumberedEntry → SkippingAudit
audit_skipping state end [] = record { audited = record { state = state; stop = end }; duplicates = 0 }
audit_skipping state end (numbered ∷ rest) =
    if is_duplicate (last_timestamp state.past) numbered.entry.content
    then skipping_more 1 (audit_skipping state end rest)
    else skipping_on (entry_refusal state numbered.entry.content) numbered.line state
    (audit_skipping (next_audit state numbered.entry.content) end rest)

-- the audit of entries, which skips duplicates or audits them, too
abbrev pub entries_audited : Bool → AuditState → AuditStop → List NumberedEntry → SkippingAudit
entries_audited skips state end entries =
    if skips then audit_skipping state end entries
    else record { audited = audit_entries state end entries; duplicates = 0 }

-- the same of lines, numbered from this one on
abbrev pub lines_audited_by : Bool → AuditState → ℕ → List (List ℕ) → SkippingAudit
lines_audited_by skips state number lines =
    let stream = stream_of_lines false number lines in
    entries_audited skips state (stop_at stream.bad) stream.entries

-- the same of bytes
abbrev pub bytes_audited_by : Bool → AuditState → List ℕ → SkippingAudit
bytes_audited_by skips state bytes = lines_audited_by skips state 1 (lines_of bytes)

-- an audit ended so, and had skipped so many duplicates
pub record EndsSkipping (it : SkippingAudit) (why : AuditStop) (auditor : AuditorState) (count : ℕ) : Type 0 where
  pub ends : EndsAs it.audited why auditor
  pub duplicates : it.duplicates ≡ count

-- whatever audit the auditor stood for, its audit of the bytes, which may skip duplicates, ended so
abbrev pub AuditsBy : Bool → AuditorState → List ℕ → AuditStop → AuditorState → ℕ → Type 0
AuditsBy skips old bytes why new count =
    (state : AuditState) → StandsFor old state → EndsSkipping (bytes_audited_by skips state bytes) why new count

-- ---- the law: what is audited

-- the timestamp of the last event, after one more entry
abbrev pub last_after : ℕ → Content → ℕ
last_after last (content.Event e) = e.timestamp
last_after last content.End = last

-- the entries that are left: each of their events is later than the one before, and than this timestamp
unfoldable pub without_duplicates : ℕ → List NumberedEntry → List NumberedEntry
without_duplicates last [] = []
without_duplicates last (numbered ∷ rest) =
    if is_duplicate last numbered.entry.content then without_duplicates last rest
    else (numbered ∷ without_duplicates (last_after last numbered.entry.content) rest)

-- what is audited of entries is what is left of them without their duplicates
abbrev pub DuplicatesAreLeftOut : Type 0
DuplicatesAreLeftOut = (state : AuditState) (end : AuditStop) (entries : List NumberedEntry)
    → (audit_skipping state end entries).audited
    ≡ audit_entries state end (without_duplicates (last_timestamp state.past) entries)
