-- Auditing a stream: its events up to the first one that doesn't follow from those before it.
use Rattle.std.specs.Prelude.{ℕ, Bool, true, false, ◌&&◌, is_none, List, [], ◌∷◌, ◌++◌, Option, Some, None, if◌then◌else◌}
use Rattle.cdc_types.specs.declared.events.Event.{Event}
use Rattle.cdc_follow.specs.declared.entries.Content.{Content}
use Rattle.cdc_follow.specs.declared.entries.Content.TheVariants as content
use Rattle.cdc_follow.specs.Streams.{BadLine, NumberedEntry, stream_of_lines}
use Rattle.cdc_follow.specs.Lines.{lines_of}
use Rattle.cdc_audit.specs.declared.refusals.Refusal.{Refusal}
use Rattle.cdc_audit.specs.declared.refusals.Refusal.TheVariants.{AfterEnd}
use Rattle.cdc_audit.specs.declared.streams.AuditStop.{AuditStop}
use Rattle.cdc_audit.specs.declared.streams.AuditStop.TheVariants as stop
use Rattle.cdc_audit.specs.Foreign.{audited_event}
use Rattle.cdc_audit.specs.Rules.{refusal, refusal_of}

-- each of these events follows from those before it, the first ones after these
unfoldable pub follows_on : List Event → List Event → Bool
follows_on past [] = true
follows_on past (e ∷ rest) = is_none (refusal past e) && follows_on (past ++ e ∷ []) rest

-- the events are accepted
abbrev pub is_accepted : List Event → Bool
is_accepted events = follows_on [] events

-- what was audited so far: whether it is another ledger's stream, the events, all of them accepted, and whether the end
-- of the stream was received
pub record AuditState : Type 0 where
  pub foreign : Bool
  pub past : List Event
  pub ended : Bool

-- nothing was audited yet
abbrev pub begins : Bool → AuditState
begins foreign = record { foreign = foreign; past = []; ended = false }

-- why an event is refused, if it is
abbrev pub event_refusal : AuditState → Event → Option Refusal
event_refusal state e = if state.ended then Some (AfterEnd e.timestamp) else refusal_of state.foreign state.past e

-- what was audited after an event that is accepted
abbrev pub with_event : AuditState → Event → AuditState
with_event state e = record state { past = state.past ++ e ∷ [] }

-- why an entry is refused, if it is; a second end isn't
abbrev pub entry_refusal : AuditState → Content → Option Refusal
entry_refusal state (content.Event e) = event_refusal state (audited_event state.foreign e)
entry_refusal state content.End = None

-- what was audited after an entry that is accepted
abbrev pub next_audit : AuditState → Content → AuditState
next_audit state (content.Event e) = with_event state (audited_event state.foreign e)
next_audit state content.End = record state { ended = true }

-- what was audited in the end, and why auditing stops
pub record Audited : Type 0 where
  pub state : AuditState
  pub stop : AuditStop

-- auditing goes on, or stops at an entry that is refused
abbrev pub audited_on : Option Refusal → ℕ → AuditState → Audited → Audited
audited_on None line state later = later
audited_on (Some why) line state later = record { state = state; stop = stop.Refused line why }

-- auditing stops at the line that is no entry, or at the end
abbrev pub stop_at : Option BadLine → AuditStop
stop_at None = stop.AtEnd
stop_at (Some bad) = stop.BadLine bad.line bad.error

-- the audit of entries, after which the stream stops so
unfoldable pub audit_entries : AuditState → AuditStop → List NumberedEntry → Audited
audit_entries state end [] = record { state = state; stop = end }
audit_entries state end (numbered ∷ rest) =
    audited_on (entry_refusal state numbered.entry.content) numbered.line state
    (audit_entries (next_audit state numbered.entry.content) end rest)

-- the audit of lines, numbered from this one on; predecessors aren't looked at
abbrev pub lines_audited : AuditState → ℕ → List (List ℕ) → Audited
lines_audited state number lines =
    let stream = stream_of_lines false number lines in
    audit_entries state (stop_at stream.bad) stream.entries

-- the audit of bytes
abbrev pub bytes_audited : AuditState → List ℕ → Audited
bytes_audited state bytes = lines_audited state 1 (lines_of bytes)
