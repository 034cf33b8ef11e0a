-- Laws of audits that are saved and go on.
use Rattle.std.specs.Prelude.{◌≡◌, ℕ, ◌+◌, List, ◌∷◌, ◌++◌, [], length}
use Rattle.std.specs.List.{AllByRecursion}
use Rattle.cdc_message.specs.Widths.{EventFits}
use Rattle.cdc_follow.specs.Lines.{lines_of}
use Rattle.cdc_audit.specs.declared.streams.AuditStop.{AuditStop}
use Rattle.cdc_audit.specs.declared.streams.AuditStop.TheVariants as stop
use Rattle.cdc_audit.specs.Audits.{AuditState, Audited, bytes_audited}
use Rattle.cdc_audit.specs.Standing.{AuditorState, StandsFor}
use Rattle.cdc_audit_state.specs.Saveable.{AreDistinct, CanBeSaved}

-- what was audited has numbers of their fields' widths
abbrev pub PastFits : AuditState → Type 0
PastFits state = AllByRecursion EventFits state.past

-- so it is after any bytes
abbrev pub AuditedEventsFit : Type 0
AuditedEventsFit = (state : AuditState) (bytes : List ℕ) → PastFits state → PastFits (bytes_audited state bytes).state

-- an auditor that stands for such an audit can be saved, since a map keeps no key twice
abbrev pub AuditsCanBeSaved : Type 0
AuditsCanBeSaved = (auditor : AuditorState) (state : AuditState) → StandsFor auditor state → PastFits state
    → AreDistinct auditor.transfers → AreDistinct auditor.open_ones → AreDistinct auditor.fields
    → CanBeSaved auditor

-- where an audit stops, if its lines are numbered so many later
abbrev pub later_stop : ℕ → AuditStop → AuditStop
later_stop count stop.AtEnd = stop.AtEnd
later_stop count (stop.Refused line why) = stop.Refused (line + count) why
later_stop count (stop.BadLine line error) = stop.BadLine (line + count) error

abbrev pub later_by : ℕ → Audited → Audited
later_by count audited = record { state = audited.state; stop = later_stop count audited.stop }

-- Bytes are cut after a line feed. If the first part is accepted, auditing the whole comes to what auditing the second
-- part comes to, from what was audited of the first one; only the number of the line at which it stops is that in the
-- second part.
abbrev pub AuditsGoOn : Type 0
AuditsGoOn = (state : AuditState) (front rest : List ℕ) → (bytes_audited state (front ++ 10 ∷ [])).stop ≡ stop.AtEnd
    → bytes_audited state (front ++ 10 ∷ rest)
    ≡ later_by (length (lines_of (front ++ 10 ∷ [])))
    (bytes_audited (bytes_audited state (front ++ 10 ∷ [])).state rest)
