-- What an auditor makes of a stream of bytes.
use Rattle.std.specs.Prelude.{◌≡◌, ℕ, ◌+◌, List, ◌∷◌, take, Option, Some, None, false}
use Rattle.cdc_follow.specs.Lines.{lines_of}
use Rattle.cdc_follow.specs.Streams.{stream_of}
use Rattle.cdc_audit.specs.declared.streams.AuditStop.{AuditStop}
use Rattle.cdc_audit.specs.declared.streams.AuditStop.TheVariants.{AtEnd}
use Rattle.cdc_audit.specs.Audits.{AuditState, Audited, audit_entries, bytes_audited, lines_audited}
use Rattle.cdc_audit.specs.Standing.{AuditorState, StandsFor}

-- an audit ended so: it stops for this reason, and the auditor stands for what was audited
pub record EndsAs (audited : Audited) (why : AuditStop) (auditor : AuditorState) : Type 0 where
  pub stop : audited.stop ≡ why
  pub stands : StandsFor auditor audited.state

-- whatever audit the auditor stood for, its audit of the bytes ended so
abbrev pub Audits : AuditorState → List ℕ → AuditStop → AuditorState → Type 0
Audits old bytes stop new = (state : AuditState) → StandsFor old state → EndsAs (bytes_audited state bytes) stop new

-- whatever audit the auditor stood for, it stands for that of some number of the first entries of the bytes
abbrev pub KeepsFirst : AuditorState → List ℕ → AuditorState → Type 0
KeepsFirst old bytes new = (state : AuditState) → StandsFor old state → (count : ℕ)
    × StandsFor new (audit_entries state AtEnd (take count (stream_of false bytes).entries)).state

-- an audit goes on after the line of this number, whatever lines come after it, and the auditor stands for it
pub record GoesOn (state : AuditState) (number : ℕ) (line : List ℕ) (auditor : AuditorState) : Type 0 where
  pub next : AuditState
  pub stands : StandsFor auditor next
  pub leads : (rest : List (List ℕ))
      → lines_audited state number (line ∷ rest) ≡ lines_audited next (number + 1) rest

-- the line of this number is audited: the audit goes on after it, or stops at it whatever lines come after it
abbrev pub LineLeadsTo : ℕ → List ℕ → AuditorState → Option AuditStop → AuditorState → Type 0
LineLeadsTo number line old None new = (state : AuditState) → StandsFor old state → GoesOn state number line new
LineLeadsTo number line old (Some stop) new = (state : AuditState) → StandsFor old state
    → (rest : List (List ℕ)) → EndsAs (lines_audited state number (line ∷ rest)) stop new

-- a line is audited, whatever its number is, and the audit goes on after it
abbrev pub IsTaken : List ℕ → AuditorState → AuditorState → Type 0
IsTaken line old new = (number : ℕ) → LineLeadsTo number line old None new

-- the first line of bytes, which has this number, is audited and taken off; or the audit stops
abbrev pub StepLeadsTo : ℕ → AuditorState → List ℕ → Option AuditStop → AuditorState → Option (List ℕ) → Type 0
StepLeadsTo number old bytes None new left =
    (line : List ℕ) × (rest : List ℕ) × (left ≡ Some rest) × (lines_of bytes ≡ line ∷ lines_of rest)
    × LineLeadsTo number line old None new
StepLeadsTo number old bytes (Some stop) new left =
    (state : AuditState) → StandsFor old state → EndsAs (lines_audited state number (lines_of bytes)) stop new
