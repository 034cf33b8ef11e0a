-- What becomes of a line. Cited by private contracts alone.
use Rattle.std.specs.Prelude.{◌≡◌, ℕ, ◌+◌, Bool, List, ◌∷◌, Option, Some}
use Rattle.cdc_follow.specs.LineParts.{HasNoFeed}
use Rattle.cdc_follow.specs.Lines.{lines_of}
use Rattle.cdc_audit.specs.Audits.{AuditState}
use Rattle.cdc_audit.specs.Standing.{AuditorState, StandsFor}
use Rattle.cdc_audit.specs.Stops.{IsTaken}
use Rattle.cdc_audit_command.specs.Duplicates.{EndsSkipping, lines_audited_by, skipping_more}
use Rattle.cdc_audit_command.specs.declared.turns.Turn.{Turn}
use Rattle.cdc_audit_command.specs.declared.turns.Turn.TheVariants.{Audited, Duplicate, Stops}

-- auditing goes on after the line of this number, whatever lines come after it; so many duplicates are skipped by it
pub record GoesPast (skips : Bool) (state : AuditState) (number : ℕ) (line : List ℕ) (count : ℕ)
    (auditor : AuditorState) : Type 0 where
  pub next : AuditState
  pub stands : StandsFor auditor next
  pub leads : (rest : List (List ℕ)) → lines_audited_by skips state number (line ∷ rest)
      ≡ skipping_more count (lines_audited_by skips next (number + 1) rest)

-- the same, whatever audit the auditor stood for
abbrev pub Passes : Bool → ℕ → List ℕ → ℕ → AuditorState → AuditorState → Type 0
Passes skips number line count old new =
    (state : AuditState) → StandsFor old state → GoesPast skips state number line count new

-- what becomes of the line of this number
abbrev pub LineTurns : Bool → ℕ → List ℕ → AuditorState → Turn → AuditorState → Type 0
LineTurns skips number line old Audited new = Passes skips number line 0 old new
LineTurns skips number line old Duplicate new = Passes skips number line 1 old new
LineTurns skips number line old (Stops stop) new = (state : AuditState) → StandsFor old state
    → (rest : List (List ℕ)) → EndsSkipping (lines_audited_by skips state number (line ∷ rest)) stop new 0

-- the first line of bytes, which has this number, is taken off, and auditing goes on after it
abbrev pub StepPasses : Bool → ℕ → AuditorState → List ℕ → ℕ → AuditorState → Option (List ℕ) → Type 0
StepPasses skips number old bytes count new left =
    (line : List ℕ) × (rest : List ℕ) × (left ≡ Some rest) × (lines_of bytes ≡ line ∷ lines_of rest)
    × Passes skips number line count old new

-- what becomes of the first line of bytes, which has this number
abbrev pub StepTurns : Bool → ℕ → AuditorState → List ℕ → Turn → AuditorState → Option (List ℕ) → Type 0
StepTurns skips number old bytes Audited new left = StepPasses skips number old bytes 0 new left
StepTurns skips number old bytes Duplicate new left = StepPasses skips number old bytes 1 new left
StepTurns skips number old bytes (Stops stop) new left = (state : AuditState) → StandsFor old state
    → EndsSkipping (lines_audited_by skips state number (lines_of bytes)) stop new 0

-- an auditor after a line: it is audited with that line; after any other turn it is as it was
abbrev pub Keeps : Turn → List ℕ → AuditorState → AuditorState → Type 0
Keeps Audited line old new = HasNoFeed line × IsTaken line old new
Keeps Duplicate line old new = new ≡ old
Keeps (Stops stop) line old new = new ≡ old
