-- The lines that an auditor keeps, and how its log is kept: ghost members and their laws. Cited by no public contract.
use Rattle.std.proofs.Common.{◌≡◌, ◌⊎◌, ◌++◌, ◌∷◌, ℕ, List, [], length, Option, None, Some, sym, subst}
use Rattle.std.specs.Prelude.{IfSome, IsSomeAnd}
use Rattle.std.specs.declared.vec.Vec.{Vec}
use Rattle.std.specs.declared.alloc.Global.{Global}
use Rattle.cdc_audit.specs.declared.streams.AuditStop.TheVariants.{AtEnd}
use Rattle.cdc_audit.specs.Standing.{AuditorState}
use Rattle.cdc_audit.specs.Stops.{Audits}
use Rattle.cdc_audit_state.specs.Logs.{Replays, log_text}
use Rattle.cdc_streams.specs.Keeping.{last_text}
use Rattle.cdc_audit_command.specs.declared.auditors.AuditSetup.{AuditSetup}
use Rattle.cdc_audit_command.specs.declared.auditors.StreamAuditor.{StreamAuditor}
use Rattle.cdc_audit_command.specs.declared.states.StateLog.{StateLog}

-- the last line of these bytes, if there is one, has its line feed
abbrev pub AreWhole : List ℕ → Type 0
AreWhole bytes = (bytes ≡ []) ⊎ ((front : List ℕ) × (bytes ≡ front ++ 10 ∷ []))

-- auditing these lines makes of one auditor another one
abbrev pub Leads : AuditorState → List ℕ → AuditorState → Type 0
Leads past lines now = AreWhole lines × Audits past lines AtEnd now

-- the auditor was this one once, and if it kept its lines since, they lead from the one to the other
abbrev pub IsSince : AuditorState → StreamAuditor → Type 0
IsSince past now = IfSome now.lines (λ lines. Leads past lines.items now.auditor)

-- from one auditor to a later one: if this keeps its lines, so did that, and they lead to it from where they did
abbrev pub GoesOn : StreamAuditor → StreamAuditor → Type 0
GoesOn old new =
    IfSome new.lines (λ later. IsSomeAnd old.lines (λ lines. (past : AuditorState)
    → Leads past lines.items old.auditor → Leads past later.items new.auditor))

-- a text is that of a log with so many records, whose replay is this auditor
abbrev pub HasRecords : List ℕ → ℕ → AuditorState → Type 0
HasRecords text count auditor =
    (base : AuditorState) × (records : List (List ℕ)) × (text ≡ log_text base records) × Replays base records auditor
    × (count ≡ length records)

-- the lines that are kept, if they are, lead from the auditor of the last text to this one
abbrev pub Fits : Option (List (List ℕ)) → ℕ → Option (Vec ℕ Global) → AuditorState → Type 0
Fits texts count kept now =
    IfSome kept (λ lines. IfSome texts (λ held.
    (past : AuditorState) × HasRecords (last_text held) count past × Leads past lines.items now))

abbrev pub FitsLog : {L : Type 0} → (L → Option (List (List ℕ))) → AuditSetup → StateLog L → StreamAuditor → Type 0
FitsLog texts setup state it = Fits (texts state.log.store) state.log.records it.lines it.auditor

-- an auditor that keeps no lines fits
pub fits_none : {L : Type 0} (texts : L → Option (List (List ℕ))) (setup : AuditSetup) (state : StateLog L)
    (it : StreamAuditor) → it.lines ≡ None → FitsLog texts setup state it
fits_none texts setup state it none =
    subst (λ kept. Fits (texts state.log.store) state.log.records kept it.auditor) (sym none) tt

-- one that goes on keeping its lines fits still
fits_later : (texts : Option (List (List ℕ))) (count : ℕ) (was now : Option (Vec ℕ Global)) (old new : AuditorState)
    → IfSome now (λ later. IsSomeAnd was (λ lines. (past : AuditorState) → Leads past lines.items old
    → Leads past later.items new))
    → Fits texts count was old → Fits texts count now new
fits_later texts count was None old new moves fits = tt
fits_later texts count None (Some later) old new moves fits = absurd moves
fits_later None count (Some lines) (Some later) old new moves fits = tt
fits_later (Some held) count (Some lines) (Some later) old new moves fits = (fits.0, fits.1, moves fits.0 fits.2)

pub fits_on : {L : Type 0} (texts : L → Option (List (List ℕ))) (setup : AuditSetup) (state : StateLog L)
    (old new : StreamAuditor) → GoesOn old new → FitsLog texts setup state old → FitsLog texts setup state new
fits_on texts setup state old new moves fits =
    fits_later (texts state.log.store) state.log.records old.lines new.lines old.auditor new.auditor moves fits
