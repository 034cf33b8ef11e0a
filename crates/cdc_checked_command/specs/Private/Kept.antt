-- The lines that a checker of a stream keeps, and how its log is kept: ghost members and their laws. Cited by no public
-- contract.
use Rattle.std.proofs.Common.{◌≡◌, ◌⊎◌, ◌++◌, ◌∷◌, ℕ, List, [], length, Option, None, Some, true, sym, subst}
use Rattle.std.specs.Prelude.{IfSome, IsSomeAnd}
use Rattle.std.specs.declared.vec.Vec.{Vec}
use Rattle.std.specs.declared.alloc.Global.{Global}
use Rattle.cdc_checked_follow.specs.declared.streams.CheckStop.TheVariants.{AtEnd}
use Rattle.cdc_checked_follow.specs.Standing.{CheckedFollowerState}
use Rattle.cdc_checked_follow.specs.Streams.{Checks}
use Rattle.cdc_checked_state.specs.Logs.{Replays, log_text}
use Rattle.cdc_streams.specs.Keeping.{last_text}
use Rattle.cdc_checked_command.specs.Following.{IsOf}
use Rattle.cdc_checked_command.specs.declared.books.CheckedLog.{CheckedLog}
use Rattle.cdc_checked_command.specs.declared.checkers.BoundFollower.{BoundFollower}
use Rattle.cdc_checked_command.specs.declared.checkers.CheckSetup.{CheckSetup}
use Rattle.cdc_checked_command.specs.declared.checkers.StreamChecker.{StreamChecker}

-- the last line of these bytes, if there is one, has its line feed
abbrev pub AreWhole : List ℕ → Type 0
AreWhole bytes = (bytes ≡ []) ⊎ ((front : List ℕ) × (bytes ≡ front ++ 10 ∷ []))

-- following these lines makes of one follower another one, of the same binding
abbrev pub Leads : BoundFollower → List ℕ → BoundFollower → Type 0
Leads past lines now = AreWhole lines × IsOf past now × Checks past.binding true past.follower lines AtEnd now.follower

-- the follower was this one once, and if its lines since were kept, they lead from the one to the other
abbrev pub IsSince : BoundFollower → StreamChecker → Type 0
IsSince past now = IfSome now.lines (λ lines. Leads past lines.items now.bound)

-- from one checker to a later one: if this keeps its lines, so did that, and they lead to it from where they did
abbrev pub GoesOn : StreamChecker → StreamChecker → Type 0
GoesOn old new =
    IfSome new.lines (λ later. IsSomeAnd old.lines (λ lines. (past : BoundFollower)
    → Leads past lines.items old.bound → Leads past later.items new.bound))

-- a text is that of a log with so many records, whose replay is this follower
abbrev pub HasRecords : List ℕ → ℕ → BoundFollower → Type 0
HasRecords text count it =
    (base : CheckedFollowerState) × (records : List (List ℕ)) × (text ≡ log_text it.binding_text.items base records)
    × Replays it.binding base records it.follower × (count ≡ length records)

-- the lines that are kept, if they are, lead from the follower of the last text to this one
abbrev pub Fits : Option (List (List ℕ)) → ℕ → Option (Vec ℕ Global) → BoundFollower → Type 0
Fits texts count kept now =
    IfSome kept (λ lines. IfSome texts (λ held.
    (past : BoundFollower) × HasRecords (last_text held) count past × Leads past lines.items now))

abbrev pub FitsLog : {L : Type 0} → (L → Option (List (List ℕ))) → CheckSetup → CheckedLog L → StreamChecker → Type 0
FitsLog texts setup state it = Fits (texts state.log.store) state.log.records it.lines it.bound

-- a checker that keeps no lines fits
pub fits_none : {L : Type 0} (texts : L → Option (List (List ℕ))) (setup : CheckSetup) (state : CheckedLog L)
    (it : StreamChecker) → it.lines ≡ None → FitsLog texts setup state it
fits_none texts setup state it none =
    subst (λ kept. Fits (texts state.log.store) state.log.records kept it.bound) (sym none) tt

-- one that goes on keeping its lines fits still
fits_later : (texts : Option (List (List ℕ))) (count : ℕ) (was now : Option (Vec ℕ Global)) (old new : BoundFollower)
    → IfSome now (λ later. IsSomeAnd was (λ lines. (past : BoundFollower) → Leads past lines.items old
    → Leads past later.items new))
    → Fits texts count was old → Fits texts count now new
fits_later texts count was None old new moves fits = tt
fits_later texts count None (Some later) old new moves fits = absurd moves
fits_later None count (Some lines) (Some later) old new moves fits = tt
fits_later (Some held) count (Some lines) (Some later) old new moves fits = (fits.0, fits.1, moves fits.0 fits.2)

pub fits_on : {L : Type 0} (texts : L → Option (List (List ℕ))) (setup : CheckSetup) (state : CheckedLog L)
    (old new : StreamChecker) → GoesOn old new → FitsLog texts setup state old → FitsLog texts setup state new
fits_on texts setup state old new moves fits =
    fits_later (texts state.log.store) state.log.records old.lines new.lines old.bound new.bound moves fits
