-- How a follower's log is kept: the ghost members of a log, and their laws. Cited by no public contract.
use Rattle.std.proofs.Common.{◌≡◌, ℕ, List, [], length, Option, None, Some, sym, subst}
use Rattle.std.specs.Prelude.{IfSome, IsSomeAnd}
use Rattle.cdc_follow.specs.Following.{FollowState}
use Rattle.cdc_book_log.specs.Logs.{log_text}
use Rattle.cdc_book_log.specs.Replay.{replay}
use Rattle.cdc_book_log.specs.Tracking.{GoesOn, Leads}
use Rattle.cdc_streams.specs.Keeping.{last_text}
use Rattle.cdc_follow_command.specs.declared.books.BookLog.{BookLog}
use Rattle.cdc_follow_command.specs.declared.followers.FollowSetup.{FollowSetup}
use Rattle.cdc_follow_command.specs.declared.followers.StreamFollower.{StreamFollower}

-- a text is that of a log of this follower with so many records
abbrev pub HasRecords : FollowSetup → List ℕ → ℕ → FollowState → Type 0
HasRecords setup text records state =
    (base : FollowState) × (changes : List FollowState)
    × (text ≡ log_text setup.rules.chained setup.binding_text.items base changes)
    × (replay base changes ≡ state) × (records ≡ length changes)

-- the changes that are kept, if they are, lead from the follower of the last text to this one
abbrev pub Fits : FollowSetup → Option (List (List ℕ)) → ℕ → Option FollowState → FollowState → Type 0
Fits setup texts records changes now =
    IfSome changes (λ change. IfSome texts (λ held.
    (past : FollowState) × HasRecords setup (last_text held) records past × Leads past change now))

abbrev pub FitsLog : {L : Type 0} → (L → Option (List (List ℕ))) → FollowSetup → BookLog L → StreamFollower → Type 0
FitsLog texts setup log it = Fits setup (texts log.log.store) log.log.records it.tracked.changes it.tracked.follower

-- a follower that keeps no changes fits
pub fits_none : {L : Type 0} (texts : L → Option (List (List ℕ))) (setup : FollowSetup) (log : BookLog L)
    (it : StreamFollower) → it.tracked.changes ≡ None → FitsLog texts setup log it
fits_none texts setup log it none =
    subst (λ changes. Fits setup (texts log.log.store) log.log.records changes it.tracked.follower) (sym none) tt

-- one that goes on keeping its changes fits still
fits_later : (setup : FollowSetup) (texts : Option (List (List ℕ))) (records : ℕ) (was now : Option FollowState)
    (old new : FollowState)
    → IfSome now (λ later. IsSomeAnd was (λ change. (past : FollowState) → Leads past change old → Leads past later
    new))
    → Fits setup texts records was old → Fits setup texts records now new
fits_later setup texts records was None old new moves fits = tt
fits_later setup texts records None (Some later) old new moves fits = absurd moves
fits_later setup None records (Some change) (Some later) old new moves fits = tt
fits_later setup (Some held) records (Some change) (Some later) old new moves fits =
    (fits.0, fits.1, moves fits.0 fits.2)

pub goes_on : {L : Type 0} (texts : L → Option (List (List ℕ))) (setup : FollowSetup) (log : BookLog L)
    (old new : StreamFollower) → GoesOn old.tracked new.tracked → FitsLog texts setup log old
    → FitsLog texts setup log new
goes_on texts setup log old new moves fits =
    fits_later setup (texts log.log.store) log.log.records old.tracked.changes new.tracked.changes old.tracked.follower
    new.tracked.follower moves.changes fits
