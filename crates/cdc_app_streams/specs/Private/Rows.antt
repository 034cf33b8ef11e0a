-- What may be given to a store of rows next. Cited by no public contract.
use Rattle.std.proofs.Common.{◌≡◌, Option, None, Some, sym, subst}
use Rattle.std.specs.Prelude.{IfSome, IsSomeAnd}
use Rattle.cdc_follow.specs.Following.{FollowState}
use Rattle.cdc_book_log.specs.Tracking.{GoesOn, Leads}
use Rattle.cdc_follow_command.specs.declared.followers.FollowSetup.{FollowSetup}
use Rattle.cdc_follow_command.specs.declared.followers.StreamFollower.{StreamFollower}
use Rattle.cdc_app_streams.specs.declared.kept_book.RowBook.{RowBook}
use Rattle.cdc_app_streams.specs.KeptBooks.{HoldsFollower}

-- the changes that are kept, if they are, lead from the follower that the rows have to this one
abbrev pub Fits : FollowSetup → RowBook → Option FollowState → FollowState → Type 0
Fits setup rows changes now =
    IfSome changes (λ change. (past : FollowState) × HoldsFollower setup rows past × Leads past change now)

abbrev pub FitsRows : FollowSetup → RowBook → StreamFollower → Type 0
FitsRows setup rows it = Fits setup rows it.tracked.changes it.tracked.follower

-- a follower that keeps no changes fits
pub fits_untracked : (setup : FollowSetup) (rows : RowBook) (it : StreamFollower) → it.tracked.changes ≡ None
    → FitsRows setup rows it
fits_untracked setup rows it none =
    subst (λ changes. Fits setup rows changes it.tracked.follower) (sym none) tt

-- one that goes on keeping its changes fits still
later : (setup : FollowSetup) (rows : RowBook) (was now : Option FollowState) (old new : FollowState)
    → IfSome now (λ after. IsSomeAnd was (λ change. (past : FollowState) → Leads past change old
    → Leads past after new))
    → Fits setup rows was old → Fits setup rows now new
later setup rows was None old new moves fits = tt
later setup rows None (Some after) old new moves fits = absurd moves
later setup rows (Some change) (Some after) old new moves fits = (fits.0, fits.1, moves fits.0 fits.2)

pub fits_later : (setup : FollowSetup) (rows : RowBook) (old new : StreamFollower)
    → GoesOn old.tracked new.tracked → FitsRows setup rows old → FitsRows setup rows new
fits_later setup rows old new moves fits =
    later setup rows old.tracked.changes new.tracked.changes old.tracked.follower new.tracked.follower moves.changes
    fits
