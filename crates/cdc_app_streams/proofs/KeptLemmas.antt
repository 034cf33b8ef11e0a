-- What holds of the last of some states.
use Rattle.std.proofs.Common.{◌≡◌, Option, None, Some, List, [], ◌∷◌, ◌++◌, Result, Ok, Err, OnOk, OnErr, ap, ◌∙◌}
use Rattle.std.specs.Prelude.{IfSome}
use Rattle.std.specs.Option.{option_map}
use Rattle.cdc_subscriber.specs.Book.{entries_of}
use Rattle.cdc_follow_command.specs.declared.followers.Followed.{Followed}
use Rattle.cdc_follow.specs.Following.{FollowState}
use Rattle.cdc_book_log.specs.Tracking.{IsSince, Leads}
use Rattle.cdc_follow_command.specs.declared.followers.FollowSetup.{FollowSetup}
use Rattle.cdc_follow_command.specs.declared.followers.StreamFollower.{StreamFollower}
use Rattle.cdc_app_streams.specs.declared.kept_book.RowBook.{RowBook}
use Rattle.cdc_app_streams.specs.KeptBooks.{HoldSame, HoldsBook, HoldsFollower, OfLast}
use Rattle.cdc_app_streams.specs.Private.Rows.{Fits, FitsRows}

-- what holds of one more holds of the last one
pub of_last : {S : Type 0} (Holds : S → Type 0) (states : List S) (state : S) → Holds state
    → OfLast Holds (states ++ state ∷ [])
of_last Holds [] state holds = holds
of_last Holds (one ∷ []) state holds = holds
of_last Holds (one ∷ two ∷ later) state holds = of_last Holds (two ∷ later) state holds

-- what holds of the last one still holds of it, if one fact follows from the other
of_last_still : {S : Type 0} (Holds Later : S → Type 0) → ((state : S) → Holds state → Later state) → (states : List S)
    → OfLast Holds states → OfLast Later states
of_last_still Holds Later on [] holds = tt
of_last_still Holds Later on (one ∷ []) holds = on one holds
of_last_still Holds Later on (one ∷ two ∷ more) holds = of_last_still Holds Later on (two ∷ more) holds

-- what follows from a success
pub after_ok : {E : Type 0} (r : Result (Unit {0}) E) (P Q : Type 0) → (P → Q) → OnOk r P → OnOk r Q
after_ok (Ok x) P Q f p = f p
after_ok (Err e) P Q f p = tt

-- what follows from an error
pub after_err : {E : Type 0} (r : Result (Unit {0}) E) (P Q : Type 0) → (P → Q) → OnErr r P → OnErr r Q
after_err (Ok x) P Q f p = tt
after_err (Err e) P Q f p = f p

-- stores that have last saved the same hold the same
pub same_books : (setup : FollowSetup) (old new : RowBook) (states : List Followed) → HoldSame old new
    → OfLast (HoldsBook setup old) states → OfLast (HoldsBook setup new) states
same_books setup old new states same holds =
    of_last_still (HoldsBook setup old) (HoldsBook setup new) (λ state it. (
      ap (option_map (λ text. text.items)) same.0 ∙ it.0,
      ap entries_of same.1 ∙ it.1,
    )) states holds

-- what changed since a follower was saved may be given next
pub fits_next : (setup : FollowSetup) (rows : RowBook) (past : FollowState) (next : StreamFollower)
    → HoldsFollower setup rows past → IsSince past next.tracked → FitsRows setup rows next
fits_next setup rows past next holds since = go next.tracked.changes since.changes
  where
    go : (changes : Option FollowState) → IfSome changes (λ change. Leads past change next.tracked.follower)
        → Fits setup rows changes next.tracked.follower
    go None leads = tt
    go (Some change) leads = (past, holds, leads)
