-- What checked following of a stream keeps, saves, counts and prints.
use Rattle.std.specs.Prelude.{◌≡◌, ℕ, Bool, List, take}
use Rattle.cdc_match.specs.Arguments.{Arguments}
use Rattle.cdc_follow.specs.Counts.{no_counts}
use Rattle.cdc_follow.specs.Lines.{lines_of}
use Rattle.cdc_follow.specs.declared.counts.Counts.{Counts}
use Rattle.cdc_checked_follow.specs.declared.streams.CheckStop.{CheckStop}
use Rattle.cdc_checked_follow.specs.Checking.{CheckedState, lines_checked}
use Rattle.cdc_checked_follow.specs.Counts.{counts_of, line_counts}
use Rattle.cdc_checked_follow.specs.Standing.{CheckedFollowerState, StandsFor}
use Rattle.cdc_checked_follow.specs.Streams.{Checks}
use Rattle.cdc_checked_command.specs.declared.checkers.BoundFollower.{BoundFollower}
use Rattle.cdc_checked_command.specs.declared.checkers.CheckSetup.{CheckSetup}
use Rattle.cdc_checked_command.specs.declared.checkers.StreamChecker.{StreamChecker}

-- what following has come to
abbrev pub bound_of : StreamChecker → BoundFollower
bound_of it = it.bound

-- the same if no line was counted yet
abbrev pub begun_of : StreamChecker → BoundFollower
begun_of it = record it.bound { counts = no_counts }

-- only the follower and the counts have changed: the binding is the same
abbrev pub IsOf : BoundFollower → BoundFollower → Type 0
IsOf start now = now ≡ record start { follower = now.follower; counts = now.counts }

-- what was followed after the first so many lines of the bytes
abbrev pub checked_after : Bool → CheckedState → List ℕ → ℕ → CheckedState
checked_after skips state bytes count = (lines_checked skips state 1 (take count (lines_of bytes))).state

-- how many of the first so many lines of the bytes came to what
abbrev pub counted_after : Arguments → Bool → CheckedState → List ℕ → ℕ → Counts
counted_after binding skips state bytes count = line_counts binding skips state 1 (take count (lines_of bytes))

-- whatever a follower stood for, it stands for what was followed after the first so many lines of the bytes; and if no
-- line was counted before, these are counted
pub record StandsAfter (setup : CheckSetup) (start : BoundFollower) (bytes : List ℕ) (count : ℕ)
    (now : BoundFollower) : Type 0 where
  pub same : IsOf start now
  pub stands : (state : CheckedState) → StandsFor start.binding start.follower state
      → StandsFor start.binding now.follower (checked_after setup.skips_gaps state bytes count)
  pub counts : start.counts ≡ no_counts → (state : CheckedState) → StandsFor start.binding start.follower state
      → now.counts ≡ counted_after start.binding setup.skips_gaps state bytes count

-- whatever a follower stood for, these are the counts of the lines of the bytes
abbrev pub CountsLines : CheckSetup → BoundFollower → List ℕ → Counts → Type 0
CountsLines setup start bytes counts = (state : CheckedState) → StandsFor start.binding start.follower state
    → counts ≡ counts_of start.binding setup.skips_gaps state bytes

-- following the bytes makes this of a follower, and stops for this reason; and if no line was counted before, those of
-- the bytes are counted
pub record StopsAt (setup : CheckSetup) (start : BoundFollower) (bytes : List ℕ) (stop : CheckStop)
    (now : BoundFollower) : Type 0 where
  pub same : IsOf start now
  pub checks : Checks start.binding setup.skips_gaps start.follower bytes stop now.follower
  pub counts : start.counts ≡ no_counts → CountsLines setup start bytes now.counts

-- following the bytes makes this of a follower, and stops for this reason
abbrev pub FollowsTo : CheckSetup → BoundFollower → List ℕ → CheckStop → BoundFollower → Type 0
FollowsTo setup start bytes stop now =
    IsOf start now × Checks start.binding setup.skips_gaps start.follower bytes stop now.follower

-- what is printed of a save, if this is printed of the counts and of the greatest timestamp of an applied event
abbrev pub prints_save_of : (Counts → ℕ → List ℕ) → CheckSetup → BoundFollower → List ℕ
prints_save_of prints setup it = prints it.counts it.follower.last

-- what is printed at the end, if this is printed of the counts, of the follower and of why it stopped
abbrev pub prints_end_of : (Counts → CheckedFollowerState → CheckStop → List ℕ) → CheckSetup → BoundFollower
    → CheckStop → List ℕ
prints_end_of prints setup it stop = prints it.counts it.follower stop
