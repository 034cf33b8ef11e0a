-- What following a stream keeps, saves, counts and prints.
use Rattle.std.specs.Prelude.{◌≡◌, ℕ, List, take, if◌then◌else◌}
use Rattle.cdc_match.specs.Arguments.{Arguments}
use Rattle.cdc_follow.specs.Counts.{counts_of, counts_with, line_counts, no_counts, saturated}
use Rattle.cdc_follow.specs.Following.{FollowState, stops_at}
use Rattle.cdc_follow.specs.Lines.{lines_of}
use Rattle.cdc_follow.specs.Stops.{bytes_followed, lines_followed}
use Rattle.cdc_follow.specs.declared.counts.Counts.{Counts}
use Rattle.cdc_follow.specs.declared.entries.Entry.{Entry}
use Rattle.cdc_follow.specs.declared.follower.Following.{Following}
use Rattle.cdc_follow.specs.declared.streams.Rules.{Rules}
use Rattle.cdc_follow.specs.declared.streams.Stop.{Stop}
use Rattle.cdc_follow.specs.declared.streams.Taken.TheVariants as taken
use Rattle.cdc_follow_command.specs.declared.followers.FollowSetup.{FollowSetup}
use Rattle.cdc_follow_command.specs.declared.followers.Followed.{Followed}
use Rattle.cdc_follow_command.specs.declared.followers.StreamFollower.{StreamFollower}

-- what following has come to
abbrev pub followed_of : StreamFollower → Followed
followed_of it = record { follower = it.tracked.follower; counts = it.counts }

-- the same if no line was counted yet
abbrev pub begun_of : StreamFollower → Followed
begun_of it = record { follower = it.tracked.follower; counts = no_counts }

-- what following makes of the first so many lines of the bytes
abbrev pub kept_after : Arguments → Rules → FollowState → List ℕ → ℕ → FollowState
kept_after binding rules start bytes count =
    (lines_followed binding rules start 1 (take count (lines_of bytes))).state

-- how many of the first so many lines of the bytes came to what
abbrev pub counted_after : Arguments → Rules → FollowState → List ℕ → ℕ → Counts
counted_after binding rules start bytes count = line_counts binding rules start 1 (take count (lines_of bytes))

-- the counts with one more entry, of which this became: one at which following stops isn't counted
abbrev pub counts_after : Rules → Following → Entry → Counts → Counts
counts_after rules outcome entry counts =
    if stops_at rules.skips_gaps outcome then counts else counts_with saturated (taken.Entry entry outcome) counts

-- a follower keeps what following makes of the first so many lines of the bytes; and if no line was counted before,
-- these are counted
pub record KeepsAfter (setup : FollowSetup) (start : Followed) (bytes : List ℕ) (count : ℕ) (now : Followed)
    : Type 0 where
  pub keeps : now.follower ≡ kept_after setup.binding setup.rules start.follower bytes count
  pub counts : start.counts ≡ no_counts
      → now.counts ≡ counted_after setup.binding setup.rules start.follower bytes count

-- following the bytes makes this of a follower and stops for this reason; and if no line was counted before, those of
-- the bytes are counted
pub record StopsAt (setup : FollowSetup) (start : Followed) (bytes : List ℕ) (stop : Stop) (now : Followed)
    : Type 0 where
  pub followed : bytes_followed setup.binding setup.rules start.follower bytes
      ≡ record { state = now.follower; stop = stop }
  pub counts : start.counts ≡ no_counts → now.counts ≡ counts_of setup.binding setup.rules start.follower bytes

-- what is printed of a save, if this is printed of the counts and of the timestamp of the last event seen
abbrev pub prints_save_of : (Counts → ℕ → List ℕ) → FollowSetup → Followed → List ℕ
prints_save_of prints setup it = prints it.counts it.follower.seen

-- what is printed at the end, if this is printed of the counts, of the follower and of why it stopped
abbrev pub prints_end_of : (Counts → FollowState → Stop → List ℕ) → FollowSetup → Followed → Stop → List ℕ
prints_end_of prints setup it stop = prints it.counts it.follower stop
