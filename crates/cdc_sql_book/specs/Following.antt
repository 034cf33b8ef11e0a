-- What following a stream has come to, if its saves are printed as SQL.
use Rattle.std.specs.Prelude.{◌≡◌, false}
use Rattle.cdc_follow.specs.Counts.{no_counts}
use Rattle.cdc_follow_command.specs.declared.followers.Followed.{Followed}
use Rattle.cdc_sql_book.specs.Recording.{IsRecordedSince, RecordedState}
use Rattle.cdc_sql_book.specs.declared.followers.SqlFollower.{SqlFollower}

-- what following has come to
abbrev pub followed_of : SqlFollower → Followed
followed_of it = record { follower = it.recorded.follower; counts = it.counts }

-- the same if no line was counted yet
abbrev pub begun_of : SqlFollower → Followed
begun_of it = record { follower = it.recorded.follower; counts = no_counts }

-- nothing was applied yet, and nothing saved
abbrev pub IsNew : RecordedState → Type 0
IsNew now = (now.is_saved ≡ false) × IsRecordedSince now.follower now
