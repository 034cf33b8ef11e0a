-- What `follow` prints at the end without its book.
use Rattle.std.specs.Prelude.{ℕ, List, ◌++◌}
use Rattle.cdc_output.specs.Lines.{json_line}
use Rattle.cdc_follow.specs.Following.{FollowState}
use Rattle.cdc_follow.specs.declared.counts.Counts.{Counts}
use Rattle.cdc_follow.specs.declared.streams.Stop.{Stop}
use Rattle.cdc_follow_command.specs.JsonLines.{followed_value, stop_lines}
use Rattle.cdc_follow_command.specs.Texts.{stop_line}

-- why following stopped
abbrev pub quiet_text : FollowState → Stop → List ℕ
quiet_text state stop = stop_line state.seen stop

-- why following stopped, and the counts of all lines
abbrev pub quiet_lines : Counts → FollowState → Stop → List ℕ
quiet_lines counts state stop = stop_lines state.seen stop ++ json_line (followed_value counts)
