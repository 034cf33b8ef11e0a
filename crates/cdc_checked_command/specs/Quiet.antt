-- What checked following prints at the end without its book.
use Rattle.std.specs.Prelude.{ℕ, List, ◌++◌}
use Rattle.cdc_output.specs.Lines.{json_line}
use Rattle.cdc_follow.specs.declared.counts.Counts.{Counts}
use Rattle.cdc_checked_follow.specs.Standing.{CheckedFollowerState}
use Rattle.cdc_checked_follow.specs.declared.streams.CheckStop.{CheckStop}
use Rattle.cdc_checked_command.specs.JsonLines.{followed_value, stop_lines}
use Rattle.cdc_checked_command.specs.Texts.{stop_line}

-- why following stopped
abbrev pub quiet_text : CheckedFollowerState → CheckStop → List ℕ
quiet_text it stop = stop_line stop

-- why following stopped, and the counts of all lines
abbrev pub quiet_lines : Counts → CheckedFollowerState → CheckStop → List ℕ
quiet_lines counts it stop = stop_lines stop ++ json_line (followed_value counts)
