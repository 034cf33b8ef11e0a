-- What `follow` prints as JSON.
use Rattle.std.specs.Prelude.{ℕ, List, [], ◌++◌, codes, unwrap_or}
use Rattle.serde_json.specs.Data.{Data, Members, no_members, member}
use Rattle.cdc_output.specs.Values.{narrow, wide}
use Rattle.cdc_follow.specs.Following.{FollowState}
use Rattle.cdc_follow.specs.declared.counts.Counts.{Counts}
use Rattle.cdc_follow.specs.declared.entries.Entry.{Entry}
use Rattle.cdc_follow.specs.declared.streams.Stop.{Stop}
use Rattle.cdc_follow.specs.declared.streams.Stop.TheVariants.{AtEnd, Gap, AfterEnd, BadLine}
use Rattle.cdc_output.specs.Lines.{json_line, json_lines, line_of, subscriber_values}
use Rattle.cdc_streams.specs.Lines.{bad_line_value}

-- a gap before the entry of this line, where the last event seen has this timestamp
abbrev pub gap_value : ℕ → ℕ → Entry → Data
gap_value seen line entry =
    line_of (codes "gap") (
    member (codes "line") (narrow line) (
    member (codes "after") (wide (unwrap_or entry.previous 0)) (
    member (codes "expected_after") (wide seen)
    no_members)))

-- an entry of this line that contradicts the end, which came after the event of this timestamp
abbrev pub after_end_value : ℕ → ℕ → Data
after_end_value seen line =
    line_of (codes "after_end") (
    member (codes "line") (narrow line) (
    member (codes "ended_after") (wide seen)
    no_members))

-- the line of why following stopped; none at the end
abbrev pub stop_lines : ℕ → Stop → List ℕ
stop_lines seen AtEnd = []
stop_lines seen (Gap line entry) = json_line (gap_value seen line entry)
stop_lines seen (AfterEnd line entry) = json_line (after_end_value seen line)
stop_lines seen (BadLine line error) = json_line (bad_line_value line error)

-- the members of the counts of lines
abbrev pub count_members : Counts → Members
count_members counts =
    member (codes "applied") (narrow counts.applied) (
    member (codes "duplicates") (narrow counts.duplicates) (
    member (codes "passed") (narrow counts.passed) (
    member (codes "gaps_skipped") (narrow counts.gaps) (
    member (codes "lines_skipped") (narrow counts.lines_skipped)
    no_members))))

-- a save at which the last event seen has this timestamp, with the counts of the lines so far
abbrev pub saved_value : Counts → ℕ → Data
saved_value counts timestamp =
    line_of (codes "saved") (member (codes "timestamp") (wide timestamp) (count_members counts))

abbrev pub saved_lines : Counts → ℕ → List ℕ
saved_lines counts timestamp = json_line (saved_value counts timestamp)

-- the counts of all lines
abbrev pub followed_value : Counts → Data
followed_value counts = line_of (codes "followed") (count_members counts)

-- what is printed at the end: the subscriber with its book, why following stopped, and the counts of all lines
abbrev pub end_lines : Counts → FollowState → Stop → List ℕ
end_lines counts state stop =
    (json_lines (subscriber_values 1 state.kept) ++ stop_lines state.seen stop) ++ json_line (followed_value counts)
