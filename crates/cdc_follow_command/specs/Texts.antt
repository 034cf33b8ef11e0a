-- What `follow` prints as text.
use Rattle.std.specs.Prelude.{ℕ, List, [], ◌++◌, codes, decimal, unwrap_or}
use Rattle.cdc_subscriber.specs.Lines.{subscriber_text}
use Rattle.cdc_follow.specs.Following.{FollowState}
use Rattle.cdc_follow.specs.declared.streams.Stop.{Stop}
use Rattle.cdc_follow.specs.declared.streams.Stop.TheVariants.{AtEnd, Gap, AfterEnd, BadLine}
use Rattle.cdc_streams.specs.Lines.{bad_line_text}

-- the line of an entry that contradicts the end, which came after the event of this timestamp
abbrev pub after_end_line : ℕ → ℕ → List ℕ
after_end_line seen line =
    (codes "after_end: line " ++ decimal line) ++ ((codes ": ended after " ++ decimal seen) ++ codes "\n")

-- the line of why following stopped, where the last event seen has this timestamp; none at the end
abbrev pub stop_line : ℕ → Stop → List ℕ
stop_line seen AtEnd = []
stop_line seen (Gap line entry) =
    (codes "gap: line " ++ decimal line) ++ ((codes ": after " ++ decimal (unwrap_or entry.previous 0))
    ++ ((codes ", expected after " ++ decimal seen) ++ codes "\n"))
stop_line seen (AfterEnd line entry) = after_end_line seen line
stop_line seen (BadLine line error) = bad_line_text line error

-- what is printed at the end: the subscriber with its book, and why following stopped
abbrev pub end_text : FollowState → Stop → List ℕ
end_text state stop = subscriber_text 1 state.kept ++ stop_line state.seen stop
