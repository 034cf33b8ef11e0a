-- What `follow --expect` prints: a JSON line of what comes of each line of a stream.
use Rattle.std.specs.Prelude.{ℕ, ◌+◌, List, [], ◌∷◌, ◌++◌, codes}
use Rattle.cdc_match.specs.Arguments.{Arguments}
use Rattle.cdc_subscriber.specs.SubscriberState.{SubscriberState}
use Rattle.cdc_follow.specs.declared.streams.Rules.{Rules}
use Rattle.cdc_follow.specs.declared.streams.Stop.{Stop}
use Rattle.cdc_follow.specs.declared.streams.Stop.TheVariants.{AtEnd, Gap, AfterEnd, BadLine}
use Rattle.cdc_follow.specs.declared.streams.Taken.TheVariants as taken
use Rattle.cdc_follow.specs.declared.streams.Turn.{Turn}
use Rattle.cdc_follow.specs.declared.streams.Turn.TheVariants.{GoesOn, Stops}
use Rattle.cdc_follow.specs.Following.{FollowState}
use Rattle.cdc_follow.specs.Lines.{lines_of}
use Rattle.cdc_follow.specs.Turns.{line_state, line_turn}
use Rattle.cdc_expect.specs.declared.lines.Kept.{Kept}
use Rattle.cdc_expect.specs.Lines.{bad_line_text, entry_text, kept_by, result_text}

-- the line of why following stops; none at the end
abbrev pub stop_text : Stop → Kept → List ℕ
stop_text AtEnd kept = []
stop_text (Gap line entry) kept = result_text line (codes "gap") kept
stop_text (AfterEnd line entry) kept = result_text line (codes "after_end") kept
stop_text (BadLine line error) kept = bad_line_text line error kept

-- the line of what comes of the line of this number, after which this is kept
abbrev pub kept_turn_text : ℕ → Turn → Kept → List ℕ
kept_turn_text number (GoesOn taken.Nothing) kept = result_text number (codes "nothing") kept
kept_turn_text number (GoesOn (taken.Entry entry made)) kept = entry_text number entry.content made kept
kept_turn_text number (Stops stop) kept = stop_text stop kept

-- the same if a subscriber keeps this
abbrev pub turn_text : ℕ → Turn → SubscriberState → List ℕ
turn_text number turn kept = kept_turn_text number turn (kept_by kept)

-- the lines after one are printed if following goes on
abbrev pub text_after : Turn → List ℕ → List ℕ
text_after (GoesOn taken) later = later
text_after (Stops stop) later = []

-- the lines of what comes of these lines, numbered from this one on
unfoldable pub numbered_text : Arguments → Rules → FollowState → ℕ → List (List ℕ) → List ℕ
numbered_text binding rules state number [] = []
numbered_text binding rules state number (line ∷ rest) =
    turn_text number (line_turn binding rules state number line) (line_state binding rules state line).kept
    ++ text_after (line_turn binding rules state number line)
    (numbered_text binding rules (line_state binding rules state line) (number + 1) rest)

-- the lines of what comes of the lines of these bytes, numbered from this one on
abbrev pub lines_text : Arguments → Rules → FollowState → ℕ → List ℕ → List ℕ
lines_text binding rules state number bytes = numbered_text binding rules state number (lines_of bytes)

-- all that is printed of these bytes
abbrev pub expect_text : Arguments → Rules → FollowState → List ℕ → List ℕ
expect_text binding rules state bytes = lines_text binding rules state 1 bytes
