-- What `follow --checked --expect` prints: a JSON line of what comes of each line of a stream.
use Rattle.std.specs.Prelude.{ℕ, ◌+◌, min, length, Bool, List, [], ◌∷◌, ◌++◌, Some, None, codes, decimal}
use Rattle.cdc_types.specs.Widths.{max_64}
use Rattle.cdc_match.specs.Arguments.{Arguments}
use Rattle.cdc_follow.specs.declared.streams.Taken.TheVariants as taken
use Rattle.cdc_follow.specs.Lines.{lines_of}
use Rattle.cdc_audit.specs.Texts.{field_name, refusal_name}
use Rattle.cdc_audit.specs.declared.refusals.Mismatch.{Mismatch}
use Rattle.cdc_audit.specs.declared.refusals.Refusal.{Refusal}
use Rattle.cdc_audit.specs.declared.refusals.Refusal.TheVariants.{Balance, NotPending}
use Rattle.cdc_checked_follow.specs.declared.streams.CheckStop.{CheckStop}
use Rattle.cdc_checked_follow.specs.declared.streams.CheckStop.TheVariants.{AtEnd, Gap, BadLine}
use Rattle.cdc_checked_follow.specs.declared.turns.CheckTurn.{CheckTurn}
use Rattle.cdc_checked_follow.specs.declared.turns.CheckTurn.TheVariants.{GoesOn, Stops}
use Rattle.cdc_checked_follow.specs.Checking.{CheckedState}
use Rattle.cdc_checked_follow.specs.Standing.{CheckedFollowerState, greatest, taken_of}
use Rattle.cdc_checked_follow.specs.Turns.{line_state, line_turn}
use Rattle.cdc_expect.specs.declared.lines.Kept.{Kept}
use Rattle.cdc_expect.specs.Lines.{bad_line_text, entry_text, head_text, kept_text, result_text}

-- the members of a balance that doesn't follow: the account, the balance that is shown, and the one that is known, to
-- which the event adds this and of which it releases that
abbrev pub mismatch_text : Mismatch → List ℕ
mismatch_text m =
    (codes ",\"account\":\"" ++ decimal m.account)
    ++ (codes "\",\"field\":\"" ++ (field_name m.field
    ++ ((codes "\",\"shown\":\"" ++ decimal m.shown)
    ++ ((codes "\",\"before\":\"" ++ decimal m.before)
    ++ ((codes "\",\"added\":\"" ++ decimal m.added)
    ++ ((codes "\",\"released\":\"" ++ decimal m.released) ++ codes "\""))))))

-- the members of why an event is refused, besides the rule's name: those of a balance that doesn't follow, or the
-- pending transfer that isn't open
abbrev pub refusal_text : Refusal → List ℕ
refusal_text (Balance mismatch) = mismatch_text mismatch
refusal_text (NotPending id) = (codes ",\"transfer\":\"" ++ decimal id) ++ codes "\""
refusal_text _ = []

-- a line whose event is refused: its result is followed by the rule and its members
abbrev pub gap_text : ℕ → Refusal → Kept → List ℕ
gap_text number why kept =
    head_text number (codes "gap") ++ (codes ",\"rule\":\"" ++ (refusal_name why ++ (codes "\""
    ++ (refusal_text why ++ (kept_text kept ++ codes "]}\n")))))

-- the line of why following stops; none at the end
abbrev pub stop_text : CheckStop → Kept → List ℕ
stop_text AtEnd kept = []
stop_text (Gap line why) kept = gap_text line why kept
stop_text (BadLine line error) kept = bad_line_text line error kept

-- the line of what comes of the line of this number, after which this is kept
abbrev pub turn_text : ℕ → CheckTurn → Kept → List ℕ
turn_text number (GoesOn taken.Nothing why) kept = result_text number (codes "nothing") kept
turn_text number (GoesOn (taken.Entry entry made) None) kept = entry_text number entry.content made kept
turn_text number (GoesOn (taken.Entry entry made) (Some why)) kept = gap_text number why kept
turn_text number (Stops stop) kept = stop_text stop kept

-- what a line shows of a follower
abbrev pub kept_by : CheckedFollowerState → Kept
kept_by follower = record { applied = follower.applied; last = follower.last }

-- what a line shows of what was followed: how many of the applied events the binding takes, and the greatest timestamp
-- of an applied one
abbrev pub kept_of : Arguments → CheckedState → Kept
kept_of binding state = record {
  applied = min (length (taken_of binding state.applied)) max_64;
  last = greatest state.applied;
}

-- what was followed after a line of which this comes: a line at which following stops changes nothing
abbrev pub state_after : CheckTurn → CheckedState → List ℕ → CheckedState
state_after (GoesOn made why) state line = line_state state line
state_after (Stops stop) state line = state

-- the lines after one are printed if following goes on
abbrev pub text_after : CheckTurn → List ℕ → List ℕ
text_after (GoesOn made why) later = later
text_after (Stops stop) later = []

-- the lines of what comes of these lines, numbered from this one on
unfoldable pub numbered_text : Arguments → Bool → CheckedState → ℕ → List (List ℕ) → List ℕ
numbered_text binding skips state number [] = []
numbered_text binding skips state number (line ∷ rest) =
    turn_text number (line_turn binding skips state number line)
    (kept_of binding (state_after (line_turn binding skips state number line) state line))
    ++ text_after (line_turn binding skips state number line)
    (numbered_text binding skips (line_state state line) (number + 1) rest)

-- the lines of what comes of the lines of these bytes, numbered from this one on
abbrev pub lines_text : Arguments → Bool → CheckedState → ℕ → List ℕ → List ℕ
lines_text binding skips state number bytes = numbered_text binding skips state number (lines_of bytes)

-- all that is printed of these bytes
abbrev pub checked_text : Arguments → Bool → CheckedState → List ℕ → List ℕ
checked_text binding skips state bytes = lines_text binding skips state 1 bytes
