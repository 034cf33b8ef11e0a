-- What comes of each line of a stream that is checked, and what was followed after it.
use Rattle.std.specs.Prelude.{◌≡◌, ℕ, Bool, false, List, [], ◌∷◌, Option, Some, None, Result, Ok, Err, if◌then◌else◌}
use Rattle.cdc_match.specs.Arguments.{Arguments}
use Rattle.cdc_follow.specs.declared.entries.Content.{Content}
use Rattle.cdc_follow.specs.declared.entries.Content.TheVariants as content
use Rattle.cdc_follow.specs.declared.entries.Entry.{Entry}
use Rattle.cdc_follow.specs.declared.errors.LineError.{LineError}
use Rattle.cdc_follow.specs.declared.follower.Following.{Following}
use Rattle.cdc_follow.specs.declared.follower.Following.TheVariants.{Applied, PassedBy, Duplicate, Gap, Ended, OutOfRange}
use Rattle.cdc_follow.specs.declared.streams.Taken.{Taken}
use Rattle.cdc_follow.specs.declared.streams.Taken.TheVariants as taken
use Rattle.cdc_audit.specs.declared.refusals.Refusal.{Refusal}
use Rattle.cdc_follow.specs.Entries.{line_entry}
use Rattle.cdc_follow.specs.Lines.{lines_of}
use Rattle.cdc_checked_follow.specs.declared.follower.Checking.{Checking}
use Rattle.cdc_checked_follow.specs.declared.follower.Checking.TheVariants as checking
use Rattle.cdc_checked_follow.specs.declared.streams.CheckStop.{CheckStop}
use Rattle.cdc_checked_follow.specs.declared.streams.CheckStop.TheVariants.{AtEnd, BadLine}
use Rattle.cdc_checked_follow.specs.declared.turns.CheckTurn.{CheckTurn}
use Rattle.cdc_checked_follow.specs.declared.turns.CheckTurn.TheVariants.{GoesOn, Stops}
use Rattle.cdc_checked_follow.specs.Checking.{CheckedState, content_outcome, next_content, stop_for}
use Rattle.cdc_checked_follow.specs.Standing.{CheckedFollowerState, StandsFor, takes}

-- what becomes of an entry that is applied: the book has the event, or the binding doesn't take it
abbrev pub applied_as : Arguments → Content → Following
applied_as binding (content.Event e) = if takes binding e then Applied else PassedBy
applied_as binding content.End = Ended

-- what becomes of an entry, as a follower's counts have it: a late event is a duplicate, a refused one a gap
abbrev pub following_of : Arguments → Content → Checking → Following
following_of binding c checking.Applied = applied_as binding c
following_of binding c checking.Late = Duplicate
following_of binding c (checking.Refused why) = Gap
following_of binding c checking.Ended = Ended
following_of binding c checking.OutOfRange = OutOfRange

-- why an entry of which this becomes is refused, if it is
abbrev pub refusal_of : Checking → Option Refusal
refusal_of (checking.Refused why) = Some why
refusal_of _ = None

-- following stops at an entry, or it is taken so, and was refused for this reason, if at all
abbrev pub turn_by : Option CheckStop → Taken → Option Refusal → CheckTurn
turn_by None made why = GoesOn made why
turn_by (Some stop) made why = Stops stop

-- what comes of an entry of the line of this number
abbrev pub entry_turn : Arguments → Bool → CheckedState → ℕ → Entry → CheckTurn
entry_turn binding skips state number entry =
    turn_by (stop_for skips (content_outcome state entry.content) number)
    (taken.Entry entry (following_of binding entry.content (content_outcome state entry.content)))
    (refusal_of (content_outcome state entry.content))

-- what comes of the line of this number, by what it is read as
abbrev pub read_turn : Arguments → Bool → CheckedState → ℕ → Result (Option Entry) LineError → CheckTurn
read_turn binding skips state number (Ok None) = GoesOn taken.Nothing None
read_turn binding skips state number (Ok (Some entry)) = entry_turn binding skips state number entry
read_turn binding skips state number (Err error) = Stops (BadLine number error)

-- what comes of the line of this number
abbrev pub line_turn : Arguments → Bool → CheckedState → ℕ → List ℕ → CheckTurn
line_turn binding skips state number line = read_turn binding skips state number (line_entry false line)

-- what was followed after a line at which following doesn't stop, by what it is read as
abbrev pub read_state : CheckedState → Result (Option Entry) LineError → CheckedState
read_state state (Ok None) = state
read_state state (Ok (Some entry)) = next_content state entry.content
read_state state (Err error) = state

-- what was followed after a line at which following doesn't stop
abbrev pub line_state : CheckedState → List ℕ → CheckedState
line_state state line = read_state state (line_entry false line)

-- what comes of the first of these lines, which has this number; if there is none, following stops at the end
abbrev pub first_turn : Arguments → Bool → CheckedState → ℕ → List (List ℕ) → CheckTurn
first_turn binding skips state number [] = Stops AtEnd
first_turn binding skips state number (line ∷ rest) = line_turn binding skips state number line

-- why following stops at a line, if it does
abbrev pub stop_of : CheckTurn → Option CheckStop
stop_of (GoesOn made why) = None
stop_of (Stops stop) = Some stop

-- whatever the follower stood for, this comes of the line of this number
abbrev pub LineTurns : Arguments → Bool → ℕ → List ℕ → CheckedFollowerState → CheckTurn → Type 0
LineTurns binding skips number line old turn = (state : CheckedState) → StandsFor binding old state
    → turn ≡ line_turn binding skips state number line

-- whatever the follower stood for, this comes of the first line of bytes, which has this number
abbrev pub StepTurns : Arguments → Bool → ℕ → CheckedFollowerState → List ℕ → CheckTurn → Type 0
StepTurns binding skips number old bytes turn = (state : CheckedState) → StandsFor binding old state
    → turn ≡ first_turn binding skips state number (lines_of bytes)
