-- What comes of each line of a stream, and what is kept after it.
use Rattle.std.specs.Prelude.{◌≡◌, ℕ, List, [], ◌∷◌, if◌then◌else◌, Option, Some, None, Result, Ok, Err}
use Rattle.cdc_match.specs.Arguments.{Arguments}
use Rattle.cdc_follow.specs.declared.entries.Entry.{Entry}
use Rattle.cdc_follow.specs.declared.errors.LineError.{LineError}
use Rattle.cdc_follow.specs.declared.streams.Rules.{Rules}
use Rattle.cdc_follow.specs.declared.streams.Stop.TheVariants.{AtEnd, BadLine}
use Rattle.cdc_follow.specs.declared.streams.Taken.TheVariants as taken
use Rattle.cdc_follow.specs.declared.streams.Turn.{Turn}
use Rattle.cdc_follow.specs.declared.streams.Turn.TheVariants.{GoesOn, Stops}
use Rattle.cdc_follow.specs.Entries.{line_entry}
use Rattle.cdc_follow.specs.Following.{FollowState, next_follow, outcome_of, stops_at}
use Rattle.cdc_follow.specs.Lines.{lines_of}
use Rattle.cdc_follow.specs.Stops.{stop_by}
use Rattle.cdc_follow.specs.Streams.{NumberedEntry}

-- what comes of an entry: following stops at it, or goes on
abbrev pub entry_turn : Arguments → Rules → FollowState → NumberedEntry → Turn
entry_turn binding rules state numbered =
    if stops_at rules.skips_gaps (outcome_of binding state numbered.entry)
    then Stops (stop_by (outcome_of binding state numbered.entry) numbered)
    else GoesOn (taken.Entry numbered.entry (outcome_of binding state numbered.entry))

-- what comes of the line of this number, by what it is read as
abbrev pub read_turn : Arguments → Rules → FollowState → ℕ → Result (Option Entry) LineError → Turn
read_turn binding rules state number (Ok None) = GoesOn taken.Nothing
read_turn binding rules state number (Ok (Some entry)) =
    entry_turn binding rules state (record { line = number; entry = entry })
read_turn binding rules state number (Err error) = Stops (BadLine number error)

-- what comes of the line of this number
abbrev pub line_turn : Arguments → Rules → FollowState → ℕ → List ℕ → Turn
line_turn binding rules state number line = read_turn binding rules state number (line_entry rules.chained line)

-- what is kept after a line, by what it is read as
abbrev pub read_state : Arguments → FollowState → Result (Option Entry) LineError → FollowState
read_state binding state (Ok None) = state
read_state binding state (Ok (Some entry)) = next_follow binding state entry
read_state binding state (Err error) = state

-- what is kept after a line
abbrev pub line_state : Arguments → Rules → FollowState → List ℕ → FollowState
line_state binding rules state line = read_state binding state (line_entry rules.chained line)

-- what comes of the first of these lines, which has this number; if there is none, following stops at the end
abbrev pub first_turn : Arguments → Rules → FollowState → ℕ → List (List ℕ) → Turn
first_turn binding rules state number [] = Stops AtEnd
first_turn binding rules state number (line ∷ rest) = line_turn binding rules state number line

-- what is kept after it
abbrev pub first_state : Arguments → Rules → FollowState → List (List ℕ) → FollowState
first_state binding rules state [] = state
first_state binding rules state (line ∷ rest) = line_state binding rules state line

-- this comes of the line of this number, and this is kept after it
pub record LineTurns (binding : Arguments) (rules : Rules) (number : ℕ) (line : List ℕ) (old : FollowState)
    (turn : Turn) (new : FollowState) : Type 0 where
  pub turn_is : turn ≡ line_turn binding rules old number line
  pub state_is : new ≡ line_state binding rules old line

-- the first line of bytes is taken off, unless following stops at it
abbrev pub TakesOff : Turn → List ℕ → Option (List ℕ) → Type 0
TakesOff (GoesOn taken) bytes left =
    (line : List ℕ) × (rest : List ℕ) × (left ≡ Some rest) × (lines_of bytes ≡ line ∷ lines_of rest)
TakesOff (Stops stop) bytes left = Unit {0}

-- this comes of the first line of bytes, which has this number, and this is kept after it
pub record StepTurns (binding : Arguments) (rules : Rules) (number : ℕ) (old : FollowState) (bytes : List ℕ)
    (turn : Turn) (new : FollowState) (left : Option (List ℕ)) : Type 0 where
  pub turn_is : turn ≡ first_turn binding rules old number (lines_of bytes)
  pub state_is : new ≡ first_state binding rules old (lines_of bytes)
  pub takes : TakesOff turn bytes left
