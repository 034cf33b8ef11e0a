-- Following a stream: what is kept in the end, and why following stops.
use Rattle.std.specs.Prelude.{◌≡◌, ℕ, ◌+◌, List, ◌∷◌, take, Bool, Option, Some, None}
use Rattle.cdc_match.specs.Arguments.{Arguments}
use Rattle.cdc_follow.specs.declared.errors.LineError.TheVariants.{TimestampOutOfRange}
use Rattle.cdc_follow.specs.declared.follower.Following.{Following}
use Rattle.cdc_follow.specs.declared.follower.Following.TheVariants as following
use Rattle.cdc_follow.specs.declared.streams.Rules.{Rules}
use Rattle.cdc_follow.specs.declared.streams.Stop.{Stop}
use Rattle.cdc_follow.specs.declared.streams.Stop.TheVariants.{AtEnd, Gap, AfterEnd, BadLine}
use Rattle.cdc_follow.specs.declared.streams.Turn.{Turn}
use Rattle.cdc_follow.specs.declared.streams.Turn.TheVariants.{GoesOn, Stops}
use Rattle.cdc_follow.specs.Following.{FollowState, Followed, follow, outcome_of}
use Rattle.cdc_follow.specs.Lines.{lines_of}
use Rattle.cdc_follow.specs.Streams as streams
use Rattle.cdc_follow.specs.Streams.{Stream, NumberedEntry, stream_of, stream_of_lines}

-- what is kept, and why following stops
pub record Stopped : Type 0 where
  pub state : FollowState
  pub stop : Stop

-- why following stops at an entry of which this becomes
abbrev pub stop_by : Following → NumberedEntry → Stop
stop_by following.AfterEnd numbered = AfterEnd numbered.line numbered.entry
stop_by following.OutOfRange numbered = BadLine numbered.line TimestampOutOfRange
stop_by _ numbered = Gap numbered.line numbered.entry

-- following stops at an entry, else at the line that is none, else at the end
abbrev pub stop_at : Arguments → FollowState → Option NumberedEntry → Option streams.BadLine → Stop
stop_at binding state (Some numbered) bad = stop_by (outcome_of binding state numbered.entry) numbered
stop_at binding state None (Some bad) = BadLine bad.line bad.error
stop_at binding state None None = AtEnd

abbrev pub stopped : Arguments → Followed → Option streams.BadLine → Stopped
stopped binding done bad = record { state = done.state; stop = stop_at binding done.state done.at bad }

-- what a follower makes of a stream
abbrev pub followed : Arguments → Bool → FollowState → Stream → Stopped
followed binding skips state stream = stopped binding (follow binding skips state stream.entries) stream.bad

-- what a follower makes of lines, numbered from this one on
abbrev pub lines_followed : Arguments → Rules → FollowState → ℕ → List (List ℕ) → Stopped
lines_followed binding rules state number lines =
    followed binding rules.skips_gaps state (stream_of_lines rules.chained number lines)

-- what a follower makes of bytes
abbrev pub bytes_followed : Arguments → Rules → FollowState → List ℕ → Stopped
bytes_followed binding rules state bytes = lines_followed binding rules state 1 (lines_of bytes)

-- what is kept is what following makes of some number of the first entries of the bytes, and of no others
abbrev pub KeepsFirst : Arguments → Rules → FollowState → List ℕ → FollowState → Type 0
KeepsFirst binding rules old bytes new = (count : ℕ)
    × (new ≡ (follow binding rules.skips_gaps old (take count (stream_of rules.chained bytes).entries)).state)

-- why following stops at a line, if it does
abbrev pub stop_of : Turn → Option Stop
stop_of (GoesOn taken) = None
stop_of (Stops stop) = Some stop

-- the line of this number leads from one state to the next, whatever lines come after it; or following stops at it
abbrev pub LineLeadsTo : Arguments → Rules → ℕ → List ℕ → FollowState → Option Stop → FollowState → Type 0
LineLeadsTo binding rules number line old None new = (rest : List (List ℕ))
    → lines_followed binding rules old number (line ∷ rest) ≡ lines_followed binding rules new (number + 1) rest
LineLeadsTo binding rules number line old (Some stop) new = (rest : List (List ℕ))
    → lines_followed binding rules old number (line ∷ rest) ≡ record { state = new; stop = stop }

-- the first line of bytes, which has this number, leads from one state to the next, and is taken off; or following
-- stops
abbrev pub StepLeadsTo : Arguments → Rules → ℕ → FollowState → List ℕ → Option Stop → FollowState → Option (List ℕ)
    → Type 0
StepLeadsTo binding rules number old bytes None new left =
    (line : List ℕ) × (rest : List ℕ) × (left ≡ Some rest) × (lines_of bytes ≡ line ∷ lines_of rest)
    × LineLeadsTo binding rules number line old None new
StepLeadsTo binding rules number old bytes (Some stop) new left =
    lines_followed binding rules old number (lines_of bytes) ≡ record { state = new; stop = stop }
