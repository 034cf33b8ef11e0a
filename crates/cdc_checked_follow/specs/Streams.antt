-- What a checked follower makes of a stream of bytes.
use Rattle.std.specs.Prelude.{◌≡◌, ℕ, ◌+◌, List, ◌∷◌, take, Bool, true, false, Option, Some, None}
use Rattle.cdc_match.specs.Arguments.{Arguments}
use Rattle.cdc_follow.specs.Lines.{lines_of}
use Rattle.cdc_follow.specs.Streams.{stream_of}
use Rattle.cdc_checked_follow.specs.declared.streams.CheckStop.{CheckStop}
use Rattle.cdc_checked_follow.specs.declared.streams.CheckStop.TheVariants.{AtEnd}
use Rattle.cdc_checked_follow.specs.Checking.{Checked, CheckedState, bytes_checked, check_entries, lines_checked}
use Rattle.cdc_checked_follow.specs.Standing.{CheckedFollowerState, StandsFor}
use Rattle.cdc_checked_follow.specs.Turns.{line_state}

-- following ended so: it stops for this reason, and the follower stands for what was followed
pub record EndsAs (binding : Arguments) (followed : Checked) (why : CheckStop) (follower : CheckedFollowerState)
    : Type 0 where
  pub stop : followed.stop ≡ why
  pub stands : StandsFor binding follower followed.state

-- whatever the follower stood for, following the bytes ended so
abbrev pub Checks : Arguments → Bool → CheckedFollowerState → List ℕ → CheckStop → CheckedFollowerState → Type 0
Checks binding skips old bytes stop new = (state : CheckedState) → StandsFor binding old state
    → EndsAs binding (bytes_checked skips state bytes) stop new

-- whatever the follower stood for, it stands for what follows by some number of the first entries of the bytes
abbrev pub KeepsFirst : Arguments → Bool → CheckedFollowerState → List ℕ → CheckedFollowerState → Type 0
KeepsFirst binding skips old bytes new = (state : CheckedState) → StandsFor binding old state → (count : ℕ)
    × StandsFor binding new (check_entries skips state AtEnd (take count (stream_of false bytes).entries)).state

-- following goes on after the line of this number, whatever lines come after it, and the follower stands for what was
-- followed then
pub record GoesOn (binding : Arguments) (skips : Bool) (state : CheckedState) (number : ℕ) (line : List ℕ)
    (follower : CheckedFollowerState) : Type 0 where
  pub next : CheckedState
  pub next_is : next ≡ line_state state line
  pub stands : StandsFor binding follower next
  pub leads : (rest : List (List ℕ))
      → lines_checked skips state number (line ∷ rest) ≡ lines_checked skips next (number + 1) rest

-- the line of this number is followed: following goes on after it, or stops at it whatever lines come after it
abbrev pub LineLeadsTo : Arguments → Bool → ℕ → List ℕ → CheckedFollowerState → Option CheckStop
    → CheckedFollowerState → Type 0
LineLeadsTo binding skips number line old None new = (state : CheckedState) → StandsFor binding old state
    → GoesOn binding skips state number line new
LineLeadsTo binding skips number line old (Some stop) new = (state : CheckedState) → StandsFor binding old state
    → (rest : List (List ℕ)) → EndsAs binding (lines_checked skips state number (line ∷ rest)) stop new

-- a line is followed, whatever its number is, and following goes on after it, whether gaps are skipped or not
abbrev pub IsTaken : Arguments → List ℕ → CheckedFollowerState → CheckedFollowerState → Type 0
IsTaken binding line old new = (number : ℕ) → LineLeadsTo binding true number line old None new

-- the first line of bytes, which has this number, is followed and taken off; or following stops
abbrev pub StepLeadsTo : Arguments → Bool → ℕ → CheckedFollowerState → List ℕ → Option CheckStop
    → CheckedFollowerState → Option (List ℕ) → Type 0
StepLeadsTo binding skips number old bytes None new left =
    (line : List ℕ) × (rest : List ℕ) × (left ≡ Some rest) × (lines_of bytes ≡ line ∷ lines_of rest)
    × LineLeadsTo binding skips number line old None new
StepLeadsTo binding skips number old bytes (Some stop) new left = (state : CheckedState)
    → StandsFor binding old state → EndsAs binding (lines_checked skips state number (lines_of bytes)) stop new
