-- Checked following of a stream: what becomes of each entry, up to the one at which it stops.
use Rattle.std.specs.Prelude.{ℕ, Bool, true, false, nat_lt, List, [], ◌∷◌, Option, Some, None, if◌then◌else◌}
use Rattle.cdc_types.specs.declared.bounds.TheConstants.Limits.{TIMESTAMP}
use Rattle.cdc_types.specs.declared.events.Event.{Event}
use Rattle.cdc_follow.specs.declared.entries.Content.{Content}
use Rattle.cdc_follow.specs.declared.entries.Content.TheVariants as content
use Rattle.cdc_follow.specs.declared.errors.LineError.TheVariants.{TimestampOutOfRange}
use Rattle.cdc_follow.specs.Lines.{lines_of}
use Rattle.cdc_follow.specs.Streams as streams
use Rattle.cdc_follow.specs.Streams.{NumberedEntry, stream_of_lines}
use Rattle.cdc_checked.specs.declared.checker.Outcome.{Outcome}
use Rattle.cdc_checked.specs.declared.checker.Outcome.TheVariants as outcome
use Rattle.cdc_checked.specs.Based.{next_by}
use Rattle.cdc_checked.specs.Standing.{outcome_by}
use Rattle.cdc_checked_follow.specs.declared.follower.Checking.{Checking}
use Rattle.cdc_checked_follow.specs.declared.follower.Checking.TheVariants.{Applied, Late, Refused, Ended, OutOfRange}
use Rattle.cdc_checked_follow.specs.declared.streams.CheckStop.{CheckStop}
use Rattle.cdc_checked_follow.specs.declared.streams.CheckStop.TheVariants.{AtEnd, Gap, BadLine}

-- what was followed so far: the events that were applied, whether the end of the stream was received, and whether
-- events are applied by baseline
pub record CheckedState : Type 0 where
  pub applied : List Event
  pub ended : Bool
  pub baseline : Bool

-- nothing was followed yet, by baseline or not
abbrev pub begins_by : Bool → CheckedState
begins_by by_baseline = record { applied = []; ended = false; baseline = by_baseline }

abbrev pub begins : CheckedState
begins = begins_by false

-- what becomes of an event of which the checker makes this
abbrev pub checking_of : Outcome → Checking
checking_of outcome.Applied = Applied
checking_of outcome.Late = Late
checking_of (outcome.Refused why) = Refused why

-- an event's timestamp is above the greatest one of a ledger
abbrev pub is_out_of_range : Event → Bool
is_out_of_range e = nat_lt TIMESTAMP e.timestamp

-- what becomes of an end: the first one is received, and any other one is a duplicate
abbrev pub end_outcome : Bool → Checking
end_outcome false = Ended
end_outcome true = Late

-- what becomes of an entry
abbrev pub content_outcome : CheckedState → Content → Checking
content_outcome state (content.Event e) =
    if is_out_of_range e then OutOfRange else checking_of (outcome_by state.baseline state.applied e)
content_outcome state content.End = end_outcome state.ended

-- what was followed after an entry; the end changes nothing of what is applied after it, nor does a refused event
abbrev pub next_content : CheckedState → Content → CheckedState
next_content state (content.Event e) =
    if is_out_of_range e then state else record state { applied = next_by state.baseline state.applied e }
next_content state content.End = record state { ended = true }

-- why following stops at the line with an entry of which this becomes, if it does: at a refused event, unless these are
-- to be skipped, and at an event out of range
abbrev pub stop_for : Bool → Checking → ℕ → Option CheckStop
stop_for skips (Refused why) line = if skips then None else Some (Gap line why)
stop_for skips OutOfRange line = Some (BadLine line TimestampOutOfRange)
stop_for skips Applied line = None
stop_for skips Late line = None
stop_for skips Ended line = None

-- what was followed in the end, and why following stops
pub record Checked : Type 0 where
  pub state : CheckedState
  pub stop : CheckStop

-- following goes on, or stops
abbrev pub checked_on : Option CheckStop → CheckedState → Checked → Checked
checked_on None state later = later
checked_on (Some why) state later = record { state = state; stop = why }

-- following stops at the line that is no entry, or at the end
abbrev pub stop_at : Option streams.BadLine → CheckStop
stop_at None = AtEnd
stop_at (Some bad) = BadLine bad.line bad.error

-- following entries, after which the stream stops so
unfoldable pub check_entries : Bool → CheckedState → CheckStop → List NumberedEntry → Checked
check_entries skips state end [] = record { state = state; stop = end }
check_entries skips state end (numbered ∷ rest) =
    checked_on (stop_for skips (content_outcome state numbered.entry.content) numbered.line) state
    (check_entries skips (next_content state numbered.entry.content) end rest)

-- following lines, numbered from this one on; predecessors aren't looked at
abbrev pub lines_checked : Bool → CheckedState → ℕ → List (List ℕ) → Checked
lines_checked skips state number lines =
    let stream = stream_of_lines false number lines in
    check_entries skips state (stop_at stream.bad) stream.entries

-- following bytes
abbrev pub bytes_checked : Bool → CheckedState → List ℕ → Checked
bytes_checked skips state bytes = lines_checked skips state 1 (lines_of bytes)
