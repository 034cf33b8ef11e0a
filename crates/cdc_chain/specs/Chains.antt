-- The chain of a stream: what is kept of it, and the lines that each entry makes.
use Rattle.std.specs.Prelude.{ℕ, ◌+◌, List, [], ◌∷◌, ◌++◌, Bool, true, false, nat_le, nat_lt, if◌then◌else◌, map, min}
use Rattle.std.specs.Prelude.{Option, Some, None, Result, Ok, Err}
use Rattle.cdc_types.specs.declared.bounds.TheConstants.Limits.{TIMESTAMP}
use Rattle.cdc_types.specs.declared.events.Event.{Event}
use Rattle.cdc_types.specs.Widths.{max_64}
use Rattle.cdc_match.specs.Arguments.{Arguments}
use Rattle.cdc_follow.specs.declared.entries.Content.{Content}
use Rattle.cdc_follow.specs.declared.entries.Content.TheVariants as content
use Rattle.cdc_follow.specs.declared.entries.Entry.{Entry}
use Rattle.cdc_follow.specs.declared.errors.LineError.{LineError}
use Rattle.cdc_follow.specs.declared.errors.LineError.TheVariants.{TimestampOutOfRange}
use Rattle.cdc_follow.specs.Entries.{line_entry}
use Rattle.cdc_follow.specs.Lines.{lines_of}
use Rattle.cdc_queue_lines.specs.Steps.{found_after, last_after}
use Rattle.cdc_chain.specs.declared.chain.Chaining.{Chaining}
use Rattle.cdc_chain.specs.declared.chain.Chaining.TheVariants.{Taken, Duplicate, Ended, AfterEnd, OutOfRange}
use Rattle.cdc_chain.specs.declared.streams.ChainStop.{ChainStop}
use Rattle.cdc_chain.specs.declared.streams.ChainStop.TheVariants as stop
use Rattle.cdc_chain.specs.Lines.{QueueLine, end_lines, event_lines}

-- the timestamp of the last event taken, 0 if there is none; whether the end was received; the timestamp of the last
-- event of each queue, 0 if there is none; and how many duplicates were skipped
pub record ChainState : Type 0 where
  pub last : ℕ
  pub ended : Bool
  pub places : List ℕ
  pub duplicates : ℕ

-- before the first event, with the queues of these bindings
abbrev pub begins : List Arguments → ChainState
begins bindings = record { last = 0; ended = false; places = map (λ _. 0) bindings; duplicates = 0 }

-- what becomes of an entry. An event that isn't later than the last one taken is a duplicate, and one that is later
-- than a ledger's greatest timestamp is none.
abbrev pub outcome_of : ChainState → Content → Chaining
outcome_of state (content.Event e) =
    if nat_le e.timestamp state.last then Duplicate
    else (if nat_lt TIMESTAMP e.timestamp then OutOfRange
    else (if state.ended then AfterEnd else Taken))
outcome_of state content.End = if state.ended then Duplicate else Ended

-- what is kept after an entry of which this became: of an event that is taken, each queue that takes it has it as its
-- last one
abbrev pub state_by : Chaining → List Arguments → ChainState → Content → ChainState
state_by Taken bindings state (content.Event e) =
    record state { last = e.timestamp; places = last_after e bindings state.places }
state_by Taken bindings state content.End = state
state_by Duplicate bindings state content = record state { duplicates = min (state.duplicates + 1) max_64 }
state_by Ended bindings state content = record state { ended = true }
state_by AfterEnd bindings state content = state
state_by OutOfRange bindings state content = state

abbrev pub next_chain : List Arguments → ChainState → Content → ChainState
next_chain bindings state content = state_by (outcome_of state content) bindings state content

-- what entries make: the events that are taken, and the lines of the queues
pub record Made : Type 0 where
  pub events : List Event
  pub lines : List QueueLine

abbrev pub nothing : Made
nothing = record { events = []; lines = [] }

-- what an entry makes of which this became: an event that is taken has a line in each queue that takes it, with the
-- timestamp of the queue's last event; and the end has one in each queue
abbrev pub made_by : Chaining → List Arguments → ChainState → Content → Made
made_by Taken bindings state (content.Event e) =
    record { events = e ∷ []; lines = event_lines e (found_after e 1 bindings state.places) }
made_by Taken bindings state content.End = nothing
made_by Duplicate bindings state content = nothing
made_by Ended bindings state content = record { events = []; lines = end_lines 1 state.places }
made_by AfterEnd bindings state content = nothing
made_by OutOfRange bindings state content = nothing

abbrev pub made_of : List Arguments → ChainState → Content → Made
made_of bindings state content = made_by (outcome_of state content) bindings state content

-- what is made first, and what is made then
abbrev pub made_then : Made → Made → Made
made_then first later = record { events = first.events ++ later.events; lines = first.lines ++ later.lines }

-- ---- a stream

-- what a stream has made when chaining stops, what is kept, and why it stops
pub record Chained : Type 0 where
  pub made : Made
  pub state : ChainState
  pub stop : ChainStop

-- chaining stops here
abbrev pub stopped : ChainState → ChainStop → Chained
stopped state why = record { made = nothing; state = state; stop = why }

-- this is made before
abbrev pub made_first : Made → Chained → Chained
made_first first later = record { made = made_then first later.made; state = later.state; stop = later.stop }

-- chaining stops at an entry of which this becomes
abbrev pub stops_at : Chaining → Bool
stops_at AfterEnd = true
stops_at OutOfRange = true
stops_at _ = false

-- why chaining stops at the entry of the line of this number
abbrev pub stop_by : Chaining → ℕ → ChainStop
stop_by OutOfRange number = stop.BadLine number TimestampOutOfRange
stop_by _ number = stop.AfterEnd number

-- the entry of the line of this number: chaining stops at it, or goes on with what is kept after it
abbrev pub chain_entry : List Arguments → ChainState → ℕ → Content → (ChainState → Chained) → Chained
chain_entry bindings state number content later =
    if stops_at (outcome_of state content) then stopped state (stop_by (outcome_of state content) number)
    else made_first (made_of bindings state content) (later (next_chain bindings state content))

-- what was read of the line of this number: nothing, an entry, or why it is none
abbrev pub chain_read : List Arguments → ChainState → ℕ → Result (Option Entry) LineError → (ChainState → Chained)
    → Chained
chain_read bindings state number (Ok None) later = later state
chain_read bindings state number (Ok (Some entry)) later = chain_entry bindings state number entry.content later
chain_read bindings state number (Err error) later = stopped state (stop.BadLine number error)

-- the chain of lines, numbered from this one on
unfoldable pub chain : List Arguments → ChainState → ℕ → List (List ℕ) → Chained
chain bindings state number [] = stopped state stop.AtEnd
chain bindings state number (line ∷ rest) =
    chain_read bindings state number (line_entry false line) (λ after. chain bindings after (number + 1) rest)

-- the chain of bytes
abbrev pub bytes_chained : List Arguments → ChainState → List ℕ → Chained
bytes_chained bindings state bytes = chain bindings state 1 (lines_of bytes)
