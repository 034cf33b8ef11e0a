-- What each queue gets of a chain.
use Rattle.std.specs.Prelude.{◌≡◌, ℕ, ◌+◌, List, [], ◌∷◌, ◌++◌, Bool, true, false, nat_eq, if◌then◌else◌, Some, filter}
use Rattle.std.specs.Prelude.{Contains, length, map}
use Rattle.std.specs.List.{AllByRecursion, slice_get}
use Rattle.cdc_types.specs.declared.events.Event.{Event}
use Rattle.cdc_types.specs.Timestamps.{RiseFrom, last_timestamp_from}
use Rattle.cdc_match.specs.Arguments.{Arguments}
use Rattle.cdc_match.specs.Queue.{feed}
use Rattle.cdc_follow.specs.declared.entries.Content.TheVariants as content
use Rattle.cdc_follow.specs.declared.entries.Entry.{Entry}
use Rattle.cdc_follow.specs.Following.{follow_all}
use Rattle.cdc_follow.specs.Laws.{IsOfQueue, KeepsPrefix}
use Rattle.cdc_follow.specs.Laws.{begins as follower_begins}
use Rattle.cdc_queue_lines.specs.Lines.{lines_after}
use Rattle.cdc_chain.specs.declared.streams.ChainStop.TheVariants.{AtEnd}
use Rattle.cdc_chain.specs.Chains.{ChainState, Chained, Made, begins, chain, made_first, nothing}
use Rattle.cdc_chain.specs.Lines.{QueueLine, end_line, plain_text}

-- the lines of the queue of this number among those of all queues
abbrev pub lines_in : ℕ → List QueueLine → List QueueLine
lines_in queue lines = filter (λ line. nat_eq line.queue queue) lines

-- the lines of a queue with these events, the first of which follows one with this timestamp; and of its end, if that
-- is received
abbrev pub queue_of : ℕ → Bool → ℕ → List Event → List QueueLine
queue_of queue ended previous [] = if ended then end_line queue previous ∷ [] else []
queue_of queue ended previous (e ∷ events) =
    record { queue = queue; previous = previous; content = content.Event e } ∷ queue_of queue ended e.timestamp events

-- the events that are taken are later than the last one before, and rise; the last of them is kept
pub record Rises (start : ChainState) (done : Chained) : Type 0 where
  pub rising : RiseFrom start.last done.made.events
  pub last : done.state.last ≡ last_timestamp_from start.last done.made.events

abbrev pub TakenEventsRise : Type 0
TakenEventsRise = (bindings : List Arguments) (start : ChainState) (number : ℕ) (lines : List (List ℕ))
    → Rises start (chain bindings start number lines)

-- the queue of this number, which begins after an event with the timestamp `place`, gets the lines of the events that
-- its binding takes; and the timestamp of the last one is kept
pub record GetsLines (queue : ℕ) (binding : Arguments) (place : ℕ) (done : Chained) (last : ℕ) : Type 0 where
  pub lines : lines_in queue done.made.lines ≡ queue_of queue done.state.ended place (feed done.made.events binding)
  pub place_is : last ≡ last_timestamp_from place (feed done.made.events binding)

-- so it is of each queue, of whatever stream, until the end was received
abbrev pub EachQueueGetsItsLines : Type 0
EachQueueGetsItsLines = (bindings : List Arguments) (start : ChainState) (number : ℕ) (lines : List (List ℕ)) (i : ℕ)
    (binding : Arguments) (place : ℕ) → start.ended ≡ false → slice_get bindings i ≡ Some binding
    → slice_get start.places i ≡ Some place
    → (last : ℕ) × (slice_get (chain bindings start number lines).state.places i ≡ Some last)
    × GetsLines (i + 1) binding place (chain bindings start number lines) last

-- without their numbers these are the lines of `messages --queue`
abbrev pub PlainLinesAreThoseOfTheQueue : Type 0
PlainLinesAreThoseOfTheQueue = (queue previous : ℕ) (events : List Event)
    → map plain_text (queue_of queue true previous events) ≡ lines_after previous events

-- after the end nothing is made any more
abbrev pub EndedChainsMakeNothing : Type 0
EndedChainsMakeNothing = (bindings : List Arguments) (start : ChainState) (number : ℕ) (lines : List (List ℕ))
    → start.ended ≡ true → (chain bindings start number lines).made ≡ nothing

-- a chain of lines goes on with other lines from what is kept
abbrev pub StreamsGoOn : Type 0
StreamsGoOn = (bindings : List Arguments) (start state : ChainState) (number : ℕ) (front rest : List (List ℕ))
    (made : Made) → chain bindings start number front ≡ record { made = made; state = state; stop = AtEnd }
    → chain bindings start number (front ++ rest)
    ≡ made_first made (chain bindings state (number + length front) rest)

-- the entry of a line
abbrev pub entry_of : QueueLine → Entry
entry_of line = record { content = line.content; previous = Some line.previous }

-- each line of a queue is an entry of the queue of the events that its binding takes of all that are taken
abbrev pub QueueLinesAreOfQueues : Type 0
QueueLinesAreOfQueues = (bindings : List Arguments) (number : ℕ) (lines : List (List ℕ)) (i : ℕ) (binding : Arguments)
    → slice_get bindings i ≡ Some binding
    → AllByRecursion (IsOfQueue (feed (chain bindings (begins bindings) number lines).made.events binding))
    (map entry_of (lines_in (i + 1) (chain bindings (begins bindings) number lines).made.lines))

-- so whatever lines of a queue reach a follower of it, in whatever order, number and choice, it keeps a prefix of the
-- queue
abbrev pub FollowersKeepAPrefix : Type 0
FollowersKeepAPrefix = (bindings : List Arguments) (number : ℕ) (lines : List (List ℕ)) (i : ℕ)
    (binding own : Arguments) (entries : List Entry) → slice_get bindings i ≡ Some binding
    → AllByRecursion (Contains (map entry_of
    (lines_in (i + 1) (chain bindings (begins bindings) number lines).made.lines))) entries
    → KeepsPrefix own (feed (chain bindings (begins bindings) number lines).made.events binding)
    (follow_all own follower_begins entries)
