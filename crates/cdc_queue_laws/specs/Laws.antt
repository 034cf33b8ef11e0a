-- What a follower has applied that receives lines of a queue.
use Rattle.std.specs.Prelude.{◌≡◌, ℕ, List, true, Some, Ok, Contains}
use Rattle.std.specs.List.{AllByRecursion}
use Rattle.cdc_types.specs.declared.events.Event.{Event}
use Rattle.cdc_types.specs.Timestamps.{RiseFrom}
use Rattle.cdc_message.specs.Widths.{EventFits}
use Rattle.cdc_match.specs.Arguments.{Arguments}
use Rattle.cdc_follow.specs.declared.entries.Entry.{Entry}
use Rattle.cdc_follow.specs.declared.streams.Rules.{Rules}
use Rattle.cdc_follow.specs.Entries.{line_entry}
use Rattle.cdc_follow.specs.Following.{FollowState}
use Rattle.cdc_follow.specs.Laws.{IsOfQueue, KeepsPrefix, begins, taken_by}
use Rattle.cdc_follow.specs.Lines.{lines_of}
use Rattle.cdc_follow.specs.Stops.{bytes_followed}
use Rattle.cdc_queue_lines.specs.Lines.{queue_text}

-- a line of a chained stream that is an entry of this queue
abbrev pub IsLineOfQueue : List Event → List ℕ → Type 0
IsLineOfQueue queue line = (entry : Entry) × (line_entry true line ≡ Ok (Some entry)) × IsOfQueue queue entry

-- events of a ledger: their timestamps rise, and their numbers fit their fields
pub record AreLedgerEvents (events : List Event) : Type 0 where
  pub rising : RiseFrom 0 events
  pub fit : AllByRecursion EventFits events

-- each line of the text of a queue is an entry of the queue
abbrev pub QueueTextsAreOfQueues : Type 0
QueueTextsAreOfQueues = (binding : Arguments) (events : List Event) → AreLedgerEvents events
    → AllByRecursion (IsLineOfQueue (taken_by binding events)) (lines_of (queue_text binding events))

-- each line of these bytes is a line of the text
abbrev pub HasLinesOf : List ℕ → List ℕ → Type 0
HasLinesOf text bytes = AllByRecursion (Contains (lines_of text)) (lines_of bytes)

-- whatever lines of the text of a queue reach a follower, with a binding of its own: it has applied just those events
-- of a prefix of the queue that its binding takes, and the prefix is the whole queue once it has received the end
abbrev pub WhateverArrivesIsAPrefix : Type 0
WhateverArrivesIsAPrefix = (binding own : Arguments) (events : List Event) (rules : Rules) (bytes : List ℕ)
    → AreLedgerEvents events → HasLinesOf (queue_text binding events) bytes → rules.chained ≡ true
    → KeepsPrefix own (taken_by binding events) (bytes_followed own rules begins bytes).state

-- the same of one that resumes from such a state
abbrev pub WhateverArrivesLaterToo : Type 0
WhateverArrivesLaterToo = (binding own : Arguments) (events : List Event) (rules : Rules) (state : FollowState)
    (bytes : List ℕ) → AreLedgerEvents events → KeepsPrefix own (taken_by binding events) state
    → HasLinesOf (queue_text binding events) bytes → rules.chained ≡ true
    → KeepsPrefix own (taken_by binding events) (bytes_followed own rules state bytes).state
