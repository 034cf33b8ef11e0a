-- What a follower has seen of a chained stream, whatever entries it receives.
use Rattle.std.specs.Prelude.{◌≡◌, ℕ, List, [], ◌∷◌, ◌++◌, Bool, true, false, if◌then◌else◌, fold, Some}
use Rattle.std.specs.Prelude.{Ok}
use Rattle.std.specs.List.{AllByRecursion}
use Rattle.cdc_types.specs.declared.events.Event.{Event}
use Rattle.cdc_types.specs.Timestamps.{RiseFrom, last_timestamp, last_timestamp_from}
use Rattle.cdc_match.specs.Arguments.{Arguments}
use Rattle.cdc_subscriber.specs.Steps.{next_state}
use Rattle.cdc_follow.specs.declared.entries.Content.TheVariants as content
use Rattle.cdc_follow.specs.declared.entries.Entry.{Entry}
use Rattle.cdc_follow.specs.declared.follower.Following.{Following}
use Rattle.cdc_follow.specs.declared.follower.Following.TheVariants.{Applied, PassedBy, Ended}
use Rattle.cdc_follow.specs.declared.streams.Rules.{Rules}
use Rattle.cdc_follow.specs.Entries.{line_entry}
use Rattle.cdc_follow.specs.Following.{FollowState, follow, follow_all, next_follow, outcome_of}
use Rattle.cdc_follow.specs.Laws.{IsOfQueue, begins, entries_in, kept_after, reception_of, taken_by}
use Rattle.cdc_follow.specs.Stops.{bytes_followed}
use Rattle.cdc_follow.specs.Streams.{NumberedEntry, stream_of}

-- an entry names a timestamp as that of the event before it
abbrev pub NamesPrevious : Entry → Type 0
NamesPrevious entry = (previous : ℕ) × (entry.previous ≡ Some previous)

-- a chain from a timestamp: entries of these events, and perhaps of the end after them, each of which names the
-- timestamp of the event before it
abbrev pub chain_from : ℕ → List Event → Bool → List Entry
chain_from previous [] ended =
    if ended then record { content = content.End; previous = Some previous } ∷ [] else []
chain_from previous (e ∷ events) ended =
    record { content = content.Event e; previous = Some previous } ∷ chain_from e.timestamp events ended

-- an entry of which this becomes is seen: its event is applied or passed by, or it is received as the end
abbrev pub is_seen : Following → Bool
is_seen Applied = true
is_seen PassedBy = true
is_seen Ended = true
is_seen _ = false

-- the entries that a follower sees among these, in order
abbrev pub seen_among : Arguments → FollowState → List Entry → List Entry
seen_among binding state [] = []
seen_among binding state (entry ∷ rest) =
    if is_seen (outcome_of binding state entry) then entry ∷ seen_among binding (next_follow binding state entry) rest
    else seen_among binding (next_follow binding state entry) rest

-- what a follower sees among entries is a chain from the last event that it had seen. Timestamps rise along it, and the
-- last one is that of the last event seen then. What is kept is what a subscriber keeps that receives those events of
-- the chain that the binding takes, and the end if the chain has it.
pub record SeesAChain (binding : Arguments) (old : FollowState) (entries : List Entry) (new : FollowState)
    : Type 0 where
  pub events : List Event
  pub ended : Bool
  pub chain : seen_among binding old entries ≡ chain_from old.seen events ended
  pub rising : RiseFrom old.seen events
  pub last : new.seen ≡ last_timestamp_from old.seen events
  pub kept : new.kept ≡ fold next_state old.kept (reception_of (taken_by binding events) ended).items

-- whatever entries reach a follower, in whatever order, number and choice, if each names a timestamp as that of the
-- event before it: what it sees is a chain. Nothing is assumed of the state that it begins with, nor of what the
-- entries are.
abbrev pub WhateverComesIsAChain : Type 0
WhateverComesIsAChain = (binding : Arguments) (state : FollowState) (entries : List Entry)
    → AllByRecursion NamesPrevious entries → SeesAChain binding state entries (follow_all binding state entries)

-- the same of the first entries of a stream, up to where following stops
pub record SeesAChainFirst (binding : Arguments) (old : FollowState) (numbered : List NumberedEntry) (new : FollowState)
    : Type 0 where
  pub before : List NumberedEntry
  pub after : List NumberedEntry
  pub whole : numbered ≡ before ++ after
  pub sees : SeesAChain binding old (entries_in before) new

-- so it is of one that goes through such entries of a stream, wherever it stops
abbrev pub FollowedStreamsAreChains : Type 0
FollowedStreamsAreChains = (binding : Arguments) (skips : Bool) (state : FollowState) (numbered : List NumberedEntry)
    → AllByRecursion NamesPrevious (entries_in numbered)
    → SeesAChainFirst binding state numbered (follow binding skips state numbered).state

-- an entry that is read from a line of a chained stream names such a timestamp
abbrev pub ChainedLinesNamePrevious : Type 0
ChainedLinesNamePrevious = (line : List ℕ) (entry : Entry) → line_entry true line ≡ Ok (Some entry)
    → NamesPrevious entry

-- so whatever bytes reach a follower of a chained stream, what it sees is a chain
abbrev pub WhateverBytesComeAreAChain : Type 0
WhateverBytesComeAreAChain = (binding : Arguments) (rules : Rules) (state : FollowState) (bytes : List ℕ)
    → rules.chained ≡ true
    → SeesAChainFirst binding state (stream_of true bytes).entries (bytes_followed binding rules state bytes).state

-- a follower that began after the first events of a queue has applied just those events of a prefix of the later ones
-- that its binding takes, each once and in order; the prefix is all of them once the end is received
pub record KeepsLaterPrefix (binding : Arguments) (first later : List Event) (state : FollowState) : Type 0 where
  pub before : List Event
  pub after : List Event
  pub whole : later ≡ before ++ after
  pub seen : state.seen ≡ last_timestamp (first ++ before)
  pub kept : state.kept ≡ kept_after (taken_by binding before) state.kept.ended
  pub complete : state.kept.ended ≡ true → after ≡ []

-- so it is of a follower that begins after the last one of the first events, whatever entries of the queue reach it
abbrev pub LateFollowersKeepAPrefix : Type 0
LateFollowersKeepAPrefix = (binding : Arguments) (first later : List Event) (entries : List Entry)
    → RiseFrom 0 (first ++ later) → AllByRecursion (IsOfQueue (first ++ later)) entries
    → KeepsLaterPrefix binding first later (follow_all binding (record begins { seen = last_timestamp first }) entries)
