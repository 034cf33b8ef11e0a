-- Laws of following: what a follower has applied of redelivered entries, and of the entries of a chained queue.
use Rattle.std.specs.Prelude.{◌≡◌, ℕ, List, [], ◌∷◌, ◌++◌, Bool, true, false, if◌then◌else◌, Option, Some, None}
use Rattle.std.specs.Prelude.{Contains, filter, fold, length, map, min, not, ◌&&◌, nat_lt}
use Rattle.std.specs.List.{AllByRecursion}
use Rattle.cdc_types.specs.declared.bounds.TheConstants.Limits.{TIMESTAMP}
use Rattle.cdc_types.specs.declared.events.Event.{Event}
use Rattle.cdc_types.specs.Timestamps.{RiseFrom, last_timestamp}
use Rattle.cdc_types.specs.Widths.{max_64}
use Rattle.cdc_message.specs.declared.items.Item.{Item}
use Rattle.cdc_message.specs.declared.items.Item.TheVariants as item
use Rattle.cdc_message.specs.Headers.{headers_of_event}
use Rattle.cdc_match.specs.Arguments.{Arguments}
use Rattle.cdc_match.specs.Matching.{matches}
use Rattle.cdc_subscriber.specs.Book.{book_of}
use Rattle.cdc_subscriber.specs.Reception.{Reception, kept_of, nothing}
use Rattle.cdc_subscriber.specs.Steps.{next_state}
use Rattle.cdc_subscriber.specs.SubscriberState.{SubscriberState}
use Rattle.cdc_follow.specs.declared.entries.Content.{Content}
use Rattle.cdc_follow.specs.declared.entries.Content.TheVariants as content
use Rattle.cdc_follow.specs.declared.entries.Entry.{Entry}
use Rattle.cdc_follow.specs.Following.{FollowState, Followed, follow, follow_all, is_gap, next_follow, outcome_of}
use Rattle.cdc_follow.specs.Streams.{NumberedEntry}

-- a follower meets no gap in these entries
abbrev pub HasNoGap : Arguments → FollowState → List Entry → Type 0
HasNoGap binding state [] = Unit {0}
HasNoGap binding state (entry ∷ entries) =
    (is_gap (outcome_of binding state entry) ≡ false) × HasNoGap binding (next_follow binding state entry) entries

-- the entries, without the numbers of their lines
abbrev pub entries_in : List NumberedEntry → List Entry
entries_in numbered = map (λ n. n.entry) numbered

-- what is left after following: nothing, or the entries from the one on at which it stops
abbrev pub IsLeft : Option NumberedEntry → List NumberedEntry → Type 0
IsLeft None after = after ≡ []
IsLeft (Some first) after = (later : List NumberedEntry) × (after ≡ first ∷ later)

-- following folds entries: those before the first one at which it stops, or all
pub record FoldsTo (binding : Arguments) (state : FollowState) (numbered : List NumberedEntry) (done : Followed)
    : Type 0 where
  pub before : List NumberedEntry
  pub after : List NumberedEntry
  pub whole : numbered ≡ before ++ after
  pub folds : done.state ≡ follow_all binding state (entries_in before)
  pub left : IsLeft done.at after

abbrev pub FollowingFolds : Type 0
FollowingFolds = (binding : Arguments) (skips : Bool) (state : FollowState) (numbered : List NumberedEntry)
    → FoldsTo binding state numbered (follow binding skips state numbered)

-- going on once: a follower that kept its state after some entries, and is handed any of them again, in any order and
-- number, ends where it would have ended without a stop
abbrev pub GoingOnIsOnce : Type 0
GoingOnIsOnce = (binding : Arguments) (state : FollowState) (taken again others : List Entry)
    → HasNoGap binding state taken → AllByRecursion (Contains taken) again
    → follow_all binding (follow_all binding state taken) (again ++ others) ≡ follow_all binding state (taken ++ others)

-- the item that carries the content of an entry
abbrev pub item_of : Content → Item
item_of (content.Event e) = item.Event e
item_of content.End = item.EndMark

-- what a binding takes: the events that match it, with timestamps that a ledger gives, and the end
abbrev pub is_taken : Arguments → Content → Bool
is_taken binding (content.Event e) = not (nat_lt TIMESTAMP e.timestamp) && matches binding (headers_of_event e)
is_taken binding content.End = true

-- the items of entries that a binding takes
abbrev pub items_taken : Arguments → List Entry → List Item
items_taken binding entries = map item_of (filter (is_taken binding) (map (λ entry. entry.content) entries))

-- if no entry names its predecessor, and the last event seen is the last one applied, as of a new follower, a follower
-- keeps what a subscriber keeps that receives what the binding takes
abbrev pub PlainFollowersAreSubscribers : Type 0
PlainFollowersAreSubscribers = (binding : Arguments) (state : FollowState) (entries : List Entry)
    → state.seen ≡ state.kept.last → AllByRecursion (λ entry. entry.previous ≡ None) entries
    → (follow_all binding state entries).kept ≡ fold next_state state.kept (items_taken binding entries)

-- the events that a binding takes
abbrev pub taken_by : Arguments → List Event → List Event
taken_by binding events = filter (λ e. matches binding (headers_of_event e)) events

-- what a subscriber keeps that has applied just these events, and perhaps received the end: their book, the timestamp
-- of the last one, and how many they are
abbrev pub kept_after : List Event → Bool → SubscriberState
kept_after events ended = record {
  book = book_of events;
  last = last_timestamp events;
  applied = min (length events) max_64;
  ended = ended;
  closed = false;
}

-- what a subscriber receives that receives these events, each once and in order, and perhaps the end mark
abbrev pub reception_of : List Event → Bool → Reception
reception_of events ended =
    record { items = map item.Event events ++ (if ended then item.EndMark ∷ [] else []); closed = false }

-- and of events that rise it has applied just these
abbrev pub ReceivedOnceIsApplied : Type 0
ReceivedOnceIsApplied = (events : List Event) (ended : Bool) → RiseFrom 0 events
    → kept_of (reception_of events ended) ≡ kept_after events ended

-- an entry of a chained queue: an event of it with the timestamp of the event before it in the queue, or the end with
-- that of the last one; 0 stands for no event
abbrev pub IsContentOf : List Event → Option ℕ → Content → Type 0
IsContentOf queue previous (content.Event e) = (before : List Event) × (after : List Event)
    × (queue ≡ before ++ e ∷ after) × (previous ≡ Some (last_timestamp before))
IsContentOf queue previous content.End = previous ≡ Some (last_timestamp queue)

abbrev pub IsOfQueue : List Event → Entry → Type 0
IsOfQueue queue entry = IsContentOf queue entry.previous entry.content

-- a follower has applied just those events of a prefix of the queue that its binding takes, each once and in order; the
-- prefix is the whole queue once the end is received
pub record KeepsPrefix (binding : Arguments) (queue : List Event) (state : FollowState) : Type 0 where
  pub before : List Event
  pub after : List Event
  pub whole : queue ≡ before ++ after
  pub seen : state.seen ≡ last_timestamp before
  pub kept : state.kept ≡ kept_after (taken_by binding before) state.kept.ended
  pub complete : state.kept.ended ≡ true → after ≡ []

-- a follower that begins
abbrev pub begins : FollowState
begins = record { kept = kept_of nothing; seen = 0 }

-- no trust in what carries a queue: whatever entries of a chained queue reach a follower, in whatever order, number and
-- choice, it keeps a prefix of the queue
abbrev pub ChainedFollowersKeepAPrefix : Type 0
ChainedFollowersKeepAPrefix = (binding : Arguments) (queue : List Event) (entries : List Entry) → RiseFrom 0 queue
    → AllByRecursion (IsOfQueue queue) entries → KeepsPrefix binding queue (follow_all binding begins entries)

-- also one that resumes from such a state
abbrev pub ChainedFollowersGoOn : Type 0
ChainedFollowersGoOn = (binding : Arguments) (queue : List Event) (state : FollowState) (entries : List Entry)
    → RiseFrom 0 queue → KeepsPrefix binding queue state → AllByRecursion (IsOfQueue queue) entries
    → KeepsPrefix binding queue (follow_all binding state entries)

-- so does one that goes through such entries of a stream, wherever it stops
abbrev pub FollowedQueuesKeepAPrefix : Type 0
FollowedQueuesKeepAPrefix = (binding : Arguments) (skips : Bool) (queue : List Event) (state : FollowState)
    (numbered : List NumberedEntry) → RiseFrom 0 queue → KeepsPrefix binding queue state
    → AllByRecursion (IsOfQueue queue) (entries_in numbered)
    → KeepsPrefix binding queue (follow binding skips state numbered).state
