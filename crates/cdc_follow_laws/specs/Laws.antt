-- What a follower of all events of a ledger has in its book.
use Rattle.std.specs.Prelude.{◌≡◌, ℕ, List, true}
use Rattle.std.specs.List.{AllByRecursion}
use Rattle.cdc_types.specs.declared.events.Event.{Event}
use Rattle.cdc_types.specs.Timestamps.{RiseFrom}
use Rattle.cdc_ledger.specs.Balances.{as_of}
use Rattle.cdc_ledger.specs.Events.{events}
use Rattle.cdc_ledger.specs.History.{History}
use Rattle.cdc_ledger.specs.Submit.{IsLegal}
use Rattle.cdc_message.specs.Headers.{headers_of_event}
use Rattle.cdc_message.specs.Widths.{EventFits}
use Rattle.cdc_match.specs.Arguments.{Arguments}
use Rattle.cdc_match.specs.Matching.{matches}
use Rattle.cdc_subscriber.specs.SubscriberState.{SubscriberState}
use Rattle.cdc_laws.specs.Faithful.{balances_held}
use Rattle.cdc_follow.specs.declared.entries.Entry.{Entry}
use Rattle.cdc_follow.specs.declared.streams.Rules.{Rules}
use Rattle.cdc_follow.specs.Following.{FollowState, follow_all}
use Rattle.cdc_follow.specs.Laws.{IsOfQueue, KeepsPrefix, begins, taken_by}
use Rattle.cdc_follow.specs.Stops.{bytes_followed}
use Rattle.cdc_queue_lines.specs.Lines.{queue_text}
use Rattle.cdc_queue_laws.specs.Laws.{HasLinesOf}

-- a binding takes each of these events
abbrev pub TakesAll : Arguments → List Event → Type 0
TakesAll binding events = AllByRecursion (λ e. matches binding (headers_of_event e) ≡ true) events

-- the book has for every number the balances that the ledger had as of the last timestamp; an account that isn't in the
-- book counts as four zeros
abbrev pub HasBalances : History → SubscriberState → Type 0
HasBalances h kept = (id : ℕ) → balances_held kept.book id ≡ as_of h kept.last id

-- whatever entries of the chained queue of all events of a ledger reach a follower that begins, in whatever order,
-- number and choice: its book has the ledger's balances as of its last timestamp, if its binding takes every event
abbrev pub FollowersHoldBalances : Type 0
FollowersHoldBalances = (h : History) (binding : Arguments) (entries : List Entry) → IsLegal h
    → TakesAll binding (events h) → AllByRecursion (IsOfQueue (events h)) entries
    → HasBalances h (follow_all binding begins entries).kept

-- the same of every state that keeps a prefix of this queue, as of a follower that resumes
abbrev pub PrefixesHoldBalances : Type 0
PrefixesHoldBalances = (h : History) (binding : Arguments) (state : FollowState) → IsLegal h
    → TakesAll binding (events h) → KeepsPrefix binding (events h) state → HasBalances h state.kept

-- the timestamps of a ledger's events rise from above 0
abbrev pub LedgerEventsRise : Type 0
LedgerEventsRise = (h : History) → IsLegal h → RiseFrom 0 (events h)

-- so whatever lines of the text of a queue of a ledger's events reach a follower, it keeps a prefix of that queue, if
-- the numbers of the events fit their fields
abbrev pub LedgerQueuesArriveAsPrefixes : Type 0
LedgerQueuesArriveAsPrefixes = (h : History) (binding own : Arguments) (rules : Rules) (bytes : List ℕ) → IsLegal h
    → AllByRecursion EventFits (events h) → HasLinesOf (queue_text binding (events h)) bytes → rules.chained ≡ true
    → KeepsPrefix own (taken_by binding (events h)) (bytes_followed own rules begins bytes).state
