-- What checked following promises of a ledger's events.
use Rattle.std.specs.Prelude.{◌≡◌, ◌<◌, ℕ, [], ◌∷◌, ◌++◌, Bool, ◌==◌, ◌&&◌, not, nat_lt, true, false, List, filter, fold, sum_by, take, drop, Contains, if◌then◌else◌}
use Rattle.std.specs.List.{AllByRecursion, list_all, list_any}
use Rattle.cdc_types.specs.declared.events.Event.{Event}
use Rattle.cdc_ledger.specs.Balances.{balances}
use Rattle.cdc_ledger.specs.Events.{events}
use Rattle.cdc_ledger.specs.History.{History}
use Rattle.cdc_ledger.specs.Submit.{IsLegal}
use Rattle.cdc_message.specs.Headers.{headers_of_event}
use Rattle.cdc_message.specs.Replays.{IsPrefix}
use Rattle.cdc_match.specs.declared.pairs.Pair.{Pair}
use Rattle.cdc_match.specs.declared.pairs.Pair.TheVariants.{Ledger}
use Rattle.cdc_match.specs.Arguments.{Arguments}
use Rattle.cdc_match.specs.Matching.{matches}
use Rattle.cdc_follow.specs.declared.entries.Content.{Content}
use Rattle.cdc_follow.specs.declared.entries.Content.TheVariants as content
use Rattle.cdc_follow.specs.Streams.{NumberedEntry, stream_of}
use Rattle.cdc_audit.specs.Known.{balances_after}
use Rattle.cdc_audit.specs.Rules.{held, posted, released}
use Rattle.cdc_audit_laws.specs.Laws.{credits_posted_by, debits_posted_by}
use Rattle.cdc_checked.specs.Based.{based, next_by}
use Rattle.cdc_checked.specs.Checked.{checked, last_of, names}
use Rattle.cdc_checked_follow.specs.Checking.{CheckedState, begins, begins_by, bytes_checked}

-- one of these events has this timestamp
abbrev pub has_event_at : List Event → ℕ → Bool
has_event_at es t = list_any (λ e. e.timestamp == t) es

-- an event of the account that is earlier than this timestamp, and that wasn't applied
abbrev pub is_missed : List Event → ℕ → ℕ → Event → Bool
is_missed applied id t f = names id f && (nat_lt f.timestamp t && not (has_event_at applied f.timestamp))

-- all such events
abbrev pub missed : List Event → List Event → ℕ → ℕ → List Event
missed all applied id t = filter (is_missed applied id t) all

-- what these events added to the pending debits of an account, and to its pending credits
abbrev pub debits_held_by : List Event → ℕ → ℕ
debits_held_by es id = sum_by (λ e. if e.debit_account.id == id then held e else 0) es

abbrev pub credits_held_by : List Event → ℕ → ℕ
credits_held_by es id = sum_by (λ e. if e.credit_account.id == id then held e else 0) es

-- what these events released of them; the pending transfers are among all events
abbrev pub debits_released_by : List Event → List Event → ℕ → ℕ
debits_released_by all es id = sum_by (λ e. if e.debit_account.id == id then released all e else 0) es

abbrev pub credits_released_by : List Event → List Event → ℕ → ℕ
credits_released_by all es id = sum_by (λ e. if e.credit_account.id == id then released all e else 0) es

-- these events moved nothing posted of an account, and released as much as they held
pub record MovedNothing (all es : List Event) (id : ℕ) : Type 0 where
  pub debits : debits_posted_by es id ≡ 0
  pub credits : credits_posted_by es id ≡ 0
  pub debits_held : debits_held_by es id ≡ debits_released_by all es id
  pub credits_held : credits_held_by es id ≡ credits_released_by all es id

-- some of a ledger's events are received, in any order and number. If an event of an account was applied, the missed
-- events of the account before it moved nothing posted, and released as much as they held
abbrev pub CheckedAccountsMissNothing : Type 0
CheckedAccountsMissNothing = (h : History) (received : List Event) (id : ℕ) (e : Event) → IsLegal h
    → AllByRecursion (Contains (events h)) received → Contains (checked received) e → names id e ≡ true
    → MovedNothing (events h) (missed (events h) (checked received) id e.timestamp) id

-- the event posts, holds and releases nothing
pub record IsSilent (all : List Event) (f : Event) : Type 0 where
  pub posts_nothing : posted f ≡ 0
  pub holds_nothing : held f ≡ 0
  pub releases_nothing : released all f ≡ 0

-- if none of these missed events held anything, each of them was silent
abbrev pub MissedEventsAreSilent : Type 0
MissedEventsAreSilent = (h : History) (received : List Event) (id : ℕ) (e : Event) → IsLegal h
    → AllByRecursion (Contains (events h)) received → Contains (checked received) e → names id e ≡ true
    → AllByRecursion (λ f. held f ≡ 0) (missed (events h) (checked received) id e.timestamp)
    → AllByRecursion (IsSilent (events h)) (missed (events h) (checked received) id e.timestamp)

-- the event moved posted money of the account
abbrev pub moves_of : ℕ → Event → Bool
moves_of id e = names id e && not (posted e == 0)

-- so of each account, the applied events that moved posted money are a prefix of the ledger's that did
abbrev pub CheckedMovementsAreAPrefix : Type 0
CheckedMovementsAreAPrefix = (h : History) (received : List Event) (id : ℕ) → IsLegal h
    → AllByRecursion (Contains (events h)) received
    → IsPrefix (filter (moves_of id) (checked received)) (filter (moves_of id) (events h))

-- no false alarm: a ledger's events that are received in order are all applied
abbrev pub WholeStreamsAreApplied : Type 0
WholeStreamsAreApplied = (h : History) (count : ℕ) → IsLegal h → checked (take count (events h)) ≡ take count (events h)

-- the balances that are shown last of an account are the ledger's, as of the account's last applied event
abbrev pub CheckedBooksHoldBalances : Type 0
CheckedBooksHoldBalances = (h : History) (received : List Event) (id : ℕ) → IsLegal h
    → AllByRecursion (Contains (events h)) received → list_any (names id) (checked received) ≡ true
    → balances_after (checked received) id ≡ balances h id (last_of (checked received) id)

-- no event of the account before this timestamp was missed, and none from it on was applied
pub record IsNextOf (all applied : List Event) (id t : ℕ) : Type 0 where
  pub later : last_of applied id < t
  pub whole : missed all applied id t ≡ []

-- an event that is received is applied if each earlier event of both its accounts was applied, and no later one. So a
-- lost event is applied once it is redelivered, unless a later event of its accounts was applied
abbrev pub TheNextEventIsApplied : Type 0
TheNextEventIsApplied = (h : History) (received : List Event) (e : Event) → IsLegal h
    → AllByRecursion (Contains (events h)) received → Contains (events h) e
    → IsNextOf (events h) (checked received) e.debit_account.id e.timestamp
    → IsNextOf (events h) (checked received) e.credit_account.id e.timestamp
    → checked (received ++ e ∷ []) ≡ checked received ++ e ∷ []

-- ---- a part of a ledger's events that has each account whole

-- the test takes each event of an account, or none
abbrev pub IsClosed : (Event → Bool) → List Event → Type 0
IsClosed takes es = (id : ℕ) (e f : Event) → Contains es e → Contains es f → names id e ≡ true → names id f ≡ true
    → takes e ≡ takes f

-- a pair is on the ledger
abbrev pub is_on_ledger : Pair → Bool
is_on_ledger (Ledger number) = true
is_on_ledger _ = false

-- a binding on ledgers alone takes each event of an account, or none
abbrev pub LedgerBindingsAreClosed : Type 0
LedgerBindingsAreClosed = (h : History) (binding : Arguments) → IsLegal h
    → list_all is_on_ledger binding.pairs ≡ true → IsClosed (λ e. matches binding (headers_of_event e)) (events h)

-- the laws hold of such a part in place of all events: what was missed moved nothing
abbrev pub CheckedPartsMissNothing : Type 0
CheckedPartsMissNothing = (h : History) (takes : Event → Bool) (received : List Event) (id : ℕ) (e : Event)
    → IsLegal h → IsClosed takes (events h) → AllByRecursion (Contains (filter takes (events h))) received
    → Contains (checked received) e → names id e ≡ true
    → MovedNothing (filter takes (events h)) (missed (filter takes (events h)) (checked received) id e.timestamp) id

-- the applied events that moved posted money are a prefix of the part's that did
abbrev pub CheckedPartsAreAPrefix : Type 0
CheckedPartsAreAPrefix = (h : History) (takes : Event → Bool) (received : List Event) (id : ℕ) → IsLegal h
    → IsClosed takes (events h) → AllByRecursion (Contains (filter takes (events h))) received
    → IsPrefix (filter (moves_of id) (checked received)) (filter (moves_of id) (filter takes (events h)))

-- and the part's events that are received in order are all applied
abbrev pub WholePartsAreApplied : Type 0
WholePartsAreApplied = (h : History) (takes : Event → Bool) (count : ℕ) → IsLegal h → IsClosed takes (events h)
    → checked (take count (filter takes (events h))) ≡ take count (filter takes (events h))

-- ---- by baseline

-- the events of the account between these two timestamps that weren't applied
abbrev pub missed_between : List Event → List Event → ℕ → ℕ → ℕ → List Event
missed_between all applied id s t = filter (λ f. nat_lt s f.timestamp) (missed all applied id t)

-- these events moved nothing posted of an account
pub record MovedNoMoney (es : List Event) (id : ℕ) : Type 0 where
  pub debits : debits_posted_by es id ≡ 0
  pub credits : credits_posted_by es id ≡ 0

-- if two events of an account were applied by baseline, the events of the account that were missed between them moved
-- nothing posted
abbrev pub BaselinesMissNoMoney : Type 0
BaselinesMissNoMoney = (h : History) (received : List Event) (id : ℕ) (f e : Event) → IsLegal h
    → AllByRecursion (Contains (events h)) received → Contains (based received) f → Contains (based received) e
    → names id f ≡ true → names id e ≡ true
    → MovedNoMoney (missed_between (events h) (based received) id f.timestamp e.timestamp) id

-- there is no false alarm by baseline: a ledger's events that are received in order, from any one on, are all applied
abbrev pub LateStreamsAreApplied : Type 0
LateStreamsAreApplied = (h : History) (start count : ℕ) → IsLegal h
    → based (take count (drop start (events h))) ≡ take count (drop start (events h))

-- ---- bytes

-- the event of an entry, if it has one, in front of others
abbrev pub event_before : Content → List Event → List Event
event_before (content.Event e) later = e ∷ later
event_before content.End later = later

-- the events of entries
abbrev pub events_in : List NumberedEntry → List Event
events_in [] = []
events_in (numbered ∷ rest) = event_before numbered.entry.content (events_in rest)

-- what a checked follower applies of bytes is what checked following, by baseline or not, makes of the events of some of
-- the first entries
abbrev pub FollowedBytesAreChecked : Type 0
FollowedBytesAreChecked = (skips : Bool) (state : CheckedState) (bytes : List ℕ) → (count : ℕ)
    × ((bytes_checked skips state bytes).state.applied
    ≡ fold (next_by state.baseline) state.applied (events_in (take count (stream_of false bytes).entries)))

-- so if the bytes have a ledger's events, in any order and number, a checked follower of them misses nothing, whether
-- it stops at gaps or skips them
abbrev pub FollowedBytesMissNothing : Type 0
FollowedBytesMissNothing = (h : History) (skips : Bool) (bytes : List ℕ) (id : ℕ) (e : Event) → IsLegal h
    → AllByRecursion (Contains (events h)) (events_in (stream_of false bytes).entries)
    → Contains (bytes_checked skips begins bytes).state.applied e → names id e ≡ true
    → MovedNothing (events h)
    (missed (events h) (bytes_checked skips begins bytes).state.applied id e.timestamp) id

-- by baseline it misses no posted money between two applied events of an account
abbrev pub FollowedBytesMissNoMoney : Type 0
FollowedBytesMissNoMoney = (h : History) (skips : Bool) (bytes : List ℕ) (id : ℕ) (f e : Event) → IsLegal h
    → AllByRecursion (Contains (events h)) (events_in (stream_of false bytes).entries)
    → Contains (bytes_checked skips (begins_by true) bytes).state.applied f
    → Contains (bytes_checked skips (begins_by true) bytes).state.applied e
    → names id f ≡ true → names id e ≡ true
    → MovedNoMoney (missed_between (events h) (bytes_checked skips (begins_by true) bytes).state.applied id
    f.timestamp e.timestamp) id
