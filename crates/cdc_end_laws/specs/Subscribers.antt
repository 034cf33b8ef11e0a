-- What a subscriber keeps once all is received: its close decides it; and what its book then has.
use Rattle.std.specs.Prelude.{◌≡◌, ℕ, zero, suc, nat_le, Bool, true, false, not, min, List, [], ◌∷◌, All, Option, None, Some, length, take, if◌then◌else◌}
use Rattle.cdc_types.specs.declared.events.Event.{Event}
use Rattle.cdc_types.specs.Timestamps.{last_timestamp}
use Rattle.cdc_types.specs.Widths.{max_64}
use Rattle.cdc_laws.specs.Balances.{as_of}
use Rattle.cdc_laws.specs.Events.{events}
use Rattle.cdc_laws.specs.History.{History}
use Rattle.cdc_laws.specs.Arguments.{Arguments}
use Rattle.cdc_laws.specs.Queue.{takes_event}
use Rattle.cdc_laws.specs.Book.{book_of}
use Rattle.cdc_laws.specs.Reception.{Reception}
use Rattle.cdc_laws.specs.SubscriberState.{SubscriberState}
use Rattle.cdc_laws.specs.Faithful.{IsFaithful, balances_held, kept_from}
use Rattle.cdc_laws.specs.Line.{feed_after}
use Rattle.cdc_run.specs.Reports.{AreSubscribed, IsSubscribed}

-- ---- closes

-- a subscriber of these events closes before their end: it is asked to close after a number of events that they have;
-- 0 asks for nothing
abbrev pub closes_in : Option ℕ → List Event → Bool
closes_in None feed = false
closes_in (Some zero) feed = false
closes_in (Some (suc n)) feed = nat_le (suc n) (length feed)

-- the events that it applies of these: the first ones up to its close, or all
abbrev pub up_to_close : Option ℕ → List Event → List Event
up_to_close None feed = feed
up_to_close (Some n) feed = if closes_in (Some n) feed then take n feed else feed

-- the state of a subscriber that has applied these events, and then was closed or has received the end mark
abbrev pub state_with : List Event → Bool → SubscriberState
state_with applied closed = record {
  book = book_of applied;
  last = last_timestamp applied;
  applied = min (length applied) max_64;
  ended = not closed;
  closed = closed;
}

-- what a subscriber of this ledger keeps in the end, with this start, binding and close
abbrev pub state_due : History → ℕ → Arguments → Option ℕ → SubscriberState
state_due h start binding close =
    state_with (up_to_close close (feed_after h start binding)) (closes_in close (feed_after h start binding))

-- a subscriber of a finished run keeps just that
abbrev pub ClosesDecide : Type 0
ClosesDecide = (h : History) (start : ℕ) (binding : Arguments) (close : Option ℕ) (subscriber : SubscriberState)
    → IsSubscribed h start binding close subscriber → subscriber ≡ state_due h start binding close

-- the same of all, with these bindings and closes
abbrev pub states_due : History → ℕ → List Arguments → List (Option ℕ) → List SubscriberState
states_due h start [] closes = []
states_due h start (binding ∷ bindings) [] = []
states_due h start (binding ∷ bindings) (close ∷ closes) =
    state_due h start binding close ∷ states_due h start bindings closes

-- so do all subscribers of it
abbrev pub AllClosesDecide : Type 0
AllClosesDecide = (h : History) (start : ℕ) (bindings : List Arguments) (closes : List (Option ℕ))
    (subscribers : List SubscriberState)
    → AreSubscribed h start bindings closes subscribers → subscribers ≡ states_due h start bindings closes

-- ---- books

-- a binding takes each event of the ledger
abbrev pub TakesAll : History → Arguments → Type 0
TakesAll h binding = All (λ e. takes_event binding e ≡ true) (events h)

-- a subscriber's book has for every number the balances that the ledger had at the subscriber's last timestamp; a
-- number that isn't in the book counts as four zeros
abbrev pub HasLedgersBalances : History → SubscriberState → Type 0
HasLedgersBalances h kept = (id : ℕ) → balances_held kept.book id ≡ as_of h kept.last id

-- a faithful subscriber that takes all events, from the start 0 on, has these in its book
abbrev pub BooksAreTheLedgers : Type 0
BooksAreTheLedgers = (h : History) (binding : Arguments) (reception : Reception) → TakesAll h binding
    → IsFaithful h 0 binding reception → HasLedgersBalances h (kept_from reception)

-- so has one of a finished run, whether it was closed or not
abbrev pub ReportedBooksAreTheLedgers : Type 0
ReportedBooksAreTheLedgers = (h : History) (binding : Arguments) (close : Option ℕ) (subscriber : SubscriberState)
    → TakesAll h binding → IsSubscribed h 0 binding close subscriber → HasLedgersBalances h subscriber
