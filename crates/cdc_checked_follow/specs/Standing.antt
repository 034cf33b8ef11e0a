-- What a checked follower keeps, and what it stands for.
use Rattle.std.specs.Prelude.{◌≡◌, ℕ, Bool, true, false, List, [], filter, fold, length, max, min}
use Rattle.cdc_types.specs.declared.accounts.Balances.{Balances}
use Rattle.cdc_types.specs.declared.events.Event.{Event}
use Rattle.cdc_types.specs.Widths.{max_64}
use Rattle.cdc_message.specs.Headers.{headers_of_event}
use Rattle.cdc_match.specs.Arguments.{Arguments}
use Rattle.cdc_match.specs.Matching.{matches}
use Rattle.cdc_subscriber.specs.Book.{book_of, entries_of}
use Rattle.cdc_checked.specs.Standing as standing
use Rattle.cdc_checked.specs.Standing.{CheckerState, knows_nothing}
use Rattle.cdc_checked_follow.specs.declared.follower.Checking.{Checking}
use Rattle.cdc_checked_follow.specs.declared.follower.Checking.TheVariants.{Applied, Late, Refused, Ended, OutOfRange}
use Rattle.cdc_checked_follow.specs.Checking.{CheckedState}

-- what a checker knows, a book by the accounts' ids, how many events it has, the greatest timestamp, whether the end was
-- received, and whether events are applied by baseline
pub record CheckedFollowerState : Type 0 where
  pub checker : CheckerState
  pub book : List (ℕ × Balances)
  pub applied : ℕ
  pub last : ℕ
  pub ended : Bool
  pub baseline : Bool

-- an entry of which this becomes changes nothing
abbrev pub changes_nothing : Checking → Bool
changes_nothing Applied = false
changes_nothing Late = true
changes_nothing (Refused why) = true
changes_nothing Ended = false
changes_nothing OutOfRange = true

-- it has received nothing, and applies events by baseline or not
abbrev pub begun_by : Bool → CheckedFollowerState
begun_by by_baseline = record {
  checker = knows_nothing;
  book = [];
  applied = 0;
  last = 0;
  ended = false;
  baseline = by_baseline;
}

abbrev pub has_nothing : CheckedFollowerState
has_nothing = begun_by false

-- a binding takes an event
abbrev pub takes : Arguments → Event → Bool
takes binding e = matches binding (headers_of_event e)

-- the applied events that the binding takes
abbrev pub taken_of : Arguments → List Event → List Event
taken_of binding applied = filter (takes binding) applied

-- the greatest timestamp of these events, or 0
abbrev pub greatest : List Event → ℕ
greatest applied = fold (λ t e. max t e.timestamp) 0 applied

-- a follower stands for what was followed: its checker knows the applied events, and its book has those that the
-- binding takes
pub record StandsFor (binding : Arguments) (follower : CheckedFollowerState) (state : CheckedState) : Type 0 where
  pub checker : standing.StandsFor follower.checker state.applied
  pub book : entries_of follower.book ≡ book_of (taken_of binding state.applied)
  pub applied : follower.applied ≡ min (length (taken_of binding state.applied)) max_64
  pub last : follower.last ≡ greatest state.applied
  pub ended : follower.ended ≡ state.ended
  pub baseline : follower.baseline ≡ state.baseline
