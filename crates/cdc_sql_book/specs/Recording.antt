-- A follower that keeps what it has applied since a save.
use Rattle.std.specs.Prelude.{◌≡◌, ℕ, Bool, List, [], ◌∷◌, ◌++◌, Option}
use Rattle.std.specs.Option.{option_map}
use Rattle.cdc_types.specs.declared.events.Event.{Event}
use Rattle.cdc_match.specs.Arguments.{Arguments}
use Rattle.cdc_message.specs.declared.items.Item.{Item}
use Rattle.cdc_follow.specs.declared.entries.Entry.{Entry}
use Rattle.cdc_follow.specs.Following.{FollowState, next_follow, outcome_of}
use Rattle.cdc_book_log.specs.Details.{items_of}
use Rattle.cdc_sql.specs.Places.{place_of}
use Rattle.cdc_sql.specs.Rows.{rows_after, rows_by}
use Rattle.cdc_sql.specs.Saves.{Step, events_in}
use Rattle.cdc_sql.specs.declared.places.Place.{Place}
use Rattle.cdc_sql.specs.declared.rows.AccountRow.{AccountRow}

-- the follower, where it was when it began to keep what it applies, whether it was saved then, and the rows and the
-- events that it has kept since
pub record RecordedState : Type 0 where
  pub follower : FollowState
  pub base : Place
  pub is_saved : Bool
  pub rows : List (ℕ × AccountRow)
  pub events : Option (List Event)

-- an entry that was taken, and the binding by which it was
pub record Taking : Type 0 where
  pub binding : Arguments
  pub entry : Entry

-- what is kept after entries
abbrev pub follow_taken : FollowState → List Taking → FollowState
follow_taken state [] = state
follow_taken state (taking ∷ later) = follow_taken (next_follow taking.binding state taking.entry) later

-- the items that the follower's subscriber is given of them: an event that is applied, and the end that is received
abbrev pub items_taken : FollowState → List Taking → List Item
items_taken state [] = []
items_taken state (taking ∷ later) =
    items_of (outcome_of taking.binding state taking.entry) taking.entry.content
    ++ items_taken (next_follow taking.binding state taking.entry) later

-- the events among them
abbrev pub events_taken : FollowState → List Taking → List Event
events_taken state taken = events_in (items_taken state taken)

-- the follower's step by them
abbrev pub step_taken : FollowState → List Taking → Step
step_taken state taken = record { after = place_of (follow_taken state taken); items = items_taken state taken }

-- From one follower to a later one: it took entries, and kept what it applied of them.
pub record RecordsOn (old new : RecordedState) : Type 0 where
  pub taken : List Taking
  pub base : new.base ≡ old.base
  pub is_saved : new.is_saved ≡ old.is_saved
  pub follower : new.follower ≡ follow_taken old.follower taken
  pub rows : new.rows ≡ rows_after old.rows (events_taken old.follower taken)
  pub events : new.events ≡ option_map (λ kept. kept ++ events_taken old.follower taken) old.events

-- The follower was this one once, and has since kept just what it applied.
pub record IsRecordedSince (past : FollowState) (now : RecordedState) : Type 0 where
  pub taken : List Taking
  pub base : now.base ≡ place_of past
  pub follower : now.follower ≡ follow_taken past taken
  pub rows : now.rows ≡ rows_by (events_taken past taken)
  pub events : now.events ≡ option_map (λ _. events_taken past taken) now.events
