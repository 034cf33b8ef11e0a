-- The saves of a follower.
use Rattle.std.specs.Prelude.{ℕ, Bool, if◌then◌else◌, List, [], ◌∷◌}
use Rattle.std.specs.List.{flat_map}
use Rattle.cdc_types.specs.declared.events.Event.{Event}
use Rattle.cdc_message.specs.declared.items.Item.{Item}
use Rattle.cdc_message.specs.declared.items.Item.TheVariants as item
use Rattle.cdc_sql.specs.Rows.{events_kept, rows_by}
use Rattle.cdc_sql.specs.declared.places.Place.{Place}
use Rattle.cdc_sql.specs.declared.rows.AccountRow.{AccountRow}
use Rattle.cdc_sql.specs.declared.rows.Recent.{Recent}

-- a save: the follower went from one place to another one, and meanwhile these accounts changed, and these events were
-- applied, if events are kept
pub record Save : Type 0 where
  pub before : Place
  pub after : Place
  pub rows : List (ℕ × AccountRow)
  pub events : List Event

-- a step of a follower from one save to the next one: where it went, and the items that its subscriber was given
pub record Step : Type 0 where
  pub after : Place
  pub items : List Item

-- the event that an item carries
abbrev pub event_in : Item → List Event
event_in (item.Event e) = e ∷ []
event_in item.EndMark = []

-- the events that items carry
abbrev pub events_in : List Item → List Event
events_in items = flat_map event_in items

-- events, if they are kept
abbrev pub kept_if : Bool → List Event → List Event
kept_if keeps events = if keeps then events else []

-- the save of a step from this place on
abbrev pub save_of : Bool → Place → Step → Save
save_of keeps place step = record {
  before = place;
  after = step.after;
  rows = rows_by (events_in step.items);
  events = kept_if keeps (events_in step.items);
}

-- the saves of a follower that begins at a place: each begins where the one before ended
abbrev pub saves_from : Bool → Place → List Step → List Save
saves_from keeps place [] = []
saves_from keeps place (step ∷ steps) = save_of keeps place step ∷ saves_from keeps step.after steps

-- the save between two places of what was kept meanwhile
abbrev pub save_between : Place → Place → Recent → Save
save_between from to recent =
    record { before = from; after = to; rows = recent.rows.entries; events = events_kept recent.events }
