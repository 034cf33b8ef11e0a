-- Lists of items: the events in them, and which of these are new by their timestamps.
use Rattle.std.specs.Prelude.{Bool, true, false, ◌&&◌, ◌<◌, nat_lt, Option, Some, None, List, [], ◌∷◌, ◌++◌, All, AllPairs, if◌then◌else◌}
use Rattle.std.specs.List.{list_all, filter_map}
use Rattle.cdc_types.specs.contracts.events.EventPartialEq.TheImpl as of_events
use Rattle.cdc_types.specs.declared.events.Event.{Event}
use Rattle.cdc_message.specs.declared.items.Item.{Item}
use Rattle.cdc_message.specs.declared.items.Item.TheVariants.{Event as OfEvent, EndMark}

-- the event of an item
abbrev pub item_event : Item → Option Event
item_event (OfEvent event) = Some event
item_event EndMark = None

-- the events of a list of items
abbrev pub events_of : List Item → List Event
events_of items = filter_map item_event items

-- two events agree in every field, as `==` has it
abbrev pub same_event : Event → Event → Bool
same_event a b = of_events.ghosts.eq a b

-- both are end marks, or both are messages of events that agree in every field
abbrev pub same_item : Item → Item → Bool
same_item (OfEvent a) (OfEvent b) = same_event a b
same_item (OfEvent a) EndMark = false
same_item EndMark (OfEvent b) = false
same_item EndMark EndMark = true

-- the event is later than each event before it, and its timestamp isn't 0
abbrev pub is_newest : List Event → Event → Bool
is_newest before event = nat_lt 0 event.timestamp && list_all (λ other. nat_lt other.timestamp event.timestamp) before

-- the events that are the newest when they are received, after some that were received before
abbrev pub newest_after : List Event → List Event → List Event
newest_after before [] = []
newest_after before (event ∷ events) =
    if is_newest before event then event ∷ newest_after (before ++ event ∷ []) events
    else newest_after (before ++ event ∷ []) events

-- the events that are later than each one before them, and not at 0
abbrev pub rises : List Event → List Event
rises events = newest_after [] events

-- timestamps are above 0, and each is above all those before it
pub record TimestampsRise (events : List Event) : Type 0 where
  pub above_zero : All (λ event. 0 < event.timestamp) events
  pub rising : AllPairs (λ earlier later. earlier.timestamp < later.timestamp) events
