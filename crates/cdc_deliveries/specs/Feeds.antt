-- The items of a feed by name, each with the timestamp of the event before it.
use Rattle.std.specs.Prelude.{ℕ, ◌==◌, List, [], ◌∷◌, if◌then◌else◌, Option, Some, None}
use Rattle.cdc_types.specs.declared.events.Event.{Event as SomeEvent}
use Rattle.cdc_types.specs.Timestamps.{last_timestamp}
use Rattle.cdc_world.specs.declared.moved.ItemName.{ItemName}
use Rattle.cdc_world.specs.declared.moved.ItemName.TheVariants.{Event, EndMark}
use Rattle.cdc_deliveries.specs.declared.feeds.Placed.{Placed}

-- the event of this timestamp in a feed, after an event of the timestamp `previous`
abbrev pub placed_after : ℕ → ℕ → List SomeEvent → Option Placed
placed_after previous t [] = None
placed_after previous t (event ∷ rest) =
    if event.timestamp == t then Some (record { previous = previous; event = Some event })
    else placed_after event.timestamp t rest

-- the item of this name, if the feed has it; the end mark comes after all events
abbrev pub placed : List SomeEvent → ItemName → Option Placed
placed fed (Event t) = placed_after 0 t fed
placed fed EndMark = Some (record { previous = last_timestamp fed; event = None })
