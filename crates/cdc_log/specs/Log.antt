-- A log of events, as contracts see it.
use Rattle.std.specs.Prelude.{ℕ, List, filter, nat_lt}
use Rattle.cdc_types.specs.declared.events.Event.{Event}
-- each event is later than the timestamp that the list rises from, and later than the event before it
pub use Rattle.cdc_types.specs.Timestamps.{RiseFrom}

-- the events in the order of their timestamps, and for how many more there is room
pub record Log : Type 0 where
  pub events : List Event
  pub room : ℕ

-- the events that are later than the timestamp t, in order
abbrev pub events_after : ℕ → List Event → List Event
events_after t events = filter (λ e. nat_lt t e.timestamp) events
