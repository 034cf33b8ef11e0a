-- The timestamps of a list of events.
use Rattle.std.specs.Prelude.{ℕ, ◌<◌, List, [], ◌∷◌}
use Rattle.cdc_types.specs.declared.events.Event.{Event}

-- the timestamp of the last event, or t if there is none
abbrev pub last_timestamp_from : ℕ → List Event → ℕ
last_timestamp_from t [] = t
last_timestamp_from t (event ∷ events) = last_timestamp_from event.timestamp events

-- the timestamp of the last event, or 0
abbrev pub last_timestamp : List Event → ℕ
last_timestamp events = last_timestamp_from 0 events

-- each event is later than the timestamp t and later than the event before it
abbrev pub RiseFrom : ℕ → List Event → Type 0
RiseFrom t [] = Unit {0}
RiseFrom t (event ∷ events) = (t < event.timestamp) × RiseFrom event.timestamp events
