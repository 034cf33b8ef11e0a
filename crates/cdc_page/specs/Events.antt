-- The events of a ledger in the data of a page.
use Rattle.std.specs.Prelude.{ℕ, List, ◌++◌, codes, flat_map, if◌then◌else◌}
use Rattle.cdc_match.specs.Arguments.{Arguments}
use Rattle.cdc_match.specs.Matching.{matches}
use Rattle.cdc_message.specs.Bodies.{body}
use Rattle.cdc_message.specs.Headers.{headers_of_event}
use Rattle.cdc_types.specs.declared.events.Event.{Event}

-- 1 if a subscriber's binding takes the event, else 0
abbrev pub taken_flag : Event → Arguments → List ℕ
taken_flag event binding = if matches binding (headers_of_event event) then codes "1" else codes "0"

-- an event: a flag for each subscriber, and the body of its message
abbrev pub event_json : List Arguments → Event → List ℕ
event_json bindings event =
    codes ",\n{\"queues\":\"" ++ (flat_map (taken_flag event) bindings ++ (codes "\",\"body\":" ++ (body event ++ codes "}")))

-- events, each after a comma
abbrev pub events_json : List Arguments → List Event → List ℕ
events_json bindings all = flat_map (event_json bindings) all
