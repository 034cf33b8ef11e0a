-- What a ledger has to publish.
use Rattle.std.specs.Prelude.{ℕ, Bool, List, [], ◌∷◌, ◌++◌, map, if◌then◌else◌}
use Rattle.cdc_ledger.specs.Events.{events}
use Rattle.cdc_ledger.specs.History.{History}
use Rattle.cdc_log.specs.Log.{events_after}
use Rattle.cdc_match.specs.Arguments.{Arguments}
use Rattle.cdc_match.specs.Queue.{feed}
use Rattle.cdc_message.specs.declared.items.Item.{Item}
use Rattle.cdc_message.specs.declared.items.Item.TheVariants.{Event as OfEvent, EndMark}
use Rattle.cdc_types.specs.declared.events.Event.{Event}

-- the end mark, if there is one
abbrev pub end_mark_if : Bool → List Item
end_mark_if closed = if closed then EndMark ∷ [] else []

-- events in their order, followed by the end mark if no more follow
abbrev pub emitted : List Event → Bool → List Item
emitted es closed = map OfEvent es ++ end_mark_if closed

-- what a ledger has to publish: the events of its history in order, and the end mark once it is closed
abbrev pub line : History → List Item
line h = emitted (events h) h.closed

-- what it has to publish after a timestamp, as after the start of a connector that joined late: the later events, and
-- the end mark once it is closed
abbrev pub line_after : History → ℕ → List Item
line_after h time = emitted (events_after time (events h)) h.closed

-- the events of a history that a binding takes, in order
abbrev pub feed_of : History → Arguments → List Event
feed_of h binding = feed (events h) binding

-- those of them after a timestamp
abbrev pub feed_after : History → ℕ → Arguments → List Event
feed_after h time binding = feed (events_after time (events h)) binding
