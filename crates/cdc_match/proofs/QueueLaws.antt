-- The events of a queue, and the queue of events.
use Rattle.std.proofs.Common.{◌≡◌, Bool, true, false, cond, List, [], ◌∷◌, map, refl, ap}
use Rattle.cdc_types.specs.declared.events.Event.{Event}
use Rattle.cdc_message.specs.declared.items.Item.{Item}
use Rattle.cdc_message.specs.declared.items.Item.TheVariants.{Event as OfEvent, EndMark}
use Rattle.cdc_message.specs.Items.{events_of}
use Rattle.cdc_match.specs.Arguments.{Arguments}
use Rattle.cdc_match.specs.Queue.{takes_event, queue, feed}

-- an event, whether or not the binding takes it
one_more : (event : Event) (items : List Item) (events : List Event) (b : Bool) → events_of items ≡ events
    → events_of (cond b (OfEvent event ∷ items) items) ≡ cond b (event ∷ events) events
one_more event items events true h = ap (λ es. event ∷ es) h
one_more event items events false h = h

-- the events of a queue are those events that the binding takes
pub events_of-queue : (items : List Item) (binding : Arguments)
    → events_of (queue items binding) ≡ feed (events_of items) binding
events_of-queue [] binding = refl
events_of-queue (OfEvent event ∷ items) binding =
    one_more event (queue items binding) (feed (events_of items) binding) (takes_event binding event)
    (events_of-queue items binding)
events_of-queue (EndMark ∷ items) binding = events_of-queue items binding

-- one message, whether or not the binding takes its event
message_first : (event : Event) (items : List Item) (events : List Event) (b : Bool) → items ≡ map OfEvent events
    → cond b (OfEvent event ∷ items) items ≡ map OfEvent (cond b (event ∷ events) events)
message_first event items events true h = ap (λ rest. OfEvent event ∷ rest) h
message_first event items events false h = h

-- of the messages of events a queue has those of the feed, in order
pub queue-map_messages : (events : List Event) (binding : Arguments)
    → queue (map OfEvent events) binding ≡ map OfEvent (feed events binding)
queue-map_messages [] binding = refl
queue-map_messages (event ∷ events) binding =
    message_first event (queue (map OfEvent events) binding) (feed events binding) (takes_event binding event)
    (queue-map_messages events binding)
