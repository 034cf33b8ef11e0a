-- What goes to the queue of a binding (AMQP 0-9-1: an exchange hands a message to each queue whose binding matches it).
use Rattle.std.specs.Prelude.{Bool, true, List, filter}
use Rattle.cdc_types.specs.declared.events.Event.{Event}
use Rattle.cdc_message.specs.declared.items.Item.{Item}
use Rattle.cdc_message.specs.declared.items.Item.TheVariants.{Event as OfEvent, EndMark}
use Rattle.cdc_message.specs.Headers.{headers_of_event}
use Rattle.cdc_match.specs.Arguments.{Arguments}
use Rattle.cdc_match.specs.Matching.{matches}

-- whether a binding takes the message of an event
abbrev pub takes_event : Arguments → Event → Bool
takes_event binding event = matches binding (headers_of_event event)

-- the item goes to the queue of the binding; an end mark goes to every queue
abbrev pub takes_item : Arguments → Item → Bool
takes_item binding (OfEvent event) = takes_event binding event
takes_item binding EndMark = true

-- the items of a list that go to the queue of a binding, in their order
abbrev pub queue : List Item → Arguments → List Item
queue items binding = filter (takes_item binding) items

-- the events of a list that go to the queue of a binding, in their order
abbrev pub feed : List Event → Arguments → List Event
feed events binding = filter (takes_event binding) events
