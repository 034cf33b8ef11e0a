-- A queue of a broker: the items that it holds, and how far they were delivered and acknowledged.
use Rattle.std.specs.Prelude.{ℕ, ◌==◌, ◌||◌, max, nat_lt, Bool, Option, Some, None, List, [], ◌∷◌, ◌++◌, if◌then◌else◌}
use Rattle.cdc_match.specs.Arguments.{Arguments}
use Rattle.cdc_match.specs.Queue.{takes_item}
use Rattle.cdc_message.specs.Event.{Event}
use Rattle.cdc_message.specs.Items.{item_event}
use Rattle.cdc_message.specs.declared.items.Item.{Item}
use Rattle.cdc_message.specs.declared.items.Delivery.{Delivery}
use Rattle.cdc_broker.specs.Cursors.{Cursor, after_ack, after_delivery, delivery_at, first_cursor, rewound}

-- the items of a queue in the order of their arrival, at positions from 1 on; its cursor; and the greatest position
-- that was delivered
pub record QueueState : Type 0 where
  pub binding : Arguments
  pub items : List Item
  pub cursor : Cursor
  pub delivered : ℕ

-- a queue that nothing has come to
abbrev pub empty_queue : Arguments → QueueState
empty_queue binding = record { binding = binding; items = []; cursor = first_cursor; delivered = 0 }

-- the item, if it belongs to the queue of the binding
abbrev pub item_for : Arguments → Item → Option Item
item_for binding item = if takes_item binding item then Some item else None

-- the queue with an item at its back, if there is one
abbrev pub with_item : Option Item → QueueState → QueueState
with_item None q = q
with_item (Some item) q = record q { items = q.items ++ item ∷ [] }

-- the queue after an item was accepted: the item is added at the back if it belongs to the queue
abbrev pub queued : Item → QueueState → QueueState
queued item q = with_item (item_for q.binding item) q

-- the next delivery: the item at the cursor, with its position
abbrev pub next_delivery : QueueState → Option Delivery
next_delivery q = delivery_at q.cursor q.items

-- the event of a delivery, unless there is none or it is an end mark
abbrev pub delivered_event : Option Delivery → Option Event
delivered_event None = None
delivered_event (Some delivery) = item_event delivery.item

-- the queue after a delivery, if there was one
abbrev pub with_delivery : Option Delivery → QueueState → QueueState
with_delivery None q = q
with_delivery (Some delivery) q =
    record q { cursor = after_delivery q.cursor; delivered = max q.delivered q.cursor.next }

-- the queue after its cursor went back to the first position that isn't acknowledged
abbrev pub rewound_queue : QueueState → QueueState
rewound_queue q = record q { cursor = rewound q.cursor }

-- the position was never delivered
abbrev pub is_unknown : QueueState → ℕ → Bool
is_unknown q position = (position == 0) || nat_lt q.delivered position

-- the queue after an acknowledgement of a position that was delivered
abbrev pub acknowledged : ℕ → QueueState → QueueState
acknowledged position q = record q { cursor = after_ack position q.cursor }
