-- A queue's cursor: how far its items were delivered and acknowledged.
use Rattle.std.specs.Prelude.{ℕ, ◌+◌, ◌-◌, max, Option, List, slice_get}
use Rattle.std.specs.Option.{option_map}
use Rattle.cdc_message.specs.declared.items.Item.{Item}
use Rattle.cdc_message.specs.declared.items.Delivery.{Delivery}

-- the position that is delivered next, from 1 on, and the position up to which all are acknowledged, 0 if none is
pub record Cursor : Type 0 where
  pub next : ℕ
  pub acked : ℕ

-- the cursor of a queue that has delivered nothing
abbrev pub first_cursor : Cursor
first_cursor = record { next = 1; acked = 0 }

-- the next delivery of these items: the item at the cursor, with its position
abbrev pub delivery_at : Cursor → List Item → Option Delivery
delivery_at cursor items =
    option_map (λ item. record { position = cursor.next; item = item }) (slice_get items (cursor.next - 1))

-- the cursor after a delivery: it goes to the next position
abbrev pub after_delivery : Cursor → Cursor
after_delivery cursor = record cursor { next = cursor.next + 1 }

-- the cursor after a rewind: it is at the first unacknowledged position
abbrev pub rewound : Cursor → Cursor
rewound cursor = record cursor { next = cursor.acked + 1 }

-- the cursor after an acknowledgement of a position: it covers all positions up to it, and moves the cursor past them
-- if it is at one of them
abbrev pub after_ack : ℕ → Cursor → Cursor
after_ack position cursor = record {
  next = max cursor.next (max cursor.acked position + 1);
  acked = max cursor.acked position;
}
