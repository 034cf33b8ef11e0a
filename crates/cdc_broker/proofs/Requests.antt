-- A queue's cursor is past what is acknowledged, whatever requests come.
use Rattle.std.proofs.Common.{ℕ, ◌-◌, ◌<◌, ◌≤◌, Bool, true, false, List, [], ◌∷◌, Option, Some, None, arith}
use Rattle.std.specs.Prelude.{IfSome, slice_get, if◌then◌else◌}
use Rattle.std.specs.Option.{option_map}
use Rattle.cdc_message.specs.declared.items.Item.{Item}
use Rattle.cdc_message.specs.declared.items.Delivery.{Delivery}
use Rattle.cdc_broker.specs.Cursors.{Cursor}
use Rattle.cdc_broker.specs.Queues.{QueueState, acknowledged, is_unknown, item_for, next_delivery, with_delivery, with_item}
use Rattle.cdc_broker.specs.Requests.{Request, Accept, Deliver, Acknowledge, Rewind, after_request, after_requests}

-- the cursor is past what it has acknowledged, and that is at least what was acknowledged earlier
pub record IsPast (earlier : ℕ) (cursor : Cursor) : Type 0 where
  pub past : cursor.acked < cursor.next
  pub least : earlier ≤ cursor.acked

-- so it is if an item comes or doesn't
past_item : (item : Option Item) (earlier : ℕ) (q : QueueState) → IsPast earlier q.cursor
    → IsPast earlier (with_item item q).cursor
past_item None earlier q is = is
past_item (Some item) earlier q is = is

-- if one is delivered or isn't
past_delivery : (delivery : Option Delivery) (earlier : ℕ) (q : QueueState) → IsPast earlier q.cursor
    → IsPast earlier (with_delivery delivery q).cursor
past_delivery None earlier q is = is
past_delivery (Some delivery) earlier q is =
    let past = is.past in
    record { past = omega arith; least = is.least }

-- and if a position is acknowledged or isn't known
past_ack : (unknown : Bool) (position earlier : ℕ) (q : QueueState) → IsPast earlier q.cursor
    → IsPast earlier (if unknown then q else acknowledged position q).cursor
past_ack true position earlier q is = is
past_ack false position earlier q is =
    let past = is.past in
    let least = is.least in
    record { past = omega arith; least = omega arith }

-- after any request
past_request : (request : Request) (earlier : ℕ) (q : QueueState) → IsPast earlier q.cursor
    → IsPast earlier (after_request q request).cursor
past_request (Accept item) earlier q is = past_item (item_for q.binding item) earlier q is
past_request Deliver earlier q is = past_delivery (next_delivery q) earlier q is
past_request (Acknowledge position) earlier q is = past_ack (is_unknown q position) position earlier q is
past_request Rewind earlier q is = record { past = omega arith; least = is.least }

-- and after any list of them
pub past_requests : (requests : List Request) (earlier : ℕ) (q : QueueState) → IsPast earlier q.cursor
    → IsPast earlier (after_requests q requests).cursor
past_requests [] earlier q is = is
past_requests (request ∷ requests) earlier q is =
    past_requests requests earlier (after_request q request) (past_request request earlier q is)

-- a delivery has the position of the cursor
at_cursor : (item : Option Item) (next earlier : ℕ) → earlier < next
    → IfSome (option_map (λ item. let d : Delivery = record { position = next; item = item } in d) item)
    (λ delivery. earlier < delivery.position)
at_cursor None next earlier past = tt
at_cursor (Some item) next earlier past = past

pub delivers_past : (earlier : ℕ) (q : QueueState) → IsPast earlier q.cursor
    → IfSome (next_delivery q) (λ delivery. earlier < delivery.position)
delivers_past earlier q is =
    let past = is.past in
    let least = is.least in
    at_cursor (slice_get q.items (q.cursor.next - 1)) q.cursor.next earlier (omega arith)
