-- Requests to a queue, and what it can deliver after them.
use Rattle.std.specs.Prelude.{ℕ, ◌<◌, List, [], ◌∷◌, IfSome, if◌then◌else◌}
use Rattle.cdc_match.specs.Arguments.{Arguments}
use Rattle.cdc_message.specs.declared.items.Item.{Item}
use Rattle.cdc_broker.specs.Queues.{QueueState, acknowledged, empty_queue, is_unknown, next_delivery, queued, rewound_queue, with_delivery}

-- an item is accepted, the next item is delivered, a position is acknowledged, or the queue rewinds
pub data Request : Type 0 where
  Accept : Item → Request
  Deliver : Request
  Acknowledge : ℕ → Request
  Rewind : Request

-- the queue after a request; an acknowledgement of a position that was never delivered is ignored
abbrev pub after_request : QueueState → Request → QueueState
after_request q (Accept item) = queued item q
after_request q Deliver = with_delivery (next_delivery q) q
after_request q (Acknowledge position) = if is_unknown q position then q else acknowledged position q
after_request q Rewind = rewound_queue q

-- the queue after these requests, in order
abbrev pub after_requests : QueueState → List Request → QueueState
after_requests q [] = q
after_requests q (request ∷ requests) = after_requests (after_request q request) requests

-- whatever comes after some requests, a delivery is past all positions that were acknowledged by then
abbrev pub NothingAcknowledgedIsRedelivered : Type 0
NothingAcknowledgedIsRedelivered = (binding : Arguments) (earlier later : List Request)
    → let now = after_requests (empty_queue binding) earlier in
    IfSome (next_delivery (after_requests now later)) (λ delivery. now.cursor.acked < delivery.position)
