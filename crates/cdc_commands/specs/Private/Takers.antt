-- What subscribers make of a broker's queues while they take them.
use Rattle.std.specs.Prelude.{◌≡◌, ℕ, ◌+◌, List, [], ◌∷◌, ◌++◌, Option, Some, None, length, map, if◌then◌else◌}
use Rattle.cdc_broker.specs.Broker.{BrokerState, queue_of, with_queue}
use Rattle.cdc_broker.specs.Queues.{QueueState, acknowledged, is_unknown, next_delivery, with_delivery}
use Rattle.cdc_match.specs.Arguments.{Arguments}
use Rattle.cdc_match.specs.Queue.{queue}
use Rattle.cdc_message.specs.declared.items.Delivery.{Delivery}
use Rattle.cdc_message.specs.declared.items.Item.{Item}
use Rattle.cdc_subscriber.specs.Reception.{Reception, next, kept_of}
use Rattle.cdc_subscriber.specs.SubscriberState.{SubscriberState}
use Rattle.cdc_subscriber.specs.Lines.{subscriber_text}
use Rattle.cdc_commands.specs.Feeds.{kept_by}

-- the lines of subscribers that keep this, of which the first has this number
abbrev pub kept_text : ℕ → List SubscriberState → List ℕ
kept_text n [] = []
kept_text n (kept ∷ rest) = subscriber_text n kept ++ kept_text (n + 1) rest

-- what was received after a delivery, if there was one
abbrev pub receiving_delivery : Option Delivery → Reception → Reception
receiving_delivery None reception = reception
receiving_delivery (Some delivery) reception = next reception delivery.item

-- the queue after its subscriber acknowledged a position; nothing changes if the position was never delivered
abbrev pub with_ack : ℕ → QueueState → QueueState
with_ack position q = if is_unknown q position then q else acknowledged position q

-- the queue after its subscriber took a delivery, if there was one, and acknowledged it
abbrev pub with_taken : Option Delivery → QueueState → QueueState
with_taken None q = q
with_taken (Some delivery) q = with_ack delivery.position (with_delivery (Some delivery) q)

-- a subscriber whose state follows from what it has received takes what a queue delivers next, if there is anything,
-- and acknowledges it
abbrev pub TakesDelivery : ℕ → BrokerState → BrokerState → SubscriberState → SubscriberState → Type 0
TakesDelivery i old new before after =
    (new ≡ with_queue i (with_taken (next_delivery (queue_of old i)) (queue_of old i)) old)
    × ((reception : Reception) → before ≡ kept_of reception
    → after ≡ kept_of (receiving_delivery (next_delivery (queue_of old i)) reception))

-- a queue to which these items were published, and all of whose own were delivered and acknowledged
abbrev pub caught_up : List Item → Arguments → QueueState
caught_up items binding = record {
  binding = binding;
  items = queue items binding;
  cursor = record { next = length (queue items binding) + 1; acked = length (queue items binding) };
  delivered = length (queue items binding);
}

-- these items were published to a broker with queues of these bindings, and each subscriber has taken its whole queue
pub record AreFed (bindings : List Arguments) (items : List Item) (broker : BrokerState)
    (subscribers : List SubscriberState) : Type 0 where
  pub queues : broker.queues ≡ map (caught_up items) bindings
  pub kept : subscribers ≡ map (kept_by items) bindings
