-- What holds of each subscriber and its queue in every world that steps lead to. Cited by proofs alone.
use Rattle.std.specs.Prelude.{◌≡◌, ◌⊎◌, ℕ, Some, List, ◌++◌, Contains}
use Rattle.cdc_broker.specs.Queues.{QueueState}
use Rattle.cdc_laws.specs.Brokers.{HasDelivered}
use Rattle.cdc_laws.specs.Deliveries.{positions_in}
use Rattle.cdc_laws.specs.Receiving.{HasTaken}
use Rattle.cdc_message.specs.declared.items.Delivery.{Delivery}
use Rattle.cdc_message.specs.declared.items.Item.{Item}
use Rattle.cdc_world.specs.Worlds.{Subscription, WorldState, numbered, queue_in}

-- all that was delivered and came or may yet come, in order
abbrev pub sent_to : Subscription → List Delivery
sent_to s = s.taken ++ s.flight

-- the queue of a subscriber that holds these items, with this as the greatest position delivered
abbrev pub queue_at : List Item → ℕ → Subscription → QueueState
queue_at items delivered s =
    record { binding = s.binding; items = items; cursor = s.cursor; delivered = delivered }

-- what holds for a subscriber whose queue has these items: its queue has delivered what came or may yet come, up to
-- some position; it has taken what came; it acknowledged that; and the broker knows of one of these acknowledgements,
-- or of none
pub record IsServed (items : List Item) (s : Subscription) : Type 0 where
  pub delivered : ℕ
  pub out : HasDelivered (queue_at items delivered s) (sent_to s)
  pub receives : HasTaken s.reception s.taken
  pub acks : s.acks ≡ positions_in s.taken
  pub acked : (s.cursor.acked ≡ 0) ⊎ Contains s.acks s.cursor.acked

-- the same of a subscriber of a world
abbrev pub IsQueued : WorldState → Subscription → Type 0
IsQueued w s = IsServed (queue_in w s) s

-- the same of all subscribers
abbrev pub AreQueued : WorldState → Type 0
AreQueued w = (i : ℕ) (s : Subscription) → numbered w.subscriptions i ≡ Some s → IsQueued w s
