-- The world: all that the actors have done, as far as anything to come can depend on it.
use Rattle.std.specs.Prelude.{◌≡◌, ℕ, ◌-◌, ◌==◌, Option, None, Some, List, [], map, slice_get, slice_set, if◌then◌else◌}
use Rattle.cdc_broker.specs.Cursors.{Cursor, first_cursor}
use Rattle.cdc_broker.specs.Packets.{items_of}
use Rattle.cdc_laws.specs.Connectors.{held_start}
use Rattle.cdc_ledger.specs.History.{History, empty_history}
use Rattle.cdc_match.specs.Arguments.{Arguments}
use Rattle.cdc_match.specs.Queue.{queue}
use Rattle.cdc_message.specs.declared.items.Delivery.{Delivery}
use Rattle.cdc_message.specs.declared.items.Item.{Item}
use Rattle.cdc_message.specs.declared.packets.Confirm.{Confirm}
use Rattle.cdc_message.specs.declared.packets.Packet.{Packet}
use Rattle.cdc_progress.specs.Records.{Saved}
use Rattle.cdc_publisher.specs.Courses.{Course}
use Rattle.cdc_subscriber.specs.Reception.{Reception, nothing}

-- a subscriber and its queue: the binding; what the queue delivered and the subscriber has taken, in order; what was
-- delivered and is on its way; the positions that the subscriber has acknowledged, in order; the cursor of the queue;
-- and what the subscriber has received
pub record Subscription : Type 0 where
  pub binding : Arguments
  pub taken : List Delivery
  pub flight : List Delivery
  pub acks : List ℕ
  pub cursor : Cursor
  pub reception : Reception

-- the ledger's history; what the store holds; how many events of a session may wait for their confirms at a time; the
-- connector's session, or none if it is down; the packets and the confirms that were ever sent, in order; the packets
-- that the broker took, one after another; and the subscribers with their queues
pub record WorldState : Type 0 where
  pub history : History
  pub held : Option Saved
  pub window : ℕ
  pub session : Option Course
  pub packets : List Packet
  pub confirms : List Confirm
  pub accepted : List Packet
  pub subscriptions : List Subscription

-- a subscriber that nothing has come to
abbrev pub new_subscription : Arguments → Subscription
new_subscription binding = record {
  binding = binding;
  taken = [];
  flight = [];
  acks = [];
  cursor = first_cursor;
  reception = nothing;
}

-- the world before the first step, over a store that holds this
abbrev pub new_world : List Arguments → ℕ → Option Saved → WorldState
new_world bindings window held = record {
  history = empty_history;
  held = held;
  window = window;
  session = None;
  packets = [];
  confirms = [];
  accepted = [];
  subscriptions = map new_subscription bindings;
}

-- the element of this number, from 1 on, if there is one
abbrev pub numbered : {X : Type 0} → List X → ℕ → Option X
numbered xs k = if k == 0 then None else slice_get xs (k - 1)

-- this number was looked up: something has it, or nothing does
abbrev pub Finds : {X : Type 0} → List X → ℕ → Option ℕ → Type 0
Finds xs k None = numbered xs k ≡ None
Finds {X} xs k (Some found) = (found ≡ k) × ((x : X) × (numbered xs k ≡ Some x))

-- the list with another element under this number
abbrev pub with_numbered : {X : Type 0} → ℕ → X → List X → List X
with_numbered k x xs = slice_set xs (k - 1) x

-- the start: the timestamp after which the connector publishes events; 0 if none has been saved
abbrev pub start_of : WorldState → ℕ
start_of w = held_start w.held

-- the items that the broker took, in order
abbrev pub taken_items : WorldState → List Item
taken_items w = items_of w.accepted

-- the queue of a subscriber
abbrev pub queue_in : WorldState → Subscription → List Item
queue_in w s = queue (taken_items w) s.binding
