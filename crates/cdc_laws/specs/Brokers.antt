-- What holds at all times for a broker and for each of its queues.
use Rattle.std.specs.Prelude.{◌≡◌, ◌+◌, ◌≤◌, List, Contains, length, take}
use Rattle.cdc_broker.specs.Broker.{BrokerState, HasAccepted}
use Rattle.cdc_broker.specs.Packets.{current_session, expected_tag, items_of}
use Rattle.cdc_broker.specs.Queues.{QueueState}
use Rattle.cdc_laws.specs.Arrivals.{AreOfTaken, taken_of}
use Rattle.cdc_laws.specs.Deliveries.{deliveries}
use Rattle.cdc_message.specs.declared.items.Delivery.{Delivery}
use Rattle.cdc_message.specs.declared.packets.Confirm.{Confirm}
use Rattle.cdc_message.specs.declared.packets.Packet.{Packet}
use Rattle.cdc_message.specs.Replays.{IsReplay}

-- a broker at which these packets arrived, and which sent these confirms: its connection, the tag that it takes next
-- and its queues are what it took of the packets, and it confirmed nothing else
pub record HasArrived (b : BrokerState) (arrived : List Packet) (confirms : List Confirm) : Type 0 where
  pub connection : b.connection ≡ current_session (taken_of arrived)
  pub expected : b.expected ≡ expected_tag (taken_of arrived)
  pub queues : HasAccepted b (items_of (taken_of arrived))
  pub confirmed : AreOfTaken confirms (taken_of arrived)

-- a queue that has made these deliveries: late or again, but with none left out, and each up to the greatest position
-- that was delivered; the next one is at most one position further, and no more is acknowledged than was delivered
pub record HasDelivered (q : QueueState) (out : List Delivery) : Type 0 where
  pub replay : IsReplay out (deliveries q.items)
  pub all : (d : Delivery) → Contains (take q.delivered (deliveries q.items)) d → Contains out d
  pub there : q.delivered ≤ length q.items
  pub from_one : 1 ≤ q.cursor.next
  pub next_at_most : q.cursor.next ≤ q.delivered + 1
  pub acked_delivered : q.cursor.acked ≤ q.delivered
