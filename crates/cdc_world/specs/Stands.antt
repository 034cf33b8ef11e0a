-- The states of the actors that represent a world.
use Rattle.std.specs.Prelude.{◌≡◌, ◌<◌, ◌≤◌, ℕ, Option, List, [], ◌∷◌, Contains, map}
use Rattle.cdc_broker.specs.Cursors.{Cursor}
use Rattle.cdc_broker.specs.Packets.{current_session, expected_tag, items_of}
use Rattle.cdc_broker.specs.Queues.{QueueState}
use Rattle.cdc_match.specs.Arguments.{Arguments}
use Rattle.cdc_match.specs.Queue.{queue}
use Rattle.cdc_message.specs.declared.items.Delivery.{Delivery}
use Rattle.cdc_message.specs.declared.items.Item.{Item}
use Rattle.cdc_message.specs.declared.packets.Confirm.{Confirm}
use Rattle.cdc_message.specs.declared.packets.Packet.{Packet}
use Rattle.cdc_publisher.specs.Courses.{Course}
use Rattle.cdc_publisher.specs.SessionState.{SessionState}
use Rattle.cdc_publisher.specs.Stands.{SessionStands}
use Rattle.cdc_subscriber.specs.Reception.{kept_of}
use Rattle.cdc_world.specs.Parts.{ActorParts, Parts, SubscriptionParts}
use Rattle.cdc_world.specs.Worlds.{Subscription, WorldState}

-- ---- the connector's side

-- for how many events a session waits, the session, and the packets that were sent
pub record ConnectorSide (A : Type 0) : Type 0 where
  pub window : ℕ
  pub session : Option A
  pub packets : List Packet

-- the connector's side of what is kept
abbrev pub connector_parts : ActorParts → ConnectorSide SessionState
connector_parts a = record { window = a.window; session = a.session; packets = a.packets }

-- and of a world
abbrev pub connector_of : WorldState → ConnectorSide Course
connector_of w = record { window = w.window; session = w.session; packets = w.packets }

-- the one represents the other
pub record ConnectorStands (kept : ConnectorSide SessionState) (side : ConnectorSide Course) : Type 0 where
  pub window : kept.window ≡ side.window
  pub session : SessionStands kept.session side.session
  pub packets : kept.packets ≡ side.packets

-- ---- the broker's side

-- the current session, the tag that is taken next, and the confirms that were sent
pub record BrokerSide : Type 0 where
  pub connection : ℕ
  pub expected : Option ℕ
  pub confirms : List Confirm

-- the broker's side of what is kept
abbrev pub broker_parts : ActorParts → BrokerSide
broker_parts a =
    record { connection = a.broker.connection; expected = a.broker.expected; confirms = a.confirms }

-- and of a world
abbrev pub broker_of : WorldState → BrokerSide
broker_of w =
    record { connection = current_session w.accepted; expected = expected_tag w.accepted; confirms = w.confirms }

-- ---- the subscribers' side

-- a queue without the greatest position that it delivered
pub record QueueView : Type 0 where
  pub binding : Arguments
  pub items : List Item
  pub cursor : Cursor

-- what is seen so of a queue of the broker
abbrev pub view_of : QueueState → QueueView
view_of q = record { binding = q.binding; items = q.items; cursor = q.cursor }

-- the queue of a subscription, if these items were taken
abbrev pub queue_for : List Item → Subscription → QueueView
queue_for items s = record { binding = s.binding; items = queue items s.binding; cursor = s.cursor }

-- what is kept of a subscription
abbrev pub parts_of : Subscription → SubscriptionParts
parts_of s = record { kept = kept_of s.reception; flight = s.flight; acks = s.acks }

-- a position is one of the first so many
abbrev pub IsDelivered : ℕ → ℕ → Type 0
IsDelivered delivered position = (0 < position) × (position ≤ delivered)

-- a queue's cursor is at a position from 1 on, and what is on its way to the subscriber, or was acknowledged by it,
-- was delivered, up to this position
pub record WereDelivered (delivered : ℕ) (s : Subscription) : Type 0 where
  pub first : 0 < s.cursor.next
  pub flight : (d : Delivery) → Contains s.flight d → IsDelivered delivered d.position
  pub acks : (position : ℕ) → Contains s.acks position → IsDelivered delivered position

-- the same of all subscribers and their queues
abbrev pub HaveDelivered : List QueueState → List Subscription → Type 0
HaveDelivered [] subscriptions = Unit {0}
HaveDelivered (q ∷ queues) [] = Unit {0}
HaveDelivered (q ∷ queues) (s ∷ subscriptions) = WereDelivered q.delivered s × HaveDelivered queues subscriptions

-- the queues, of the items that were taken, and the kept state of each subscription represent the subscriptions
pub record SubscribersStand (qs : List QueueState) (kept : List SubscriptionParts) (items : List Item)
    (ss : List Subscription) : Type 0 where
  pub queues : map view_of qs ≡ map (queue_for items) ss
  pub subscriptions : kept ≡ map parts_of ss
  pub delivered : HaveDelivered qs ss

-- ---- the whole

-- the kept state of the actors represents this state of the world, whatever the store holds
pub record ActorsStand (a : ActorParts) (w : WorldState) : Type 0 where
  pub history : a.history ≡ w.history
  pub connector : ConnectorStands (connector_parts a) (connector_of w)
  pub broker : broker_parts a ≡ broker_of w
  pub subscribers : SubscribersStand a.broker.queues a.subscriptions (items_of w.accepted) w.subscriptions

-- the kept state represents this state of the world
pub record Stands (p : Parts) (w : WorldState) : Type 0 where
  pub actors : ActorsStand p.actors w
  pub held : p.held ≡ w.held
