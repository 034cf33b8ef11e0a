-- What a world keeps.
use Rattle.std.specs.Prelude.{ℕ, Bool, Option, List}
use Rattle.cdc_broker.specs.Broker.{BrokerState}
use Rattle.cdc_ledger.specs.History.{History}
use Rattle.cdc_message.specs.declared.items.Delivery.{Delivery}
use Rattle.cdc_message.specs.declared.packets.Confirm.{Confirm}
use Rattle.cdc_message.specs.declared.packets.Packet.{Packet}
use Rattle.cdc_progress.specs.Records.{Saved}
use Rattle.cdc_progress.specs.Stores.{Risks}
use Rattle.cdc_publisher.specs.SessionState.{SessionState}
use Rattle.cdc_subscriber.specs.SubscriberState.{SubscriberState}
use Rattle.cdc_world.specs.declared.subscriptions.Subscription.{Subscription}

-- what is kept of a subscription: what the subscriber's readers give, the deliveries that are on their way to it, and
-- the positions that it has acknowledged
pub record SubscriptionParts : Type 0 where
  pub kept : SubscriberState
  pub flight : List Delivery
  pub acks : List ℕ

-- a subscription as clauses see it
abbrev pub subscription_parts : Subscription → SubscriptionParts
subscription_parts s = record { kept = s.subscriber; flight = s.flight.items; acks = s.acks.items }

-- what is kept of the actors: the ledger's history; for how many events a session waits; what the session keeps, if
-- there is one; the packets that were sent; the broker; its confirms that were sent; and the subscriptions
pub record ActorParts : Type 0 where
  pub history : History
  pub window : ℕ
  pub session : Option SessionState
  pub packets : List Packet
  pub broker : BrokerState
  pub confirms : List Confirm
  pub subscriptions : List SubscriptionParts

-- the actors and the store: what it holds, whether it is honest, how often it has failed, and what may befall it
pub record Parts : Type 0 where
  pub actors : ActorParts
  pub held : Option Saved
  pub honest : Bool
  pub failed : ℕ
  pub risks : Risks
