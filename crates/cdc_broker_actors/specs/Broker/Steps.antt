-- What the steps of a turn of the broker's do. Private contracts alone cite this file.
use Rattle.std.specs.Prelude.{◌≡◌, ℕ, ◌≤◌, Bool, true, false}
use Rattle.cdc_broker.specs.Broker.{BrokerState, takes_packet, with_queue}
use Rattle.cdc_broker_actors.specs.Broker.{BrokerCore, IsBrokerCore}
use Rattle.cdc_broker_actors.specs.Broker.Turns.{HasReceivedNext, Lane, admitted, answer_if}
use Rattle.cdc_broker_actors.specs.declared.broker.consumers.Consumer.{Consumer}
use Rattle.cdc_links.specs.Links.{Takes}
use Rattle.cdc_message.specs.declared.packets.Answer.{Answer}
use Rattle.cdc_message.specs.declared.packets.Packet.{Packet}
use Rattle.cdc_traffic.specs.Following.{FollowsToBroker, ends_to_subscriber, has_ended}
use Rattle.cdc_traffic.specs.declared.messages.ToBroker.{ToBroker}

-- a queue may deliver to its subscriber, which wasn't sent its last message
pub record MayDeliver (lane : Lane) : Type 0 where
  pub broker : lane.consumer.link.number ≡ 0
  pub goes_on : has_ended ends_to_subscriber lane.consumer.link.sent ≡ false
  pub from_one : 1 ≤ lane.queue.cursor.next

-- a queue and its subscriber have changed so, and nothing else of the broker has
pub record HasBecome (number : ℕ) (lane : Lane) (old : BrokerState) (new : BrokerState) (c : Consumer)
    : Type 0 where
  pub broker : new ≡ with_queue number lane.queue old
  pub consumer : c ≡ lane.consumer

-- a message was received, and isn't handled yet
pub record HasTaken (old : BrokerCore) (message : ToBroker) (new : BrokerCore) : Type 0 where
  pub core : IsBrokerCore old
  pub takes : Takes FollowsToBroker old.inbox message new.inbox
  pub after : new ≡ record old { inbox = new.inbox }

-- a message to the broker actor was received and handled, or there was none
abbrev pub HasReceivedIf : Bool → BrokerCore → BrokerCore → Type 0
HasReceivedIf true old new = HasReceivedNext old new
HasReceivedIf false old new = new ≡ old

-- a packet came to the broker, which took it or passed it over, and this is the answer
pub record HasCome (packet : Packet) (old : BrokerCore) (answer : Answer) (new : BrokerCore) : Type 0 where
  pub after : new ≡ admitted (takes_packet old.broker packet) packet old
  pub states : answer ≡ answer_if (takes_packet old.broker packet) packet old

-- a subscriber may be sent its last message
abbrev pub MayStop : Consumer → Type 0
MayStop c = (c.link.number ≡ 0) × (has_ended ends_to_subscriber c.link.sent ≡ false)
