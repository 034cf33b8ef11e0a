-- How far a run came in what its plan of faults counts.
use Rattle.std.specs.Prelude.{◌≡◌, List, filter, length, map}
use Rattle.cdc_broker.specs.Packets.{items_of}
use Rattle.cdc_broker_actors.specs.Broker.{BrokerCore, dealings}
use Rattle.cdc_connector_actor.specs.Connector.{ConnectorCore, is_publish}
use Rattle.cdc_actors.specs.Ends.{ActorState}
use Rattle.cdc_broker_actors.specs.declared.broker.plans.BrokerPlan.{BrokerPlan}
use Rattle.cdc_laws.specs.Arrivals.{taken_of}
use Rattle.cdc_match.specs.Arguments.{Arguments}
use Rattle.cdc_match.specs.Queue.{queue}
use Rattle.cdc_message.specs.declared.items.Item.{Item}
use Rattle.cdc_message.specs.declared.packets.Packet.{Packet}
use Rattle.cdc_run.specs.declared.counts.Counts.{Counts}

-- it is what these have counted: publishes sent, those that reached the broker and those that it accepted; and for
-- each queue how many positions were delivered
pub record HasCounted (connector : ActorState ConnectorCore) (broker : ActorState BrokerCore) (counts : Counts)
    : Type 0 where
  pub sent : counts.sent ≡ connector.work.published
  pub reached : counts.reached ≡ broker.work.publishes
  pub accepted : counts.accepted ≡ broker.work.accepted
  pub delivered : counts.delivered.items ≡ map (λ c. c.delivered) broker.work.consumers

-- the items that a broker with this plan accepts of packets
abbrev pub accepted_of : BrokerPlan → List Packet → List Item
accepted_of plan packets = items_of (taken_of (dealings plan packets).arrived)

-- the counts of a run in which all these packets were sent to a broker with this plan, and each queue was delivered
-- whole: the publishes among the packets; those among the packets that the broker has dealt with, and those that it
-- accepted; and for each binding how long its queue is
pub record IsCountOf (plan : BrokerPlan) (bindings : List Arguments) (packets : List Packet) (counts : Counts)
    : Type 0 where
  pub sent : counts.sent ≡ length (filter is_publish packets)
  pub reached : counts.reached ≡ (dealings plan packets).publishes
  pub accepted : counts.accepted ≡ length (accepted_of plan packets)
  pub delivered : counts.delivered.items ≡ map (λ b. length (queue (accepted_of plan packets) b)) bindings

-- these may be the counts of a run with this plan and these bindings: they are those of some packets
abbrev pub MayCount : BrokerPlan → List Arguments → Counts → Type 0
MayCount plan bindings counts = (packets : List Packet) × IsCountOf plan bindings packets counts
