-- The seats of the broker actor and of a subscriber: what no turn of it changes.
use Rattle.std.specs.Prelude.{ℕ, Option, List, map}
use Rattle.cdc_broker_actors.specs.Broker.{BrokerCore}
use Rattle.cdc_broker_actors.specs.Subscriber.{SubscriberCore}
use Rattle.cdc_links.specs.Links.{LinkId}
use Rattle.cdc_match.specs.Arguments.{Arguments}
use Rattle.cdc_traffic.specs.declared.messages.ToBroker.{ToBroker}
use Rattle.cdc_traffic.specs.declared.messages.ToConnector.{ToConnector}
use Rattle.cdc_traffic.specs.declared.messages.ToSubscriber.{ToSubscriber}
use Rattle.cdc_broker_actors.specs.declared.broker.plans.BrokerPlan.{BrokerPlan}

-- the broker's: its inbox, over which links it confirms and delivers, the bindings of its queues, its plan of injected
-- faults, and how many copies of a queue may be without an acknowledgement
pub record BrokerSeat : Type 0 where
  pub inbox : LinkId ToBroker
  pub confirms : LinkId ToConnector
  pub subscribers : List (LinkId ToSubscriber)
  pub bindings : List Arguments
  pub plan : BrokerPlan
  pub prefetch : ℕ

abbrev pub broker_seat : BrokerCore → BrokerSeat
broker_seat d = record {
  inbox = d.inbox.link;
  confirms = d.confirms.link;
  subscribers = map (λ c. c.link.link) d.consumers;
  bindings = map (λ q. q.binding) d.broker.queues;
  plan = d.plan;
  prefetch = d.prefetch;
}

-- a subscriber's: its number, its inbox, over which link it acknowledges, and after how many events it is to close
pub record SubscriberSeat : Type 0 where
  pub number : ℕ
  pub inbox : LinkId ToSubscriber
  pub acks : LinkId ToBroker
  pub close_after : Option ℕ

abbrev pub subscriber_seat : SubscriberCore → SubscriberSeat
subscriber_seat c = record {
  number = c.number;
  inbox = c.inbox.link;
  acks = c.acks.link;
  close_after = c.close_after;
}
