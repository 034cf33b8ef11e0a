-- What a broker's actor holds may be moved to another thread. A search that goes down through it from all actors runs
-- out of steps.
use denote.Param.Send.{IsSend, sendable}
use Rattle.std.proofs.Crossing.{crosses}
use Rattle.cdc_broker.specs.contracts.broker.Broker as Broker
use Rattle.cdc_broker_actors.specs.contracts.broker.cores.BrokerCore as BrokerCore
use Rattle.cdc_broker_actors.proofs.broker.consumers.Consumer.TheSendSync as consumer
use Rattle.cdc_links.proofs.ends.LinkIn.TheSendSync as incoming
use Rattle.cdc_links.proofs.ends.LinkOut.TheSendSync as outgoing
use Rattle.cdc_traffic.proofs.messages.ToBroker.TheSendSync as to_broker
use Rattle.cdc_traffic.proofs.messages.ToConnector.TheSendSync as to_connector

broker_crosses : IsSend Broker.the_field.row
broker_crosses = search (crosses, sendable) depth 60

pub core_crosses : IsSend BrokerCore.the_row
core_crosses = search (
  broker_crosses,
  consumer.the_send,
  incoming.the_send,
  outgoing.the_send,
  to_broker.the_send,
  to_connector.the_send,
  crosses,
  sendable,
) depth 60 fits 20000
