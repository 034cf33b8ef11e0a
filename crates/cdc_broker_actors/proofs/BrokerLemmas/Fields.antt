-- The broker's core by the fields of its struct.
use Rattle.cdc_broker_actors.proofs.Words.{BrokerCore}
use Rattle.cdc_broker_actors.specs.declared.broker.cores.BrokerCore.TheInside.{Inside}

-- what contracts see of these fields
abbrev pub seen : Inside → BrokerCore
seen fields = record {
  inbox = fields.inbox;
  confirms = fields.confirms;
  consumers = fields.consumers.items;
  broker = fields.broker;
  plan = fields.plan;
  prefetch = fields.prefetch;
  publishes = fields.publishes;
  accepted = fields.accepted;
  connector_done = fields.connector_done;
  finished = fields.finished;
}
