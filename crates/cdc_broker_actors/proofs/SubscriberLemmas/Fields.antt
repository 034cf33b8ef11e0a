-- A subscriber's core by the fields of its struct.
use Rattle.cdc_broker_actors.proofs.Words.{SubscriberCore}
use Rattle.cdc_broker_actors.specs.declared.subscriber.cores.SubscriberCore.TheInside.{Inside}

-- what contracts see of these fields
abbrev pub seen : Inside → SubscriberCore
seen fields = record {
  number = fields.number;
  inbox = fields.inbox;
  acks = fields.acks;
  subscriber = fields.subscriber;
  close_after = fields.close_after;
  finished = fields.finished;
  arrivals = fields.arrivals.items;
}
