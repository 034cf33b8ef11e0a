use Rattle.cdc_broker_actors.proofs.Words.{◌-◌}
use Rattle.cdc_broker_actors.proofs.BrokerLemmas.Failing.{StillServed}
use Rattle.cdc_broker_actors.proofs.BrokerLemmas.Lanes.{DeliversOn}
use Rattle.cdc_broker_actors.proofs.broker.consumers.deliver.Given as goal

abbrev pub invariant-loop-consumer : goal.invariant-loop-consumer
invariant-loop-consumer g l = record {
  on : DeliversOn l.repeat l.number l.prefetch l.initial.broker l.initial.consumer l.broker l.consumer;
  still : StillServed l.number l.prefetch l.initial.broker l.initial.consumer l.broker l.consumer;
}

abbrev pub decreases-loop-consumer : goal.decreases-loop-consumer
decreases-loop-consumer g l = l.prefetch - l.consumer.unacked
