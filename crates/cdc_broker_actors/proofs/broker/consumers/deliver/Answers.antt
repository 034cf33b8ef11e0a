use Rattle.cdc_broker_actors.proofs.Words.{◌-◌, ◌<◌, ◌≡◌, IsStuck, arith, false, is_some, length, next_delivery, passed_on, queue_of, rules, true}
use Rattle.cdc_broker_actors.proofs.BrokerLemmas.Failing.{still_first, still_next, stuck_so}
use Rattle.cdc_broker_actors.proofs.BrokerLemmas.Lanes.{delivers_first, delivers_more, delivers_none}
use Rattle.cdc_broker_actors.proofs.broker.consumers.deliver.Goals as goal

pub loop-consumer-init : goal.loop-consumer-init
loop-consumer-init g c =
    let inside : c.args.number - 1 < length c.args.broker.now.queues = omega arith in
    record {
      on = delivers_first c.args.repeat.now c.args.number c.args.prefetch c.args.broker.now c.args.consumer.now inside
          c.requires.may;
      still = still_first c.args.number c.args.prefetch c.args.broker.now c.args.consumer.now;
    }

pub returns-then-not-branch-clause-after : goal.returns-then-not-branch-clause-after
returns-then-not-branch-clause-after g c =
    let at = c.loop-consumer in
    let isnt : is_some (next_delivery (queue_of at.broker c.args.number)) ≡ false = search rules in
    delivers_none c.args.repeat.now c.args.number c.args.prefetch c.args.broker.now c.args.consumer.now at.broker
    at.consumer at.invariant.on c.deliver_next.new.broker c.deliver_next.new.consumer
    c.in_ok-deliver_next.ensures.becomes isnt

pub returns-in_err-deliver_next-clause-failed : goal.returns-in_err-deliver_next-clause-failed
returns-in_err-deliver_next-clause-failed g c =
    let at = c.loop-consumer in
    passed_on (λ fault. IsStuck c.args.number c.args.prefetch c.args.broker.now c.args.consumer.now fault
    c.deliver_next.new.broker c.deliver_next.new.consumer) _ _ c.from_residual.ensures.1
    (stuck_so c.args.repeat.now c.args.number c.args.prefetch c.args.broker.now c.args.consumer.now at.broker
    at.consumer at.invariant.on at.invariant.still c.in_err-deliver_next.field-0.0 c.deliver_next.new.broker
    c.deliver_next.new.consumer c.in_err-deliver_next.ensures.failed)

pub loop-consumer-preserved : goal.loop-consumer-preserved
loop-consumer-preserved g c =
    let at = c.loop-consumer in
    let is : is_some (next_delivery (queue_of at.broker c.args.number)) ≡ true = search rules in
    record {
      on = delivers_more c.args.repeat.now c.args.number c.args.prefetch c.args.broker.now c.args.consumer.now at.broker
          at.consumer at.invariant.on c.deliver_next.new.broker c.deliver_next.new.consumer
          c.in_ok-deliver_next.ensures.becomes is c.loop-consumer-test.true;
      still = still_next c.args.repeat.now c.args.number c.args.prefetch c.args.broker.now c.args.consumer.now at.broker
          at.consumer at.invariant.on at.invariant.still c.deliver_next.new.broker c.deliver_next.new.consumer
          c.in_ok-deliver_next.ensures.becomes c.loop-consumer-test.true;
    }
