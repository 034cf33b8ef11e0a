use Rattle.cdc_broker_actors.proofs.Words.{◌≡◌, ◌≤◌, length, map, take, vec_capacity, vec_len}
use Rattle.cdc_broker_actors.proofs.broker.consumers.delivered_of.Given as goal

-- those so far, with room for all
abbrev pub invariant-loop-consumer : goal.invariant-loop-consumer
invariant-loop-consumer l = record {
  read : l.delivered.items ≡ map (λ c. c.delivered) (take l.consumer-index l.consumers);
  count : vec_len l.delivered ≡ l.consumer-index;
  room : length l.consumers ≤ vec_capacity l.delivered;
}
