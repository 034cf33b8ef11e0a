use Rattle.cdc_world.proofs.Words.{empty_subscription, map, replicate, subscription_parts, vec_capacity, vec_len, ◌≡◌, ◌≤◌}
use Rattle.cdc_world.proofs.subscriptions.empty_subscriptions.Given as goal

abbrev pub invariant-loop : goal.invariant-loop
invariant-loop l = record {
  made : map subscription_parts l.subscriptions.items ≡ replicate l.counter empty_subscription;
  count : vec_len l.subscriptions ≡ l.counter;
  room : l.count ≤ vec_capacity l.subscriptions;
}
