use Rattle.std.proofs.Common.{◌≡◌}
use Rattle.cdc_run.proofs.Found.{found_in, nothing}
use Rattle.cdc_run.proofs.runs.actors_of.Given as goal

-- what was found so far
abbrev pub invariant-loop-end : goal.invariant-loop-end
invariant-loop-end g l = found_in nothing l.yielded ≡ record {
  ledger = l.ledger;
  clients = l.clients.items;
  connector = l.connector;
  broker = l.broker;
  subscribers = l.subscribers.items;
}
