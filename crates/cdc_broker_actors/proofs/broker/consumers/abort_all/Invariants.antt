use Rattle.cdc_broker_actors.proofs.Words.{◌≡◌}
use Rattle.cdc_broker_actors.proofs.broker.consumers.abort_all.Given as goal

abbrev pub invariant-loop-i : goal.invariant-loop-i
invariant-loop-i g l = l.consumers ≡ l.initial.consumers
