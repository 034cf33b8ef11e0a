use Rattle.cdc_broker_actors.proofs.Words.{◌≡◌, length}
use Rattle.cdc_broker_actors.proofs.BrokerLemmas.Subscribers.{stopped_up_to}
use Rattle.cdc_broker_actors.proofs.broker.consumers.stop_all.Given as goal

abbrev pub invariant-loop-i : goal.invariant-loop-i
invariant-loop-i g l =
    (l.consumers ≡ stopped_up_to l.i l.initial.consumers) × (length l.consumers ≡ length l.initial.consumers)
