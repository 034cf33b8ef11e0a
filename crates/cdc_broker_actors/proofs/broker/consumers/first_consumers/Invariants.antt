use Rattle.cdc_broker_actors.proofs.Words.{vec_capacity, vec_len}
use Rattle.cdc_broker_actors.proofs.BrokerLemmas.Subscribers.{AreFirst}
use Rattle.cdc_broker_actors.proofs.broker.consumers.first_consumers.Given as goal

abbrev pub invariant-loop-link : goal.invariant-loop-link
invariant-loop-link l =
    AreFirst l.fn.links.items l.yielded l.link-iterator.rest.items l.consumers.items (vec_len l.consumers)
    (vec_capacity l.consumers)
