use Rattle.std.proofs.Common.{vec_len, vec_capacity}
use Rattle.cdc_broker.proofs.Made.{AreMade}
use Rattle.cdc_broker.proofs.broker.Broker.new.Given as goal

abbrev pub invariant-loop-binding : goal.invariant-loop-binding
invariant-loop-binding l =
    AreMade l.fn.bindings.items l.yielded l.binding-iterator.rest.items l.queues.items (vec_len l.queues)
    (vec_capacity l.queues)
