use Rattle.std.proofs.Common.{◌≡◌, ◌++◌, map, take, drop}
use Rattle.cdc_broker.specs.Kept.{counting}
use Rattle.cdc_broker.proofs.broker.count_in.Given as goal

abbrev pub invariant-loop-queue : goal.invariant-loop-queue
invariant-loop-queue l =
    l.queues ≡ map (counting l.item l.len) (take l.queue-index l.initial.queues) ++ drop l.queue-index l.initial.queues
