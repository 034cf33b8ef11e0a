use Rattle.std.proofs.Common.{◌≡◌, take}
use Rattle.cdc_broker.specs.Kept.{done_with_all}
use Rattle.cdc_broker.proofs.broker.done_with.Given as goal

abbrev pub invariant-loop-queue : goal.invariant-loop-queue
invariant-loop-queue l = l.least ≡ done_with_all l.len (take l.queue-index l.queues)
