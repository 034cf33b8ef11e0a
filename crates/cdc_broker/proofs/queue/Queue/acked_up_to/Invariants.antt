use Rattle.std.proofs.Common.{◌-◌, ◌≤◌, max}
use Rattle.cdc_broker.specs.Kept.{IsMark}
use Rattle.cdc_broker.proofs.queue.Queue.acked_up_to.Given as goal

abbrev pub invariant-loop-mark : goal.invariant-loop-mark
invariant-loop-mark l = record {
  is : IsMark l.accepted.items l.self.binding l.mark;
  left : l.accepted.gone ≤ l.mark.place;
  low : l.self.acked.position ≤ l.mark.position;
  high : l.mark.position ≤ max l.self.acked.position l.position;
}

abbrev pub decreases-loop-mark : goal.decreases-loop-mark
decreases-loop-mark l = l.position - l.mark.position
