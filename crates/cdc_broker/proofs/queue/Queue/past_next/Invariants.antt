use Rattle.std.proofs.Common.{◌≡◌, ◌-◌, ◌≤◌, length, take}
use Rattle.cdc_match.specs.Queue.{queue}
use Rattle.cdc_broker.proofs.queue.Queue.past_next.Given as goal

abbrev pub invariant-loop-place : goal.invariant-loop-place
invariant-loop-place l = record {
  past : l.mark.place ≤ l.place;
  within : l.place ≤ length l.accepted.items;
  counts : l.mark.position ≡ length (queue (take l.place l.accepted.items) l.self.binding);
}

abbrev pub decreases-loop-place : goal.decreases-loop-place
decreases-loop-place l = length l.accepted.items - l.place
