use Rattle.std.proofs.Common.{◌≡◌, ◌+◌, ◌-◌, ◌≤◌, take, drop}
use Rattle.std.specs.Vec.{vec_len, vec_capacity}
use Rattle.cdc_log.proofs.log.EventLog.copy.Given as goal

-- the events up to the place were read, and there is room for the others
abbrev pub invariant-loop-place : goal.invariant-loop-place
invariant-loop-place l = record {
  items : l.read.items ≡ take (l.place - l.first) (drop l.first l.self.events);
  from : l.first ≤ l.place;
  room : vec_len l.read + (l.end - l.place) ≤ vec_capacity l.read;
}
