use Rattle.std.proofs.Common.{◌≡◌, ◌≤◌, ◌-◌}
use Rattle.cdc_log.proofs.log.EventLog.reserve.Given as goal

-- the events are as they were, and no room was lost
abbrev pub invariant-loop-self : goal.invariant-loop-self
invariant-loop-self l = record {
  events : l.self.events ≡ l.initial.self.events;
  room : l.initial.self.room ≤ l.self.room;
}

-- each turn makes some of the room that is left to make
abbrev pub decreases-loop-self : goal.decreases-loop-self
decreases-loop-self l = l.additional - l.self.room
