use Rattle.cdc_ledger.proofs.Words.{◌+◌, ◌<◌, ◌≤◌, IsEmitted}
use Rattle.cdc_ledger.proofs.Expiring.{GoesOn}
use Rattle.cdc_ledger.proofs.tables.Tables.expire_all.Given as goal

-- those so far expired, the rest is due, and there is room for it
abbrev pub invariant-loop-place : goal.invariant-loop-place
invariant-loop-place l = record {
  on : GoesOn l.fn.self.history l.base l.now l.count l.place l.self.history;
  later : l.self.history.last < l.base + l.place;
  emitted : IsEmitted l.self.history l.emitted;
  log_room : l.count ≤ l.emitted.log.room + l.place;
  room : l.count ≤ l.self.entry_room + l.place;
}
