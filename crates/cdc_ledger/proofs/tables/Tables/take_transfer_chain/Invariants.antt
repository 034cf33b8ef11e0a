use Rattle.cdc_ledger.proofs.Words.{◌+◌, ◌≡◌, ◌≤◌, AreRecorded, IsEmitted, grown, length, take, vec_capacity, vec_len}
use Rattle.cdc_ledger.proofs.tables.Tables.take_transfer_chain.Given as goal

-- this number of the entries was logged
abbrev pub invariant-loop-recorded : goal.invariant-loop-recorded
invariant-loop-recorded l = record {
  emitted : IsEmitted (grown l.fn.self.history (take l.recorded-index l.recorded-items)) l.emitted;
  log_room : l.fn.emitted.log.room ≤ l.emitted.log.room + l.recorded-index;
  end_room : l.fn.emitted.index.room ≤ l.emitted.index.room + l.recorded-index;
}

-- so many of them are still there
abbrev pub invariant-loop-recorded-2 : goal.invariant-loop-recorded-2
invariant-loop-recorded-2 l = record {
  made : l.self.history ≡ grown l.fn.self.history l.tail.items;
  recorded : AreRecorded l.fn.self.history l.tail.items;
  emitted : IsEmitted l.fn.self.history l.emitted;
  capacity : vec_capacity l.tail ≡ vec_capacity l.fn.tail;
  log_room : l.fn.emitted.log.room ≤ l.emitted.log.room;
  end_room : l.fn.emitted.index.room ≤ l.emitted.index.room;
  room : l.fn.self.entry_room ≡ l.self.entry_room + vec_len l.tail;
  place_room : l.fn.self.place_room ≤ l.self.place_room + length l.chain;
}

abbrev pub decreases-loop-recorded-2 : goal.decreases-loop-recorded-2
decreases-loop-recorded-2 l = vec_len l.tail
