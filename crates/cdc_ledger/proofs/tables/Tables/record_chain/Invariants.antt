use Rattle.cdc_ledger.proofs.Words.{◌+◌, ◌<◌, ◌≡◌, ◌≤◌, AllByRecursion, AreRecorded, NewTransferFits, grown, take, transfer_rules, vec_capacity, vec_len}
use Rattle.cdc_ledger.proofs.BatchLaws.{IsOnItsWay}
use Rattle.cdc_ledger.proofs.tables.Tables.record_chain.Given as goal

-- those so far were recorded, and there is room for the rest
abbrev pub invariant-loop-place : goal.invariant-loop-place
invariant-loop-place l = record {
  on : IsOnItsWay transfer_rules l.fn.self.history l.time l.chain l.place l.self.history;
  grown : l.self.history ≡ grown l.fn.self.history l.tail.items;
  recorded : AreRecorded l.fn.self.history l.tail.items;
  later : l.self.history.last < l.time + l.place;
  tail_len : vec_len l.tail ≡ l.place;
  capacity : vec_capacity l.tail ≡ vec_capacity l.initial.tail;
  room : l.fn.self.entry_room ≡ l.self.entry_room + l.place;
  place_room : l.fn.self.place_room ≤ l.self.place_room + l.place;
  fit : AllByRecursion NewTransferFits (take l.place l.chain);
}
