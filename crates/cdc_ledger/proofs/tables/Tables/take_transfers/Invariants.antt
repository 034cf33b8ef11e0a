use Rattle.cdc_ledger.proofs.Words.{[], ◌+◌, ◌-◌, ◌<◌, ◌≡◌, ◌≤◌, AllByRecursion, IsEmitted, NewTransferFits, length, take, transfer_rules, vec_capacity, vec_len}
use Rattle.cdc_ledger.proofs.BatchLaws.{ItemsGoOn}
use Rattle.cdc_ledger.proofs.tables.Tables.take_transfers.Given as goal

-- the results so far and those to the rest are the results to all, and there is room for the rest
abbrev pub invariant-loop-place : goal.invariant-loop-place
invariant-loop-place l = record {
  on : ItemsGoOn transfer_rules l.fn.self.history l.base l.requests l.place l.results.items l.self.history;
  later : l.self.history.last < l.base + l.place;
  inside : l.place ≤ length l.requests;
  count : vec_len l.results ≡ l.place;
  results_room : length l.requests ≤ vec_capacity l.results;
  fit : AllByRecursion NewTransferFits (take l.place l.requests);
  emitted : IsEmitted l.self.history l.emitted;
  room : length l.requests ≤ l.self.entry_room + l.place;
  place_room : length l.requests ≤ l.self.place_room + l.place;
  log_room : length l.requests ≤ l.emitted.log.room + l.place;
  end_room : length l.requests ≤ l.emitted.index.room + l.place;
  no_tail : l.tail.items ≡ [];
  tail_room : vec_capacity l.tail ≡ vec_capacity l.fn.tail;
}

abbrev pub decreases-loop-place : goal.decreases-loop-place
decreases-loop-place l = length l.requests - l.place
