use Rattle.cdc_ledger.proofs.Words.{◌+◌, ◌-◌, ◌<◌, ◌≡◌, ◌≤◌, AllByRecursion, NewAccountFits, account_rules, length, take, vec_capacity, vec_len}
use Rattle.cdc_ledger.proofs.BatchLaws.{ItemsGoOn}
use Rattle.cdc_ledger.proofs.tables.Tables.take_accounts.Given as goal

-- the results so far and those to the rest are the results to all, and there is room for the rest
abbrev pub invariant-loop-place : goal.invariant-loop-place
invariant-loop-place l = record {
  on : ItemsGoOn account_rules l.fn.self.history l.base l.requests l.place l.results.items l.self.history;
  later : l.self.history.last < l.base + l.place;
  inside : l.place ≤ length l.requests;
  count : vec_len l.results ≡ l.place;
  results_room : length l.requests ≤ vec_capacity l.results;
  fit : AllByRecursion NewAccountFits (take l.place l.requests);
  room : length l.requests ≤ l.self.account_room + l.place;
}

abbrev pub decreases-loop-place : goal.decreases-loop-place
decreases-loop-place l = length l.requests - l.place
