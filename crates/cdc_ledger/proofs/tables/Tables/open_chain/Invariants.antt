use Rattle.cdc_ledger.proofs.Words.{◌+◌, ◌<◌, ◌≤◌, AllByRecursion, NewAccountFits, account_rules, take}
use Rattle.cdc_ledger.proofs.BatchLaws.{IsOnItsWay}
use Rattle.cdc_ledger.proofs.tables.Tables.open_chain.Given as goal

-- those so far were opened, and there is room for the rest
abbrev pub invariant-loop-place : goal.invariant-loop-place
invariant-loop-place l = record {
  on : IsOnItsWay account_rules l.fn.self.history l.time l.chain l.place l.self.history;
  later : l.self.history.last < l.time + l.place;
  room : l.fn.self.account_room ≤ l.self.account_room + l.place;
  fit : AllByRecursion NewAccountFits (take l.place l.chain);
}
