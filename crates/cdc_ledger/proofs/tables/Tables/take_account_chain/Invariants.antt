use Rattle.cdc_ledger.proofs.Words.{◌+◌, ◌<◌, ◌≡◌, ◌≤◌, AreUnrefused, account_rules, length, take, taken_all}
use Rattle.cdc_ledger.proofs.tables.Tables.take_account_chain.Given as goal

-- so many accounts of the chain are still there
abbrev pub invariant-loop-place : goal.invariant-loop-place
invariant-loop-place l = record {
  made : l.self.history ≡ taken_all account_rules l.fn.self.history l.time (take l.place l.chain);
  unrefused : AreUnrefused account_rules l.fn.self.history l.time (take l.place l.chain);
  inside : l.place < length l.chain;
  room : l.fn.self.account_room ≤ l.self.account_room + length l.chain;
}
