use Rattle.cdc_ledger.proofs.Words.{◌++◌, ◌+◌, ◌≡◌, AllByRecursion, NewAccountFits, account_rules, drop, take, unvalidated, vec_capacity, vec_len}
use Rattle.cdc_ledger.proofs.chains.push_unvalidated_accounts.Given as goal

-- the results so far and those of the rest are the results of all
abbrev pub invariant-loop-place : goal.invariant-loop-place
invariant-loop-place l = record {
  on : l.results.items ++ unvalidated account_rules (drop l.place l.requests)
      ≡ l.initial.results.items ++ unvalidated account_rules l.requests;
  len : vec_len l.results ≡ vec_len l.initial.results + l.place;
  capacity : vec_capacity l.results ≡ vec_capacity l.initial.results;
  fit : AllByRecursion NewAccountFits (take l.place l.requests);
}
