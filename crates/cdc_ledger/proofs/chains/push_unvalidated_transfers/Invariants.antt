use Rattle.cdc_ledger.proofs.Words.{◌++◌, ◌+◌, ◌≡◌, AllByRecursion, NewTransferFits, drop, take, transfer_rules, unvalidated, vec_capacity, vec_len}
use Rattle.cdc_ledger.proofs.chains.push_unvalidated_transfers.Given as goal

-- the results so far and those of the rest are the results of all
abbrev pub invariant-loop-place : goal.invariant-loop-place
invariant-loop-place l = record {
  on : l.results.items ++ unvalidated transfer_rules (drop l.place l.requests)
      ≡ l.initial.results.items ++ unvalidated transfer_rules l.requests;
  len : vec_len l.results ≡ vec_len l.initial.results + l.place;
  capacity : vec_capacity l.results ≡ vec_capacity l.initial.results;
  fit : AllByRecursion NewTransferFits (take l.place l.requests);
}
