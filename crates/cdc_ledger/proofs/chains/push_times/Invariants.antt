use Rattle.cdc_ledger.proofs.Words.{◌++◌, ◌+◌, ◌≡◌, vec_capacity, vec_len}
use Rattle.std.proofs.Common.{replicate}
use Rattle.cdc_ledger.proofs.chains.push_times.Given as goal

-- so many are there
abbrev pub invariant-loop : goal.invariant-loop
invariant-loop g l = record {
  items : l.results.items ≡ l.initial.results.items ++ replicate l.counter l.each;
  len : vec_len l.results ≡ vec_len l.initial.results + l.counter;
  capacity : vec_capacity l.results ≡ vec_capacity l.initial.results;
}
