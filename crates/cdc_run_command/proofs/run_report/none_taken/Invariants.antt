use Rattle.cdc_run_command.proofs.Words.{All, length, ◌≡◌}
use Rattle.cdc_run_command.proofs.run_report.none_taken.Given as goal

abbrev pub invariant-loop : goal.invariant-loop
invariant-loop l = record {
  count : length l.taken.items ≡ l.counter;
  none : All (λ n. n ≡ 0) l.taken.items;
}
