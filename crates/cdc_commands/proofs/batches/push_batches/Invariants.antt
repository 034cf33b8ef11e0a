use Rattle.cdc_commands.proofs.Terms.{answers_to, drop, history_after, ◌++◌, ◌+◌, ◌≡◌}
use Rattle.cdc_commands.proofs.batches.push_batches.Given as goal

abbrev pub invariant-loop-place : goal.invariant-loop-place
invariant-loop-place l = record {
  answers : l.answers.items ++ answers_to (l.place + 1) l.ledger (drop l.place l.batches)
      ≡ l.initial.answers.items ++ answers_to 1 l.initial.ledger l.batches;
  history : history_after l.ledger (drop l.place l.batches) ≡ history_after l.initial.ledger l.batches;
}
