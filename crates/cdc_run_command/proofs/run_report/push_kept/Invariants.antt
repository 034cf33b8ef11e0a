use Rattle.cdc_run_command.proofs.Words.{drop, kept_text, ◌++◌, ◌+◌, ◌≡◌}
use Rattle.cdc_run_command.proofs.run_report.push_kept.Given as goal

abbrev pub invariant-loop-place : goal.invariant-loop-place
invariant-loop-place l =
    l.text.items ++ kept_text (l.place + 1) (drop l.place l.subscribers)
    ≡ l.initial.text.items ++ kept_text 1 l.subscribers
