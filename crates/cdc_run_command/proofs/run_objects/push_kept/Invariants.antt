use Rattle.cdc_run_command.proofs.Words.{drop, json_lines, kept_values, ◌++◌, ◌+◌, ◌≡◌}
use Rattle.cdc_run_command.proofs.run_objects.push_kept.Given as goal

abbrev pub invariant-loop-place : goal.invariant-loop-place
invariant-loop-place l =
    l.lines.text.items ++ json_lines (kept_values (l.place + 1) (drop l.place l.subscribers))
    ≡ l.initial.lines.text.items ++ json_lines (kept_values 1 l.subscribers)
