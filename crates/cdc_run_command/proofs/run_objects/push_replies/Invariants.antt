use Rattle.cdc_run_command.proofs.Words.{drop, json_lines, map, numbered_values, ◌++◌, ◌+◌, ◌≡◌}
use Rattle.cdc_run_command.proofs.run_objects.push_replies.Given as goal

abbrev pub invariant-loop-place : goal.invariant-loop-place
invariant-loop-place l =
    l.lines.text.items ++ json_lines (numbered_values (l.place + 1) (drop l.place (map (λ r. r.now) l.replies)))
    ≡ l.initial.lines.text.items ++ json_lines (numbered_values 1 (map (λ r. r.now) l.replies))
