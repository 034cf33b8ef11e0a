use Rattle.cdc_run_command.proofs.Words.{drop, map, numbered_lines, string_bytes, ◌++◌, ◌+◌, ◌≡◌}
use Rattle.cdc_run_command.proofs.run_report.reply_text.Given as goal

abbrev pub invariant-loop-place : goal.invariant-loop-place
invariant-loop-place l =
    string_bytes l.lines ++ numbered_lines (l.place + 1) (drop l.place (map (λ r. r.now) l.replies))
    ≡ string_bytes l.initial.lines ++ numbered_lines 1 (map (λ r. r.now) l.replies)
