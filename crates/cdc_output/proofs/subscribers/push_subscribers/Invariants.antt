use Rattle.std.proofs.Common.{◌≡◌, ◌+◌, ◌++◌, drop}
use Rattle.cdc_output.specs.Lines.{json_lines, kept_values}
use Rattle.cdc_output.proofs.subscribers.push_subscribers.Given as goal

abbrev pub invariant-loop-place : goal.invariant-loop-place
invariant-loop-place l =
    l.lines.text.items ++ json_lines (kept_values (l.place + 1) (drop l.place l.subscribers))
    ≡ l.fn.lines.text.items ++ json_lines (kept_values 1 l.subscribers)
