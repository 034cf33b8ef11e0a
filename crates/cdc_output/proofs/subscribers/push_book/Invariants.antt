use Rattle.std.proofs.Common.{◌≡◌, ◌++◌, map, take}
use Rattle.cdc_output.specs.Lines.{account_value, json_lines}
use Rattle.cdc_output.proofs.subscribers.push_book.Given as goal

abbrev pub invariant-loop-place : goal.invariant-loop-place
invariant-loop-place l =
    l.lines.text.items ≡ l.initial.lines.text.items ++ json_lines (map (account_value l.number) (take l.place l.book))
