use Rattle.std.proofs.Common.{◌++◌, ◌+◌}
use Rattle.std.specs.Prelude.{string_bytes}
use Rattle.cdc_chain.specs.Lines.{end_lines, lines_text}
use Rattle.cdc_chain.proofs.TextLemmas.{WithRest}
use Rattle.cdc_chain.proofs.lines.push_ends.Given as goal

-- the text so far, and the lines of the ends that are left, make the whole text
abbrev pub invariant-loop-place : goal.invariant-loop-place
invariant-loop-place l =
    WithRest (end_lines (l.place + 1)) l.places l.place (string_bytes l.text)
    (string_bytes l.fn.text ++ lines_text (end_lines 1 l.places))
