use Rattle.cdc_commands.proofs.Terms.{answered_lines, string_bytes, take, ◌++◌, ◌≡◌}
use Rattle.cdc_commands.proofs.report.push_answers.Given as goal

abbrev pub invariant-loop-answered : goal.invariant-loop-answered
invariant-loop-answered l =
    string_bytes l.text ≡ string_bytes l.initial.text ++ answered_lines (take l.answered-index l.answers)
