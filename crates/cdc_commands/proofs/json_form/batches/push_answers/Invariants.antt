use Rattle.cdc_commands.proofs.Terms.{answered_values, json_lines, take, ◌++◌, ◌≡◌}
use Rattle.cdc_commands.proofs.json_form.batches.push_answers.Given as goal

abbrev pub invariant-loop-answered : goal.invariant-loop-answered
invariant-loop-answered l =
    l.lines.text.items
    ≡ l.initial.lines.text.items ++ json_lines (answered_values (take l.answered-index l.answers))
