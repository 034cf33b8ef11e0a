use Rattle.cdc_commands.proofs.Terms.{ap, json_lines, ◌∙◌}
use Rattle.cdc_commands.specs.JsonReports.{simulation_values}
use Rattle.cdc_commands.proofs.json_form.JsonForm.simulation.Goals as goal

pub returns : goal.returns
returns c = λ plan so_many come. record {
  end = come.end;
  plays = come.plays;
  prints = c.into_text.ensures ∙ c.in_ok-simulation_lines.ensures come.end come.report
      ∙ ap (λ n. json_lines (simulation_values n c.args.simulated.now.played.refusal come.end)) so_many;
}
