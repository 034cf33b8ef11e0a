use Rattle.cdc_commands.proofs.Terms.{IfOk-weaker, ap, simulation_text, ◌∙◌}
use Rattle.cdc_commands.proofs.SimulationReached.{simulates}
use Rattle.cdc_commands.proofs.text.TextForm.simulation.Goals as goal

pub returns : goal.returns
returns c = λ plan so_many come.
    let simulated = c.args.simulated.now in
    IfOk-weaker c.print_simulated.result _ _
    (λ text is.
    simulates plan simulated text.items come
    (is ∙ ap (λ n. simulation_text n simulated.played.refusal come.end) so_many))
    (c.print_simulated.ensures come.end come.report)
