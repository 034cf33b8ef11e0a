use Rattle.cdc_commands.proofs.Terms.{Answered, List, answered_lines, ap, ap₂, ℕ, ◌++◌, ◌∙◌}
use Rattle.cdc_commands.proofs.SimulationLemmas.{world_text}
use Rattle.cdc_commands.proofs.simulation_report.print_simulated.Goals as goal

pub returns : goal.returns
returns c = λ end report.
    world_text c.args.simulated.now end c.args.all _ _ _ _ _ _ report
    (c.in_ok-push_answers.ensures
    ∙ ap₂ (λ (text : List ℕ) (answers : List Answered). text ++ answered_lines answers) c.new-text.ensures.bytes
    c.as_slice.ensures.value) c.in_ok-push_steps.ensures c.in_ok-push_refusal.ensures c.in_ok-push_progress.ensures
    (ap (λ v. v.items) c.into_bytes-bytes.ensures.value)
    (c.in_ok-push_subscriptions.ensures end.world report.world)
