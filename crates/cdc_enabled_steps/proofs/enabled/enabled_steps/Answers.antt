use Rattle.std.proofs.Common.{ap, map, ◌∙◌}
use Rattle.std.proofs.lemmas.Result.{IfOk-weaker}
use Rattle.cdc_enabled_steps.specs.Enabled.{submission}
use Rattle.cdc_enabled_steps.proofs.TrialLemmas.{of_script}
use Rattle.cdc_enabled_steps.proofs.enabled.enabled_steps.Goals as goal

pub returns-clause-acts : goal.returns-clause-acts
returns-clause-acts c =
    let submitted = c.as_slice.ensures.value ∙ c.in_ok-submissions.ensures ∙ ap (map submission) c.into_vec.ensures in
    IfOk-weaker c.try_in_world.result _ _ (λ enabled is. of_script c.args.script c.args.window c.args.steps.acts.items
    enabled.steps.acts.items c.into_vec-2.result.items c.as_slice.result.now c.into_vec-2.ensures submitted is)
    c.try_in_world.ensures.acts
