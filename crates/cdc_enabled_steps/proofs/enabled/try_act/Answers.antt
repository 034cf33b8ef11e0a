use Rattle.std.proofs.Common.{ap, drop, if◌then◌else◌, ◌+◌}
use Rattle.cdc_enabled_steps.proofs.TrialLemmas.{batch_tried}
use Rattle.cdc_enabled_steps.proofs.enabled.try_act.Goals as goal

pub returns-then-done-clause-tries : goal.returns-then-done-clause-tries
returns-then-done-clause-tries c =
    let left = drop (c.args.submitted.now + 1) c.args.submissions.now in
    batch_tried c.args.submissions.now c.args.act.now _ c.args.submitted.now (c.args.submitted.now + 1)
    c.in_ok-done-in-Some.done c.args.world.now c.try_step-in-Some.new.world c.in-Batch.is
    c.in-Some.ensures.lookup.3.0 c.in-Some.ensures.lookup.1
    c.in_ok-done-in-Some.ensures.tries
    (ap (λ done. if done then left else drop c.args.submitted.now c.args.submissions.now) c.if-done.true)

pub returns-else-done-clause-tries : goal.returns-else-done-clause-tries
returns-else-done-clause-tries c =
    let left = drop (c.args.submitted.now + 1) c.args.submissions.now in
    batch_tried c.args.submissions.now c.args.act.now _ c.args.submitted.now c.args.submitted.now
    c.in_ok-done-in-Some.done c.args.world.now c.try_step-in-Some.new.world c.in-Batch.is
    c.in-Some.ensures.lookup.3.0 c.in-Some.ensures.lookup.1
    c.in_ok-done-in-Some.ensures.tries
    (ap (λ done. if done then left else drop c.args.submitted.now c.args.submissions.now) c.if-done.false)
