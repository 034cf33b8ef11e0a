use Rattle.cdc_run.proofs.Worked.{one_finished, one_stopped}
use Rattle.cdc_run.proofs.outcomes.finished.Goals as goal

pub loop-outcome-preserved-in-Continue-branch-2 : goal.loop-outcome-preserved-in-Continue-branch-2
loop-outcome-preserved-in-Continue-branch-2 g c =
    one_finished c.loop-outcome.actors.items c.loop-outcome.yielded c.in-Some.outcome c.loop-outcome.invariant
    c.in-Ok.actor c.push.new.self.items c.in-Ok.is c.in_ok-push.ensures.items

pub loop-outcome-preserved : goal.loop-outcome-preserved
loop-outcome-preserved g c =
    one_stopped c.loop-outcome.actors.items c.loop-outcome.yielded c.in-Some.outcome c.loop-outcome.invariant
    c.in_default.field-0 c.in_default.is
