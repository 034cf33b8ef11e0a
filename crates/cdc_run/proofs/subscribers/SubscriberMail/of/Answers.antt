use Rattle.cdc_run.proofs.SubscriberMailLemmas.{all_push}
use Rattle.cdc_run.proofs.subscribers.SubscriberMail.of.Goals as goal

pub loop-parts-preserved : goal.loop-parts-preserved
loop-parts-preserved c =
    all_push c.loop-parts.yielded c.in-Some.parts c.loop-parts.mail c.add.new.self c.loop-parts.invariant
    c.in_ok-add.ensures
