use Rattle.cdc_run.specs.SubscriberMail.{HasAllOf}
use Rattle.cdc_run.proofs.subscribers.SubscriberMail.of.Given as goal

-- those so far
abbrev pub invariant-loop-parts : goal.invariant-loop-parts
invariant-loop-parts l = HasAllOf l.yielded l.mail
