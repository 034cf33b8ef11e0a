use Rattle.cdc_run.specs.SubscriberMail.{AreSubscribersOf}
use Rattle.cdc_run.proofs.SubscriberMailLemmas.{mail_of}
use Rattle.cdc_run.proofs.Refused.{passed_on}
use Rattle.cdc_run.proofs.subscribers.mail_of_subscribers.Goals as goal

-- it is what they have left
pub returns-clause-mail : goal.returns-clause-mail
returns-clause-mail c =
    mail_of c.args.subscribers.items c.in_ok-parts.parts.items c.in_ok-mail.mail c.in_ok-parts.ensures.parts
    c.in_ok-mail.ensures

-- one of them isn't as it has to be
pub returns-in_err-parts-clause-refused : goal.returns-in_err-parts-clause-refused
returns-in_err-parts-clause-refused c =
    passed_on (AreSubscribersOf c.args.system 1 c.args.subscribers.items) c.from_residual.result
    c.in_err-parts.field-0.0
    c.from_residual.ensures.1 c.in_err-parts.ensures.refused
