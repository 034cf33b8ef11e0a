use Rattle.cdc_broker_actors.proofs.SubscriberLemmas.Closing.{asked_close, deliveries_are_received, unasked_stay_open}
use Rattle.cdc_broker_actors.proofs.subscriber.subscriber_actor_laws.Goals as goal

pub returns-clause-receives : goal.returns-clause-receives
returns-clause-receives c = deliveries_are_received

pub returns-clause-unasked : goal.returns-clause-unasked
returns-clause-unasked c = unasked_stay_open

pub returns-clause-asked : goal.returns-clause-asked
returns-clause-asked c = asked_close
