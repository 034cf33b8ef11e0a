use Rattle.cdc_broker_actors.proofs.BrokerLemmas.Answered.{arrived_was_received, each_packet_is_answered, unlost_arrives}
use Rattle.cdc_broker_actors.proofs.broker.broker_actor_laws.Goals as goal

pub returns-clause-arrived : goal.returns-clause-arrived
returns-clause-arrived c = arrived_was_received

pub returns-clause-unlost : goal.returns-clause-unlost
returns-clause-unlost c = unlost_arrives

pub returns-clause-answered : goal.returns-clause-answered
returns-clause-answered c = each_packet_is_answered
