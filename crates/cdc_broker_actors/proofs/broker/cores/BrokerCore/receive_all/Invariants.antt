use Rattle.cdc_broker_actors.proofs.Words.{HasReceivedAll}
use Rattle.cdc_broker_actors.proofs.BrokerLemmas.Counted.{HasReceivedFew}
use Rattle.cdc_broker_actors.proofs.broker.cores.BrokerCore.receive_all.Given as goal

-- at least one message was received, and one more for each time round at most
abbrev pub invariant-loop-further : goal.invariant-loop-further
invariant-loop-further g l = HasReceivedAll l.fn.self l.self × HasReceivedFew l._further l.fn.self l.self
