use Rattle.cdc_connector_actor.proofs.Words.{AreReceived, Course, IsPublishing, IsTurnOf, Some}
use Rattle.cdc_connector_actor.proofs.ConnectorLemmas.Counted.{HasReceivedFew}
use Rattle.cdc_connector_actor.proofs.connector.cores.ConnectorCore.receive_all.Given as goal

-- at least one message was taken, and one more for each time round at most
abbrev pub invariant-loop-further : goal.invariant-loop-further
invariant-loop-further g l =
    ((course : Course) → IsPublishing l.fn.self (Some course) → IsTurnOf l.fn.self course
    → AreReceived l.fn.self course l.moved l.self)
    × HasReceivedFew l._further l.fn.self l.self
