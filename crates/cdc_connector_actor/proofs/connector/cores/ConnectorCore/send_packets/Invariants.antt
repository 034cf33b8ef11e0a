use Rattle.cdc_connector_actor.proofs.Words.{◌+◌, ◌-◌, GoesOn, IsSending, KeepsTimestamp, RisesBy}
use Rattle.cdc_connector_actor.proofs.connector.cores.ConnectorCore.send_packets.Given as goal

abbrev pub invariant-loop-self : goal.invariant-loop-self
invariant-loop-self g l = record {
  sends : IsSending l.self;
  goes_on : GoesOn l.fn.self l.self;
  sessions : RisesBy 0 l.fn.self l.self;
  time : KeepsTimestamp l.fn.self l.self;
}

abbrev pub decreases-loop-self : goal.decreases-loop-self
decreases-loop-self g l = l.self.window + 1 - l.self.unanswered
