use Rattle.cdc_broker_actors.proofs.Words.{BrokerCore, HasReceivedNext, HasTaken, ToBroker, subst, sym, true}
use Rattle.cdc_broker_actors.proofs.BrokerLemmas.Failing.{ack_failed, packet_failed}
use Rattle.cdc_broker_actors.proofs.BrokerLemmas.Receiving.{ended_next}
use Rattle.cdc_broker_actors.proofs.broker.cores.BrokerCore.handle.Goals as goal

pub returns-in-Packet-clause-failed : goal.returns-in-Packet-clause-failed
returns-in-Packet-clause-failed g c before taken =
    packet_failed before c.args.self.now c.take_packet.new.self c.in-Packet.packet
    (subst (λ (m : ToBroker). HasTaken before m c.args.self.now) c.in-Packet.is taken) c.take_packet.result
    c.take_packet.ensures.failed

pub returns-in-Finish-clause-after : goal.returns-in-Finish-clause-after
returns-in-Finish-clause-after g c before taken =
    subst (λ (d : BrokerCore). HasReceivedNext before (record d { connector_done = true })) (sym c.self.view_is)
    (ended_next before c.args.self.now
    (subst (λ (m : ToBroker). HasTaken before m c.args.self.now) c.in-Finish.is taken))

pub returns-in-Ack-clause-failed : goal.returns-in-Ack-clause-failed
returns-in-Ack-clause-failed g c before taken =
    ack_failed before c.args.self.now c.take_ack.new.self c.in-Ack.ack
    (subst (λ (m : ToBroker). HasTaken before m c.args.self.now) c.in-Ack.is taken) c.take_ack.result
    c.take_ack.ensures.refused
