use Rattle.cdc_broker_actors.proofs.Words.{IfOk-weaker, stays_by}
use Rattle.cdc_broker_actors.proofs.BrokerLemmas.Finishing.{turned_is}
use Rattle.cdc_broker_actors.proofs.BrokerLemmas.Linked.{links_seat, turned_same}
use Rattle.cdc_broker_actors.proofs.broker.cores.BrokerCoreTurns.take_turn.Goals as goal

pub returns-clause-kept : goal.returns-clause-kept
returns-clause-kept g c =
    IfOk-weaker c.turn.result _ _
    (λ x has. turned_is c.args.self.now c.turn.new.self c.requires.kept c.requires.goes_on has) c.turn.ensures.turned

pub returns-clause-seat : goal.returns-clause-seat
returns-clause-seat g c =
    let old = c.args.self.now in
    let new = c.turn.new.self in
    stays_by c.turn.result _ _ (λ x has. turned_same old new has) (λ fault has. links_seat old new has.links)
    c.turn.ensures.turned c.turn.ensures.failed
