use Rattle.cdc_broker_actors.proofs.Words.{IfOk-weaker, few_received, stays_by}
use Rattle.cdc_broker_actors.proofs.Seated.{failed_subscriber_seat, received_seat}
use Rattle.cdc_broker_actors.proofs.SubscriberLemmas.Taking.{turned_is}
use Rattle.cdc_broker_actors.proofs.subscriber.cores.SubscriberCoreTurns.take_turn.Goals as goal

pub returns-clause-few : goal.returns-clause-few
returns-clause-few g c =
    IfOk-weaker c.turn.result _ _
    (λ x has.
    few_received c.args.self.now.inbox c.turn.new.self.inbox (0, (has.message, tt)) has.brought.after c.args._more)
    c.turn.ensures.turned

pub returns-clause-kept : goal.returns-clause-kept
returns-clause-kept g c =
    IfOk-weaker c.turn.result _ _
    (λ x has. turned_is c.args.self.now c.turn.new.self c.requires.kept c.requires.goes_on has) c.turn.ensures.turned

pub returns-clause-seat : goal.returns-clause-seat
returns-clause-seat g c =
    let old = c.args.self.now in
    let new = c.turn.new.self in
    stays_by c.turn.result _ _ (λ x has. received_seat old new has)
    (λ fault has. failed_subscriber_seat old fault new has) c.turn.ensures.turned c.turn.ensures.failed
