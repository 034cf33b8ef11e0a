use Rattle.cdc_connector_actor.proofs.Words.{IfErr-weaker}
use Rattle.cdc_actor_work.proofs.Staying.{stays_by}
use Rattle.cdc_connector_actor.proofs.Seated.{failed_work_seat, working_seat}
use Rattle.cdc_connector_actor.proofs.connector.cores.ConnectorCoreTurns.take_turn.Goals as goal

pub returns-clause-seat : goal.returns-clause-seat
returns-clause-seat g c =
    let old = c.args.self.now in
    let new = c.turn.new.self in
    stays_by c.turn.result _ _ (λ x turned. working_seat old.session old new turned)
    (λ fault has. failed_work_seat old fault new has) c.turn.ensures.turned c.turn.ensures.failed

pub returns-clause-kind : goal.returns-clause-kind
returns-clause-kind g c = IfErr-weaker c.turn.result _ _ (λ fault has. has.risked) c.turn.ensures.failed
