use Rattle.cdc_run.proofs.Words.{ActorState, ClientCore, IsFaultOf, IsTurnFault, StopState, Unstarted, ap, broker_seat, client_place, client_seat, connector_seat, ledger_seat, subscriber_place, subscriber_seat, ◌∙◌}
use Rattle.cdc_actor_work.specs.declared.places.Place.TheVariants as place
use Rattle.cdc_run.proofs.Stopped.{aborted}
use Rattle.cdc_run.proofs.task_jobs.TaskJob.abort.Goals as goal

pub returns-in-Ledger : goal.returns-in-Ledger
returns-in-Ledger g c =
    rw c.in-Ledger.is (aborted ledger_seat (λ _. place.Ledger) (λ _. IsTurnFault) c.in-Ledger.end c.abort.result
    c.abort.ensures)

pub returns-in-Client : goal.returns-in-Client
returns-in-Client g c =
    let one : ActorState ClientCore → StopState = λ e. record {
      system = e.system;
      place = client_place e.work;
      met = Unstarted;
    } in
    rw c.in-Client.is (aborted client_seat client_place (λ _. IsTurnFault) c.in-Client.client.end
    c.abort-in-Client.result (c.abort-in-Client.ensures ∙ ap one c.into_parts.ensures.end))

pub returns-in-Connector : goal.returns-in-Connector
returns-in-Connector g c =
    rw c.in-Connector.is (aborted connector_seat (λ _. place.Connector) IsFaultOf c.in-Connector.end
    c.abort-in-Connector.result c.abort-in-Connector.ensures)

pub returns-in-Broker : goal.returns-in-Broker
returns-in-Broker g c =
    rw c.in-Broker.is (aborted broker_seat (λ _. place.Broker) (λ _. IsTurnFault) c.in-Broker.end
    c.abort-in-Broker.result c.abort-in-Broker.ensures)

pub returns-in-Subscriber : goal.returns-in-Subscriber
returns-in-Subscriber g c =
    rw c.in-Subscriber.is (aborted subscriber_seat subscriber_place (λ _. IsTurnFault) c.in-Subscriber.end
    c.abort-in-Subscriber.result c.abort-in-Subscriber.ensures)
