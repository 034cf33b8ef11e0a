use Rattle.cdc_run.proofs.SettledBooks.{books_settle}
use Rattle.cdc_run.proofs.Counted.{orders_are_of_clients}
use Rattle.cdc_run.proofs.Replied.{clients_are_replied}
use Rattle.cdc_run.proofs.Subscribed.{StandsOn, subscribers_come}
use Rattle.cdc_run.proofs.laws.settle_laws.Goals as goal

pub returns-clause-replied : goal.returns-clause-replied
returns-clause-replied c = clients_are_replied c.traffic_laws.ensures.ends.0 c.order_laws.ensures.batches

pub returns-clause-of_clients : goal.returns-clause-of_clients
returns-clause-of_clients c = orders_are_of_clients

pub returns-clause-come : goal.returns-clause-come
returns-clause-come c =
    let on : StandsOn = record {
      pasts = c.traffic_laws.ensures.pasts;
      readings = c.traffic_laws.ensures.readings;
      runs = c.connector_laws.ensures.runs;
      faithful = c.run_laws.ensures.faithful;
      reception = c.subscriber_actor_laws.ensures.receives;
      unasked = c.subscriber_actor_laws.ensures.unasked;
      asked = c.subscriber_actor_laws.ensures.asked;
    } in
    subscribers_come on

pub returns-clause-books : goal.returns-clause-books
returns-clause-books c =
    books_settle (clients_are_replied c.traffic_laws.ensures.ends.0 c.order_laws.ensures.batches) orders_are_of_clients
    c.ledger_actor_laws.ensures.finished
