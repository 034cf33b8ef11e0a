use Rattle.cdc_end_laws.proofs.Lacking.{brokers_lack_one, clients_lack_one, connectors_keep_to_runs, ledgers_lack_one, subscribers_lack_one}
use Rattle.cdc_end_laws.proofs.actors.actors_lack_one_message.Goals as goal

pub returns-clause-ledger : goal.returns-clause-ledger
returns-clause-ledger c = ledgers_lack_one c.order_laws.ensures.dispatched c.so_far_laws.ensures.ledger

pub returns-clause-client : goal.returns-clause-client
returns-clause-client c = clients_lack_one c.so_far_laws.ensures.client

pub returns-clause-connector : goal.returns-clause-connector
returns-clause-connector c = connectors_keep_to_runs c.so_far_laws.ensures.connector

pub returns-clause-broker : goal.returns-clause-broker
returns-clause-broker c = brokers_lack_one c.so_far_laws.ensures.broker

pub returns-clause-subscriber : goal.returns-clause-subscriber
returns-clause-subscriber c = subscribers_lack_one c.so_far_laws.ensures.subscriber
