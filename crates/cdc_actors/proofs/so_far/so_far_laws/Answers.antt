use Rattle.cdc_broker_actors.proofs.BrokerLemmas.Failing.{brokers_come_so_far}
use Rattle.cdc_ledger_actors.proofs.ClientLemmas.Fails.{clients_come_so_far}
use Rattle.cdc_connector_actor.proofs.ConnectorLemmas.Histories.{connectors_come_so_far}
use Rattle.cdc_ledger_actors.proofs.LedgerLemmas.Fails.{ledgers_come_so_far}
use Rattle.cdc_broker_actors.proofs.SubscriberLemmas.Fails.{subscribers_come_so_far}
use Rattle.cdc_actors.proofs.so_far.so_far_laws.Goals as goal

pub returns-clause-broker : goal.returns-clause-broker
returns-clause-broker c = brokers_come_so_far

pub returns-clause-client : goal.returns-clause-client
returns-clause-client c = clients_come_so_far

pub returns-clause-connector : goal.returns-clause-connector
returns-clause-connector c = connectors_come_so_far

pub returns-clause-ledger : goal.returns-clause-ledger
returns-clause-ledger c = ledgers_come_so_far

pub returns-clause-subscriber : goal.returns-clause-subscriber
returns-clause-subscriber c = subscribers_come_so_far
