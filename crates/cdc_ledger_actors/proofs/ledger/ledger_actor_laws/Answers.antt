use Rattle.cdc_ledger_actors.proofs.LedgerLemmas.Closed.{clients_receive_replies, finished_ledgers_are_closed}
use Rattle.cdc_ledger_actors.proofs.ledger.ledger_actor_laws.Goals as goal

pub returns-clause-finished : goal.returns-clause-finished
returns-clause-finished c = finished_ledgers_are_closed

pub returns-clause-emitted : goal.returns-clause-emitted
returns-clause-emitted c = clients_receive_replies
