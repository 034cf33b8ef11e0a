use Rattle.cdc_end_laws.proofs.Polled.{finished_reply, polls_lack_one}
use Rattle.cdc_end_laws.proofs.actors.finished_ledgers_reply_to_all.Goals as goal

pub returns-clause-turns : goal.returns-clause-turns
returns-clause-turns c = polls_lack_one

pub returns-clause-finished : goal.returns-clause-finished
returns-clause-finished c = finished_reply c.ledger_actor_laws.ensures.finished
