use Rattle.cdc_follow_laws.proofs.Holding.{ledger_events_rise, queues_arrive}
use Rattle.cdc_follow_laws.proofs.laws.ledger_events_are_rising.Goals as goal

pub returns-clause-rising : goal.returns-clause-rising
returns-clause-rising c = ledger_events_rise

pub returns-clause-arrives : goal.returns-clause-arrives
returns-clause-arrives c = queues_arrive
