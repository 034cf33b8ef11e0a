use Rattle.cdc_end_laws.proofs.Closing.{all_closes_decide, closes_decide}
use Rattle.cdc_end_laws.proofs.subscribers.closes_decide.Goals as goal

pub returns-clause-one : goal.returns-clause-one
returns-clause-one c = closes_decide

pub returns-clause-all : goal.returns-clause-all
returns-clause-all c = all_closes_decide
