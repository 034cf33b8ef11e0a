use Rattle.cdc_end_laws.proofs.Trying.{plays_failed, steps_failed}
use Rattle.cdc_end_laws.proofs.tries.refused_steps_failed_each_time.Goals as goal

pub returns-clause-step : goal.returns-clause-step
returns-clause-step c = steps_failed

pub returns-clause-play : goal.returns-clause-play
returns-clause-play c = plays_failed
