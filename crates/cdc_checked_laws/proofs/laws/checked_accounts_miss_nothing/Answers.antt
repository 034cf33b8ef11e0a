use Rattle.cdc_checked_laws.proofs.Missed.{checked_accounts_miss_nothing}
use Rattle.cdc_checked_laws.proofs.Silent.{missed_events_are_silent}
use Rattle.cdc_checked_laws.proofs.laws.checked_accounts_miss_nothing.Goals as goal

pub returns-clause-missed : goal.returns-clause-missed
returns-clause-missed c = checked_accounts_miss_nothing

pub returns-clause-silent : goal.returns-clause-silent
returns-clause-silent c = missed_events_are_silent
