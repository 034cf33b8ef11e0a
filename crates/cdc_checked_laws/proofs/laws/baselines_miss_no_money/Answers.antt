use Rattle.cdc_checked_laws.proofs.Baselines.{baselines_miss_no_money}
use Rattle.cdc_checked_laws.proofs.Late.{late_streams_are_applied}
use Rattle.cdc_checked_laws.proofs.laws.baselines_miss_no_money.Goals as goal

pub returns-clause-money : goal.returns-clause-money
returns-clause-money c = baselines_miss_no_money

pub returns-clause-whole : goal.returns-clause-whole
returns-clause-whole c = late_streams_are_applied
