use Rattle.cdc_checked_laws.proofs.Bytes.{followed_bytes_are_checked, followed_bytes_miss_no_money, followed_bytes_miss_nothing}
use Rattle.cdc_checked_laws.proofs.laws.followed_bytes_are_checked.Goals as goal

pub returns-clause-checked : goal.returns-clause-checked
returns-clause-checked c = followed_bytes_are_checked

pub returns-clause-missed : goal.returns-clause-missed
returns-clause-missed c = followed_bytes_miss_nothing

pub returns-clause-money : goal.returns-clause-money
returns-clause-money c = followed_bytes_miss_no_money
