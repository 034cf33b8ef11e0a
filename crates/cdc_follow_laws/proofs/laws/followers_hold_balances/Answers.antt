use Rattle.cdc_follow_laws.proofs.Holding.{followers_hold, prefixes_hold}
use Rattle.cdc_follow_laws.proofs.laws.followers_hold_balances.Goals as goal

pub returns-clause-begins : goal.returns-clause-begins
returns-clause-begins c = followers_hold

pub returns-clause-keeps : goal.returns-clause-keeps
returns-clause-keeps c = prefixes_hold
