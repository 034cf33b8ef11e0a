use Rattle.cdc_follow.proofs.QueueLemmas.{goes_on}
use Rattle.cdc_follow.proofs.laws.chained_followers_go_on.Goals as goal

pub returns : goal.returns
returns c = goes_on
