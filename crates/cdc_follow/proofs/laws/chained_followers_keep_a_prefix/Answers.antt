use Rattle.cdc_follow.proofs.QueueLemmas.{keeps_a_prefix}
use Rattle.cdc_follow.proofs.laws.chained_followers_keep_a_prefix.Goals as goal

pub returns : goal.returns
returns c = keeps_a_prefix
