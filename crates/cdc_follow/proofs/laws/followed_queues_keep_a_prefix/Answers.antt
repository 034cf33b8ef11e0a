use Rattle.cdc_follow.proofs.FoldLemmas.{followed_keep_a_prefix}
use Rattle.cdc_follow.proofs.laws.followed_queues_keep_a_prefix.Goals as goal

pub returns : goal.returns
returns c = followed_keep_a_prefix
