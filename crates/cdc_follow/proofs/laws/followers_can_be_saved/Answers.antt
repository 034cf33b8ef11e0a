use Rattle.cdc_follow.proofs.SaveableLemmas.{can_be_saved}
use Rattle.cdc_follow.proofs.laws.followers_can_be_saved.Goals as goal

pub returns : goal.returns
returns c = can_be_saved
