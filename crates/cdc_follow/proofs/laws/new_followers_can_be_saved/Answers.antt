use Rattle.cdc_follow.proofs.SaveableLemmas.{new_can_be_saved}
use Rattle.cdc_follow.proofs.laws.new_followers_can_be_saved.Goals as goal

pub returns : goal.returns
returns c = new_can_be_saved
