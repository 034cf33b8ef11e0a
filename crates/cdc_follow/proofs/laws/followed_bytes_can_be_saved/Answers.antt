use Rattle.cdc_follow.proofs.SaveableLemmas.{bytes_can_be_saved}
use Rattle.cdc_follow.proofs.laws.followed_bytes_can_be_saved.Goals as goal

pub returns : goal.returns
returns c = bytes_can_be_saved
