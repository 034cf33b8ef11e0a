use Rattle.cdc_checked_state.proofs.WidthLemmas.{can_be_saved}
use Rattle.cdc_checked_state.proofs.laws.followers_can_be_saved.Goals as goal

pub returns : goal.returns
returns c = can_be_saved
