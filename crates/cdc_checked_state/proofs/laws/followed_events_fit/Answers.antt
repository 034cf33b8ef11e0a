use Rattle.cdc_checked_state.proofs.WidthLemmas.{followed_fit}
use Rattle.cdc_checked_state.proofs.laws.followed_events_fit.Goals as goal

pub returns : goal.returns
returns c = followed_fit
