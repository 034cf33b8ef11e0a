use Rattle.cdc_follow.proofs.OnceLemmas.{goes_on_once}
use Rattle.cdc_follow.proofs.laws.going_on_is_once.Goals as goal

pub returns : goal.returns
returns c = goes_on_once
