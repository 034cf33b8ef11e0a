use Rattle.cdc_follow_laws.proofs.ChainLemmas.{followed_are_chains}
use Rattle.cdc_follow_laws.proofs.laws.followed_streams_are_chains.Goals as goal

pub returns : goal.returns
returns c = followed_are_chains
