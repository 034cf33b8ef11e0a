use Rattle.cdc_follow_laws.proofs.ChainLemmas.{sees_a_chain}
use Rattle.cdc_follow_laws.proofs.laws.whatever_comes_is_a_chain.Goals as goal

pub returns : goal.returns
returns c = sees_a_chain
