use Rattle.cdc_chain.proofs.LawLemmas.{streams_go}
use Rattle.cdc_chain.proofs.laws.streams_go_on.Goals as goal

pub returns : goal.returns
returns c = streams_go
