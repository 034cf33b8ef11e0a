use Rattle.cdc_chain.proofs.LawLemmas.{followers_keep, lines_of_queues}
use Rattle.cdc_chain.proofs.laws.queue_lines_are_of_queues.Goals as goal

pub returns-clause-lines : goal.returns-clause-lines
returns-clause-lines c = lines_of_queues

pub returns-clause-followers : goal.returns-clause-followers
returns-clause-followers c = followers_keep
