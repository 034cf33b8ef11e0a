use Rattle.cdc_chain.proofs.LawLemmas.{ended_nothing, gets_lines, plain_lines, taken_rise}
use Rattle.cdc_chain.proofs.laws.each_queue_gets_its_lines.Goals as goal

pub returns-clause-rising : goal.returns-clause-rising
returns-clause-rising c = taken_rise

pub returns-clause-lines : goal.returns-clause-lines
returns-clause-lines c = gets_lines

pub returns-clause-plain : goal.returns-clause-plain
returns-clause-plain c = plain_lines

pub returns-clause-ended : goal.returns-clause-ended
returns-clause-ended c = ended_nothing
