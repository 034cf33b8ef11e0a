use Rattle.cdc_follow_laws.proofs.ChainBytes.{bytes_are_chains, lines_name}
use Rattle.cdc_follow_laws.proofs.laws.whatever_bytes_come_are_a_chain.Goals as goal

pub returns-clause-lines : goal.returns-clause-lines
returns-clause-lines c = lines_name

pub returns-clause-bytes : goal.returns-clause-bytes
returns-clause-bytes c = bytes_are_chains
