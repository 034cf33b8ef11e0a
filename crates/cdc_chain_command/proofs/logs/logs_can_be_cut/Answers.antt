use Rattle.cdc_chain_command.proofs.LogLemmas.{logs_cut}
use Rattle.cdc_chain_command.proofs.logs.logs_can_be_cut.Goals as goal

pub returns : goal.returns
returns c = logs_cut
