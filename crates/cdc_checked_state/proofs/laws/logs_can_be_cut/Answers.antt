use Rattle.cdc_checked_state.proofs.ReplayLemmas.{logs_cut}
use Rattle.cdc_checked_state.proofs.laws.logs_can_be_cut.Goals as goal

pub returns : goal.returns
returns c = logs_cut
