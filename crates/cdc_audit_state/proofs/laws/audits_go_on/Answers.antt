use Rattle.cdc_audit_state.proofs.LawLemmas.{goes_on}
use Rattle.cdc_audit_state.proofs.laws.audits_go_on.Goals as goal

pub returns : goal.returns
returns c = goes_on
