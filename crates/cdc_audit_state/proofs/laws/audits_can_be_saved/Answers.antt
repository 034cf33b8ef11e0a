use Rattle.cdc_audit_state.proofs.WidthLemmas.{can_be_saved}
use Rattle.cdc_audit_state.proofs.laws.audits_can_be_saved.Goals as goal

pub returns : goal.returns
returns c = can_be_saved
