use Rattle.cdc_audit_state.proofs.LawLemmas.{audited_fit}
use Rattle.cdc_audit_state.proofs.laws.audited_events_fit.Goals as goal

pub returns : goal.returns
returns c = audited_fit
