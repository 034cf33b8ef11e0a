use Rattle.cdc_audit_laws.proofs.Changes.{no_other_balances}
use Rattle.cdc_audit_laws.proofs.laws.no_other_balances.Goals as goal

pub returns : goal.returns
returns c = no_other_balances
