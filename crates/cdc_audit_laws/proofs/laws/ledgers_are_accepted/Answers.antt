use Rattle.cdc_audit_laws.proofs.Accepted.{ledgers_are_accepted}
use Rattle.cdc_audit_laws.proofs.laws.ledgers_are_accepted.Goals as goal

pub returns : goal.returns
returns c = ledgers_are_accepted
