use Rattle.cdc_audit_laws.proofs.Whole.{ledgers_events_are_whole}
use Rattle.cdc_audit_laws.proofs.laws.ledgers_events_are_whole.Goals as goal

pub returns : goal.returns
returns c = ledgers_events_are_whole
