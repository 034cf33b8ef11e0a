use Rattle.cdc_audit_laws.proofs.Streams.{accepted_events_rise}
use Rattle.cdc_audit_laws.proofs.laws.accepted_events_rise.Goals as goal

pub returns : goal.returns
returns c = accepted_events_rise
