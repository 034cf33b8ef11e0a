use Rattle.cdc_audit_laws.proofs.Streams.{prefixes_are_accepted}
use Rattle.cdc_audit_laws.proofs.laws.prefixes_are_accepted.Goals as goal

pub returns : goal.returns
returns c = prefixes_are_accepted
