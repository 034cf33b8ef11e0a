use Rattle.cdc_audit_laws.proofs.Changes.{a_change_shows}
use Rattle.cdc_audit_laws.proofs.laws.a_change_shows.Goals as goal

pub returns : goal.returns
returns c = a_change_shows
