use Rattle.cdc_audit_laws.proofs.Soundness.{accepted_events_are_a_ledgers, accepted_events_begin_a_ledgers}
use Rattle.cdc_audit_laws.proofs.Soundness.{accepted_events_start_as_a_ledgers}
use Rattle.cdc_audit_laws.proofs.laws.accepted_events_are_a_ledgers.Goals as goal

pub returns-clause-begin : goal.returns-clause-begin
returns-clause-begin c = accepted_events_begin_a_ledgers

pub returns-clause-all : goal.returns-clause-all
returns-clause-all c = accepted_events_are_a_ledgers

pub returns-clause-start : goal.returns-clause-start
returns-clause-start c = accepted_events_start_as_a_ledgers
