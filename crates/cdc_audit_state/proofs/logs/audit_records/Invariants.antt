use Rattle.std.proofs.Common.{length}
use Rattle.cdc_audit_state.proofs.ReplayLemmas.{SoFar}
use Rattle.cdc_audit_state.proofs.logs.audit_records.Given as goal

-- the records so far are audited
abbrev pub invariant-records : goal.invariant-records
invariant-records l = SoFar l.text l.initial.auditor l.records l.rest l.auditor

abbrev pub decreases-records : goal.decreases-records
decreases-records l = length l.rest
