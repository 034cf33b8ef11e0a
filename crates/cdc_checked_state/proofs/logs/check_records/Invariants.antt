use Rattle.std.proofs.Common.{length}
use Rattle.cdc_checked_state.proofs.ReplayLemmas.{SoFar}
use Rattle.cdc_checked_state.proofs.logs.check_records.Given as goal

-- the records so far are followed
abbrev pub invariant-records : goal.invariant-records
invariant-records l = SoFar l.binding l.text l.initial.follower l.records l.rest l.follower

abbrev pub decreases-records : goal.decreases-records
decreases-records l = length l.rest
