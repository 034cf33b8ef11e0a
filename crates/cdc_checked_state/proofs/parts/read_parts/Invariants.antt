use Rattle.std.proofs.Common.{length}
use Rattle.cdc_checked_state.proofs.LoopLemmas.{ReadSoFar}
use Rattle.cdc_checked_state.proofs.parts.read_parts.Given as goal

-- the parts are what the lines so far contain
abbrev pub invariant-loop-rest : goal.invariant-loop-rest
invariant-loop-rest l = ReadSoFar l.text l.parts l.rest

abbrev pub decreases-loop-rest : goal.decreases-loop-rest
decreases-loop-rest l = length l.rest
