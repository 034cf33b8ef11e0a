use Rattle.std.proofs.Common.{length}
use Rattle.cdc_follow.proofs.SavedLemmas.{ReadSoFar}
use Rattle.cdc_follow.proofs.saved.read_accounts.Given as goal

-- the accounts read so far are in the book
abbrev pub invariant-loop-rest : goal.invariant-loop-rest
invariant-loop-rest l = ReadSoFar l.text l.book l.rest

abbrev pub decreases-loop-rest : goal.decreases-loop-rest
decreases-loop-rest l = length l.rest
