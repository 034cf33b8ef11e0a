use Rattle.cdc_ledger.proofs.Words.{◌<◌, ◌≡◌, get_or, is_linked_transfer, true, ℕ}
use Rattle.cdc_ledger.proofs.BatchLaws.{no_transfer}
use Rattle.cdc_ledger.proofs.chains.transfer_chain_len.Given as goal

-- those so far are linked
abbrev pub invariant-loop-place : goal.invariant-loop-place
invariant-loop-place l = (k : ℕ) → k < l.place → is_linked_transfer (get_or l.requests k no_transfer) ≡ true
