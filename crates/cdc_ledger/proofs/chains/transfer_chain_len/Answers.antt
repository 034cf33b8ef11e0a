use Rattle.cdc_ledger.proofs.Words.{◌∙◌, arith, is_linked_transfer, sym}
use Rattle.cdc_ledger.proofs.BatchLaws.{no_transfer, first_chain, whole_chain}
use Rattle.cdc_ledger.proofs.chains.transfer_chain_len.Goals as goal

pub returns-then-not-is_linked-clause-first : goal.returns-then-not-is_linked-clause-first
returns-then-not-is_linked-clause-first c =
    first_chain is_linked_transfer no_transfer c.args.requests.now c.loop-place.place c.loop-place-test.true
    c.loop-place.invariant (sym c.is_linked.ensures ∙ c.if-not-is_linked.true)

pub returns-clause-first : goal.returns-clause-first
returns-clause-first c =
    whole_chain is_linked_transfer no_transfer c.args.requests.now c.requires
    (λ k below. c.loop-place.invariant k (omega arith))
