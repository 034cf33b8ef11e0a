-- The store's count of failures over steps that are tried again.
use Rattle.cdc_world.proofs.Words.{Did, Err, HaveTriesCounted, IsCounted, IsStoreCounted, IsStoreCountedPast, Ok, OutOfMemory, Result, StepError, Store, arith, inl, inr, ℕ, ◌∙◌, ◌≤◌}
use Rattle.cdc_progress.specs.StoreError.TheVariants as store

-- a failure that counts takes nothing from the count
counted_rises : (before after : ℕ) → IsCounted before after → before ≤ after
counted_rises before after (inl less) = omega (arith, less)
counted_rises before after (inr both) = omega (arith, both.0, both.1)

-- nor does any answer of a step
pub answer_rises : (before after : ℕ) (answer : Result Did StepError) → IsStoreCounted before after answer
    → before ≤ after
answer_rises before after (Err (Store store.ReadFault)) counted = counted_rises before after counted
answer_rises before after (Err (Store store.WriteFault)) counted = counted_rises before after counted
answer_rises before after (Err (Store store.OutOfMemory)) never = absurd never
answer_rises before after answer same = omega (arith, same)

-- a step that is done after others that are counted so
pub HaveTriesCounted-done : (tries before between after : ℕ) (did : Did) → HaveTriesCounted tries before between
    → IsStoreCountedPast tries between after (Ok did) → HaveTriesCounted tries before after
HaveTriesCounted-done tries before between after did counts (last, (more, same)) =
    (omega (arith, counts.0, more.0, same), λ none. same ∙ more.1 none ∙ counts.1 none)
