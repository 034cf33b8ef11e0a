-- What a call that takes a batch promises of its answer.
use Rattle.std.specs.Prelude.{◌≡◌, ◌<◌, Result, Ok, Err, IsOk}
use Rattle.cdc_types.specs.declared.batches.Batch.{Batch}
use Rattle.cdc_types.specs.declared.batches.BatchResults.{BatchResults}
use Rattle.cdc_ledger.specs.declared.errors.BatchError.{BatchError}
use Rattle.cdc_ledger.specs.declared.errors.BatchError.TheVariants.{LedgerClosed, BatchTooLarge, TimestampsExhausted, OutOfMemory}
use Rattle.cdc_ledger.specs.History.{History}
use Rattle.cdc_ledger.specs.Submit.{items_of, submit}

-- the batch turned the history h into g with the result that `submit` gives, or memory ran out for a result, which
-- needs an item or a transfer that is due; after any refusal the history is unchanged
abbrev pub Answers : {A : Type 0} → (A → BatchResults) → History → Batch → Result A BatchError → History → Type 0
Answers shown h b (Ok results) g = submit h b ≡ Ok (shown results, g)
Answers shown h b (Err LedgerClosed) g = (submit h b ≡ Err LedgerClosed) × (g ≡ h)
Answers shown h b (Err BatchTooLarge) g = (submit h b ≡ Err BatchTooLarge) × (g ≡ h)
Answers shown h b (Err TimestampsExhausted) g = (submit h b ≡ Err TimestampsExhausted) × (g ≡ h)
Answers shown h b (Err OutOfMemory) g = (IsOk (submit h b) × (0 < items_of h b)) × (g ≡ h)
