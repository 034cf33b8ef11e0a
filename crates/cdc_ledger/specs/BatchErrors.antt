-- The number and the name of each refusal of a batch.
use Rattle.std.specs.Prelude.{ℕ, List, codes}
use Rattle.cdc_ledger.specs.declared.errors.BatchError.{BatchError}
use Rattle.cdc_ledger.specs.declared.errors.BatchError.TheVariants.{LedgerClosed, BatchTooLarge, TimestampsExhausted, OutOfMemory}

-- the place of the refusal in the order in which they are looked at
abbrev pub batch_error_number : BatchError → ℕ
batch_error_number LedgerClosed = 1
batch_error_number BatchTooLarge = 2
batch_error_number TimestampsExhausted = 3
batch_error_number OutOfMemory = 4

-- the name of the refusal as it is printed
abbrev pub batch_error_name : BatchError → List ℕ
batch_error_name LedgerClosed = codes "ledger_closed"
batch_error_name BatchTooLarge = codes "batch_too_large"
batch_error_name TimestampsExhausted = codes "timestamps_exhausted"
batch_error_name OutOfMemory = codes "out_of_memory"
