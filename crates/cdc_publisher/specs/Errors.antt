-- The numbers and names of why a session doesn't start.
use Rattle.std.specs.Prelude.{ℕ, List, codes}
use Rattle.cdc_progress.specs.StoreError.{StoreError}
use Rattle.cdc_progress.specs.StoreError.TheVariants as store
use Rattle.cdc_publisher.specs.declared.errors.StartError.{StartError}
use Rattle.cdc_publisher.specs.declared.errors.StartError.TheVariants.{Store, SessionsExhausted, OutOfMemory, StartNotAllowed}

-- the error's number
abbrev pub start_error_number : StartError → ℕ
start_error_number (Store why) = 1
start_error_number SessionsExhausted = 2
start_error_number OutOfMemory = 3
start_error_number StartNotAllowed = 4

-- the error's name
abbrev pub start_error_name : StartError → List ℕ
start_error_name (Store why) = codes "store"
start_error_name SessionsExhausted = codes "sessions_exhausted"
start_error_name OutOfMemory = codes "out_of_memory"
start_error_name StartNotAllowed = codes "start_not_allowed"

-- the error of a session whose store doesn't do its work
abbrev pub store_refusal : StoreError → StartError
store_refusal store.ReadFault = Store store.ReadFault
store_refusal store.WriteFault = Store store.WriteFault
store_refusal store.BadRecord = Store store.BadRecord
store_refusal store.OutOfMemory = OutOfMemory
