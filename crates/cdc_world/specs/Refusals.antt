-- Which refusal of a step corresponds to a refusal of one of the actors.
use Rattle.cdc_ledger.specs.declared.errors.BatchError.{BatchError}
use Rattle.cdc_ledger.specs.declared.errors.BatchError.TheVariants as batch
use Rattle.cdc_progress.specs.StoreError.{StoreError}
use Rattle.cdc_publisher.specs.Errors.{store_refusal as start_error_of}
use Rattle.cdc_publisher.specs.declared.errors.StartError.{StartError}
use Rattle.cdc_publisher.specs.declared.errors.StartError.TheVariants as start
use Rattle.cdc_world.specs.declared.steps.StepError.{StepError}
use Rattle.cdc_world.specs.declared.steps.StepError.TheVariants.{Refused, Store, SessionsExhausted, OutOfMemory, StartNotAllowed}

-- the ledger's, of a batch
abbrev pub batch_refusal : BatchError → StepError
batch_refusal batch.LedgerClosed = Refused batch.LedgerClosed
batch_refusal batch.BatchTooLarge = Refused batch.BatchTooLarge
batch_refusal batch.TimestampsExhausted = Refused batch.TimestampsExhausted
batch_refusal batch.OutOfMemory = OutOfMemory

-- that of a session that doesn't start
abbrev pub start_refusal : StartError → StepError
start_refusal (start.Store why) = Store why
start_refusal start.SessionsExhausted = SessionsExhausted
start_refusal start.OutOfMemory = OutOfMemory
start_refusal start.StartNotAllowed = StartNotAllowed

-- the store's: that of a session whose store answers so
abbrev pub store_refusal : StoreError → StepError
store_refusal why = start_refusal (start_error_of why)
