-- The numbers of an event, each within the width of its field.
use Rattle.std.specs.Prelude.{◌<◌, ◌^◌}
use Rattle.cdc_types.specs.declared.events.EventTransfer.{EventTransfer}
use Rattle.cdc_types.specs.declared.events.EventAccount.{EventAccount}
use Rattle.cdc_types.specs.declared.events.Event.{Event}

-- a transfer's
pub record TransferFits (transfer : EventTransfer) : Type 0 where
  pub id : transfer.id < 2 ^ 128
  pub amount : transfer.amount < 2 ^ 128
  pub pending_id : transfer.pending_id < 2 ^ 128
  pub user_data_128 : transfer.user_data_128 < 2 ^ 128
  pub user_data_64 : transfer.user_data_64 < 2 ^ 64
  pub user_data_32 : transfer.user_data_32 < 2 ^ 32
  pub timeout : transfer.timeout < 2 ^ 32
  pub code : transfer.code < 2 ^ 16
  pub flags : transfer.flags < 2 ^ 16
  pub timestamp : transfer.timestamp < 2 ^ 64

-- an account's
pub record AccountFits (account : EventAccount) : Type 0 where
  pub id : account.id < 2 ^ 128
  pub debits_pending : account.debits_pending < 2 ^ 128
  pub debits_posted : account.debits_posted < 2 ^ 128
  pub credits_pending : account.credits_pending < 2 ^ 128
  pub credits_posted : account.credits_posted < 2 ^ 128
  pub user_data_128 : account.user_data_128 < 2 ^ 128
  pub user_data_64 : account.user_data_64 < 2 ^ 64
  pub user_data_32 : account.user_data_32 < 2 ^ 32
  pub code : account.code < 2 ^ 16
  pub flags : account.flags < 2 ^ 16
  pub timestamp : account.timestamp < 2 ^ 64

-- an event's
pub record EventFits (event : Event) : Type 0 where
  pub timestamp : event.timestamp < 2 ^ 64
  pub ledger : event.ledger < 2 ^ 32
  pub transfer : TransferFits event.transfer
  pub debit_account : AccountFits event.debit_account
  pub credit_account : AccountFits event.credit_account
