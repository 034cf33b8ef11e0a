-- Batches whose numbers are within the widths of their fields.
use Rattle.std.specs.Prelude.{◌<◌, ◌^◌}
use Rattle.std.specs.List.{AllByRecursion}
use Rattle.cdc_types.specs.declared.accounts.NewAccount.{NewAccount}
use Rattle.cdc_types.specs.declared.batches.Batch.{Batch}
use Rattle.cdc_types.specs.declared.batches.Batch.TheVariants.{Accounts, Transfers, Pulse}
use Rattle.cdc_types.specs.declared.transfers.NewTransfer.{NewTransfer}

-- a request for an account
pub record NewAccountFits (a : NewAccount) : Type 0 where
  pub id : a.id < 2 ^ 128
  pub user_data_128 : a.user_data_128 < 2 ^ 128
  pub user_data_64 : a.user_data_64 < 2 ^ 64
  pub user_data_32 : a.user_data_32 < 2 ^ 32
  pub ledger : a.ledger < 2 ^ 32
  pub code : a.code < 2 ^ 16
  pub flags : a.flags < 2 ^ 16

-- a request for a transfer
pub record NewTransferFits (r : NewTransfer) : Type 0 where
  pub id : r.id < 2 ^ 128
  pub debit_account_id : r.debit_account_id < 2 ^ 128
  pub credit_account_id : r.credit_account_id < 2 ^ 128
  pub amount : r.amount < 2 ^ 128
  pub pending_id : r.pending_id < 2 ^ 128
  pub user_data_128 : r.user_data_128 < 2 ^ 128
  pub user_data_64 : r.user_data_64 < 2 ^ 64
  pub user_data_32 : r.user_data_32 < 2 ^ 32
  pub timeout : r.timeout < 2 ^ 32
  pub ledger : r.ledger < 2 ^ 32
  pub code : r.code < 2 ^ 16
  pub flags : r.flags < 2 ^ 16

-- a batch: its timestamp, and each of its items
abbrev pub BatchFits : Batch → Type 0
BatchFits (Accounts now items) = (now < 2 ^ 64) × AllByRecursion NewAccountFits items
BatchFits (Transfers now items) = (now < 2 ^ 64) × AllByRecursion NewTransferFits items
BatchFits (Pulse now) = now < 2 ^ 64
