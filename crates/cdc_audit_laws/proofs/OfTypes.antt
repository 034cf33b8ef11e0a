-- The terms of the types and of the messages that several files use.
pub use Rattle.cdc_message.specs.Widths.{AccountFits, EventFits}
pub use Rattle.cdc_types.proofs.Rising.{last_timestamp_from-push}
pub use Rattle.cdc_types.specs.Flags.{has_flag, has_other_flag, is_linked_account, is_linked_transfer, is_pending_request, is_plain_request, is_post_request, is_void_request}
pub use Rattle.cdc_types.specs.Lines.{first_line}
pub use Rattle.cdc_types.specs.Results.{account_number, transfer_number}
pub use Rattle.cdc_types.specs.Shapes.{account_flags, account_refusal, account_shape_lines, asks_for_two_kinds, transfer_refusal, transfer_shape_lines}
pub use Rattle.cdc_types.specs.Timestamps.{RiseFrom, last_timestamp, last_timestamp_from}
pub use Rattle.cdc_types.specs.Widths.{max_128}
pub use Rattle.cdc_types.specs.declared.accounts.Balances.{Balances}
pub use Rattle.cdc_types.specs.declared.accounts.NewAccount.{NewAccount}
pub use Rattle.cdc_types.specs.declared.accounts.TheConstants.AccountFlags.{CREDITS_MUST_NOT_EXCEED_DEBITS, DEBITS_MUST_NOT_EXCEED_CREDITS}
pub use Rattle.cdc_types.specs.declared.batches.Batch.{Batch}
pub use Rattle.cdc_types.specs.declared.batches.BatchResults.{BatchResults}
pub use Rattle.cdc_types.specs.declared.bounds.TheConstants.Limits.{BATCH_ITEMS, TIMESTAMP}
pub use Rattle.cdc_types.specs.declared.events.Entry.{Entry}
pub use Rattle.cdc_types.specs.declared.events.Event.{Event}
pub use Rattle.cdc_types.specs.declared.events.EventAccount.{EventAccount}
pub use Rattle.cdc_types.specs.declared.events.EventKind.{EventKind}
pub use Rattle.cdc_types.specs.declared.events.EventKind.TheVariants.{SinglePhase, TwoPhaseExpired, TwoPhasePending, TwoPhasePosted, TwoPhaseVoided}
pub use Rattle.cdc_types.specs.declared.events.EventTransfer.{EventTransfer}
pub use Rattle.cdc_types.specs.declared.results.TransferResult.{TransferResult}
pub use Rattle.cdc_types.specs.declared.transfers.NewTransfer.{NewTransfer}
pub use Rattle.cdc_types.specs.declared.transfers.Transfer.{Transfer}
