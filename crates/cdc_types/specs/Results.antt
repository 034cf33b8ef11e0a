-- The number and the name of each result.
use Rattle.std.specs.Prelude.{ℕ, List, codes}
use Rattle.cdc_types.specs.declared.results.AccountResult.{AccountResult}
use Rattle.cdc_types.specs.declared.results.AccountResult.TheVariants as account
use Rattle.cdc_types.specs.declared.results.TransferResult.{TransferResult}
use Rattle.cdc_types.specs.declared.results.TransferResult.TheVariants as transfer

-- the number of the result in its table; 0 if the item was accepted
abbrev pub account_number : AccountResult → ℕ
account_number account.Accepted = 0
account_number account.ReservedFlag = 1
account_number account.IdMustNotBeZero = 2
account_number account.IdMustNotBeIntMax = 3
account_number account.FlagsAreMutuallyExclusive = 4
account_number account.LedgerMustNotBeZero = 5
account_number account.CodeMustNotBeZero = 6
account_number account.ExistsWithDifferentFields = 7
account_number account.Exists = 8
account_number account.LinkedEventFailed = 9
account_number account.LinkedEventChainOpen = 10

-- the name of the result: the manual's, except for `ok` and `exists_with_different_fields`, which are ours
abbrev pub account_name : AccountResult → List ℕ
account_name account.Accepted = codes "ok"
account_name account.ReservedFlag = codes "reserved_flag"
account_name account.IdMustNotBeZero = codes "id_must_not_be_zero"
account_name account.IdMustNotBeIntMax = codes "id_must_not_be_int_max"
account_name account.FlagsAreMutuallyExclusive = codes "flags_are_mutually_exclusive"
account_name account.LedgerMustNotBeZero = codes "ledger_must_not_be_zero"
account_name account.CodeMustNotBeZero = codes "code_must_not_be_zero"
account_name account.ExistsWithDifferentFields = codes "exists_with_different_fields"
account_name account.Exists = codes "exists"
account_name account.LinkedEventFailed = codes "linked_event_failed"
account_name account.LinkedEventChainOpen = codes "linked_event_chain_open"

-- the number of the result in its table; 0 if the item was accepted
abbrev pub transfer_number : TransferResult → ℕ
transfer_number transfer.Accepted = 0
transfer_number transfer.ReservedFlag = 1
transfer_number transfer.IdMustNotBeZero = 2
transfer_number transfer.IdMustNotBeIntMax = 3
transfer_number transfer.FlagsAreMutuallyExclusive = 4
transfer_number transfer.PendingIdMustBeZero = 5
transfer_number transfer.PendingIdMustNotBeZero = 6
transfer_number transfer.PendingIdMustBeDifferent = 7
transfer_number transfer.TimeoutReservedForPendingTransfer = 8
transfer_number transfer.LedgerMustNotBeZero = 9
transfer_number transfer.CodeMustNotBeZero = 10
transfer_number transfer.AccountsMustBeDifferent = 11
transfer_number transfer.ExistsWithDifferentFields = 12
transfer_number transfer.Exists = 13
transfer_number transfer.DebitAccountNotFound = 14
transfer_number transfer.CreditAccountNotFound = 15
transfer_number transfer.AccountsMustHaveTheSameLedger = 16
transfer_number transfer.TransferMustHaveTheSameLedgerAsAccounts = 17
transfer_number transfer.PendingTransferNotFound = 18
transfer_number transfer.PendingTransferNotPending = 19
transfer_number transfer.PendingTransferHasDifferentDebitAccountId = 20
transfer_number transfer.PendingTransferHasDifferentCreditAccountId = 21
transfer_number transfer.PendingTransferHasDifferentLedger = 22
transfer_number transfer.PendingTransferHasDifferentCode = 23
transfer_number transfer.ExceedsPendingTransferAmount = 24
transfer_number transfer.PendingTransferHasDifferentAmount = 25
transfer_number transfer.PendingTransferAlreadyPosted = 26
transfer_number transfer.PendingTransferAlreadyVoided = 27
transfer_number transfer.PendingTransferExpired = 28
transfer_number transfer.OverflowsDebitsPending = 29
transfer_number transfer.OverflowsCreditsPending = 30
transfer_number transfer.OverflowsDebitsPosted = 31
transfer_number transfer.OverflowsCreditsPosted = 32
transfer_number transfer.OverflowsDebits = 33
transfer_number transfer.OverflowsCredits = 34
transfer_number transfer.OverflowsTimeout = 35
transfer_number transfer.ExceedsCredits = 36
transfer_number transfer.ExceedsDebits = 37
transfer_number transfer.LinkedEventFailed = 38
transfer_number transfer.LinkedEventChainOpen = 39

-- the name of the result: the manual's, except for `ok` and `exists_with_different_fields`, which are ours
abbrev pub transfer_name : TransferResult → List ℕ
transfer_name transfer.Accepted = codes "ok"
transfer_name transfer.ReservedFlag = codes "reserved_flag"
transfer_name transfer.IdMustNotBeZero = codes "id_must_not_be_zero"
transfer_name transfer.IdMustNotBeIntMax = codes "id_must_not_be_int_max"
transfer_name transfer.FlagsAreMutuallyExclusive = codes "flags_are_mutually_exclusive"
transfer_name transfer.PendingIdMustBeZero = codes "pending_id_must_be_zero"
transfer_name transfer.PendingIdMustNotBeZero = codes "pending_id_must_not_be_zero"
transfer_name transfer.PendingIdMustBeDifferent = codes "pending_id_must_be_different"
transfer_name transfer.TimeoutReservedForPendingTransfer = codes "timeout_reserved_for_pending_transfer"
transfer_name transfer.LedgerMustNotBeZero = codes "ledger_must_not_be_zero"
transfer_name transfer.CodeMustNotBeZero = codes "code_must_not_be_zero"
transfer_name transfer.AccountsMustBeDifferent = codes "accounts_must_be_different"
transfer_name transfer.ExistsWithDifferentFields = codes "exists_with_different_fields"
transfer_name transfer.Exists = codes "exists"
transfer_name transfer.DebitAccountNotFound = codes "debit_account_not_found"
transfer_name transfer.CreditAccountNotFound = codes "credit_account_not_found"
transfer_name transfer.AccountsMustHaveTheSameLedger = codes "accounts_must_have_the_same_ledger"
transfer_name transfer.TransferMustHaveTheSameLedgerAsAccounts = codes "transfer_must_have_the_same_ledger_as_accounts"
transfer_name transfer.PendingTransferNotFound = codes "pending_transfer_not_found"
transfer_name transfer.PendingTransferNotPending = codes "pending_transfer_not_pending"
transfer_name transfer.PendingTransferHasDifferentDebitAccountId =
    codes "pending_transfer_has_different_debit_account_id"
transfer_name transfer.PendingTransferHasDifferentCreditAccountId =
    codes "pending_transfer_has_different_credit_account_id"
transfer_name transfer.PendingTransferHasDifferentLedger = codes "pending_transfer_has_different_ledger"
transfer_name transfer.PendingTransferHasDifferentCode = codes "pending_transfer_has_different_code"
transfer_name transfer.ExceedsPendingTransferAmount = codes "exceeds_pending_transfer_amount"
transfer_name transfer.PendingTransferHasDifferentAmount = codes "pending_transfer_has_different_amount"
transfer_name transfer.PendingTransferAlreadyPosted = codes "pending_transfer_already_posted"
transfer_name transfer.PendingTransferAlreadyVoided = codes "pending_transfer_already_voided"
transfer_name transfer.PendingTransferExpired = codes "pending_transfer_expired"
transfer_name transfer.OverflowsDebitsPending = codes "overflows_debits_pending"
transfer_name transfer.OverflowsCreditsPending = codes "overflows_credits_pending"
transfer_name transfer.OverflowsDebitsPosted = codes "overflows_debits_posted"
transfer_name transfer.OverflowsCreditsPosted = codes "overflows_credits_posted"
transfer_name transfer.OverflowsDebits = codes "overflows_debits"
transfer_name transfer.OverflowsCredits = codes "overflows_credits"
transfer_name transfer.OverflowsTimeout = codes "overflows_timeout"
transfer_name transfer.ExceedsCredits = codes "exceeds_credits"
transfer_name transfer.ExceedsDebits = codes "exceeds_debits"
transfer_name transfer.LinkedEventFailed = codes "linked_event_failed"
transfer_name transfer.LinkedEventChainOpen = codes "linked_event_chain_open"
