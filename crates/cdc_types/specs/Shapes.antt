-- The refusals that a request's own fields call for, whatever the ledger holds: the first lines of the two tables
-- of results (TigerBeetle, `create_accounts` and `create_transfers`).
use Rattle.std.specs.Prelude.{ℕ, Bool, not, ◌==◌, ◌&&◌, ◌||◌, Option, List, [], ◌∷◌}
use Rattle.cdc_types.specs.declared.accounts.NewAccount.{NewAccount}
use Rattle.cdc_types.specs.declared.accounts.TheConstants.AccountFlags.{CREDITS_MUST_NOT_EXCEED_DEBITS, DEBITS_MUST_NOT_EXCEED_CREDITS}
use Rattle.cdc_types.specs.declared.transfers.NewTransfer.{NewTransfer}
use Rattle.cdc_types.specs.declared.results.AccountResult.{AccountResult}
use Rattle.cdc_types.specs.declared.results.AccountResult.TheVariants as account
use Rattle.cdc_types.specs.declared.results.TransferResult.{TransferResult}
use Rattle.cdc_types.specs.declared.results.TransferResult.TheVariants as transfer
use Rattle.cdc_types.specs.Flags.{has_flag, has_other_flag, is_pending_request, is_post_request, is_void_request, is_plain_request}
use Rattle.cdc_types.specs.Lines.{first_line}
use Rattle.cdc_types.specs.Widths.{max_128}

-- the flags of an account that are accepted, as the sum of their bits: 1, 2, 4 and 8
abbrev pub account_flags : ℕ
account_flags = 15

-- the lines on an account's own fields, in order
abbrev pub account_shape_lines : NewAccount → List (Bool × AccountResult)
account_shape_lines a =
    (has_other_flag a.flags account_flags, account.ReservedFlag) ∷
    (a.id == 0, account.IdMustNotBeZero) ∷
    (a.id == max_128, account.IdMustNotBeIntMax) ∷ (
      has_flag a.flags DEBITS_MUST_NOT_EXCEED_CREDITS && has_flag a.flags CREDITS_MUST_NOT_EXCEED_DEBITS,
      account.FlagsAreMutuallyExclusive,
    ) ∷
    (a.ledger == 0, account.LedgerMustNotBeZero) ∷
    (a.code == 0, account.CodeMustNotBeZero) ∷
    []

-- two of the three kinds that a request can ask for
abbrev pub asks_for_two_kinds : NewTransfer → Bool
asks_for_two_kinds t =
    (is_pending_request t && is_post_request t) || (is_pending_request t && is_void_request t)
    || (is_post_request t && is_void_request t)

-- the flags of a transfer that are accepted, as the sum of their bits: 1, 2, 4 and 8
abbrev pub transfer_flags : ℕ
transfer_flags = 15

-- the lines on a transfer's own fields, in order
abbrev pub transfer_shape_lines : NewTransfer → List (Bool × TransferResult)
transfer_shape_lines t =
    (has_other_flag t.flags transfer_flags, transfer.ReservedFlag) ∷
    (t.id == 0, transfer.IdMustNotBeZero) ∷
    (t.id == max_128, transfer.IdMustNotBeIntMax) ∷
    (asks_for_two_kinds t, transfer.FlagsAreMutuallyExclusive) ∷
    (is_plain_request t && not (t.pending_id == 0), transfer.PendingIdMustBeZero) ∷
    (not (is_plain_request t) && (t.pending_id == 0), transfer.PendingIdMustNotBeZero) ∷
    (not (is_plain_request t) && (t.pending_id == t.id), transfer.PendingIdMustBeDifferent) ∷
    (not (is_pending_request t) && not (t.timeout == 0), transfer.TimeoutReservedForPendingTransfer) ∷
    (is_plain_request t && (t.ledger == 0), transfer.LedgerMustNotBeZero) ∷
    (is_plain_request t && (t.code == 0), transfer.CodeMustNotBeZero) ∷
    (is_plain_request t && (t.debit_account_id == t.credit_account_id), transfer.AccountsMustBeDifferent) ∷
    []

-- the first refusal of an account's own fields, if any
abbrev pub account_refusal : NewAccount → Option AccountResult
account_refusal a = first_line (account_shape_lines a)

-- the first refusal of a transfer's own fields, if any
abbrev pub transfer_refusal : NewTransfer → Option TransferResult
transfer_refusal t = first_line (transfer_shape_lines t)
