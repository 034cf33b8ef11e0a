-- The bits of the flags (TigerBeetle, Account and Transfer, `flags`).
use Rattle.std.specs.Prelude.{ℕ, ◌-◌, Bool, not, ◌==◌, ◌||◌, bit_and}
use Rattle.cdc_types.specs.declared.accounts.NewAccount.{NewAccount}
use Rattle.cdc_types.specs.declared.accounts.TheConstants.AccountFlags as account
use Rattle.cdc_types.specs.declared.transfers.NewTransfer.{NewTransfer}
use Rattle.cdc_types.specs.declared.transfers.TheConstants.TransferFlags as transfer
use Rattle.cdc_types.specs.Widths.{max_16}

-- some of these bits is set
abbrev pub has_flag : ℕ → ℕ → Bool
has_flag flags bits = not (bit_and flags bits == 0)

-- a bit is set that isn't among the accepted ones
abbrev pub has_other_flag : ℕ → ℕ → Bool
has_other_flag flags accepted = has_flag flags (max_16 - accepted)

-- the account is chained to the next item of its batch
abbrev pub is_linked_account : NewAccount → Bool
is_linked_account a = has_flag a.flags account.LINKED

-- the transfer is chained to the next item of its batch
abbrev pub is_linked_transfer : NewTransfer → Bool
is_linked_transfer t = has_flag t.flags transfer.LINKED

-- the amount is held back until it is posted or voided
abbrev pub is_pending_request : NewTransfer → Bool
is_pending_request t = has_flag t.flags transfer.PENDING

-- a pending transfer is posted
abbrev pub is_post_request : NewTransfer → Bool
is_post_request t = has_flag t.flags transfer.POST_PENDING_TRANSFER

-- a pending transfer is voided
abbrev pub is_void_request : NewTransfer → Bool
is_void_request t = has_flag t.flags transfer.VOID_PENDING_TRANSFER

-- the transfer names its accounts itself: it is single-phase or pending
abbrev pub is_plain_request : NewTransfer → Bool
is_plain_request t = not (is_post_request t || is_void_request t)
