-- What becomes of a request: the first line of its table that applies (TigerBeetle, `create_accounts` and
-- `create_transfers`).
use Rattle.std.specs.Prelude.{ℕ, ◌+◌, Bool, true, ◌==◌, ◌&&◌, ◌||◌, not, nat_lt, nat_le, Option, Some, None, List, [], ◌∷◌, ◌++◌, if◌then◌else◌}
use Rattle.cdc_types.specs.declared.accounts.Balances.{Balances}
use Rattle.cdc_types.specs.declared.accounts.NewAccount.{NewAccount}
use Rattle.cdc_types.specs.declared.accounts.TheConstants.AccountFlags.{CREDITS_MUST_NOT_EXCEED_DEBITS, DEBITS_MUST_NOT_EXCEED_CREDITS}
use Rattle.cdc_types.specs.declared.events.Entry.{Entry}
use Rattle.cdc_types.specs.declared.results.AccountResult.{AccountResult}
use Rattle.cdc_types.specs.declared.results.AccountResult.TheVariants as account
use Rattle.cdc_types.specs.declared.results.TransferResult.{TransferResult}
use Rattle.cdc_types.specs.declared.results.TransferResult.TheVariants as transfer
use Rattle.cdc_types.specs.declared.transfers.NewTransfer.{NewTransfer}
use Rattle.cdc_types.specs.declared.transfers.Transfer.{Transfer}
use Rattle.cdc_types.specs.declared.bounds.TheConstants.Limits.{TIMESTAMP}
use Rattle.cdc_types.specs.Flags.{has_flag, is_pending_request, is_void_request, is_plain_request}
use Rattle.cdc_types.specs.Lines.{first_line}
use Rattle.cdc_types.specs.Shapes.{account_shape_lines, transfer_shape_lines}
use Rattle.cdc_types.specs.Widths.{max_128}
use Rattle.cdc_ledger.specs.History.{Opened, History, opened}
use Rattle.cdc_ledger.specs.Kinds.{holds, posts, voids, expires}
use Rattle.cdc_ledger.specs.Balances.{balances, some_by}
use Rattle.cdc_ledger.specs.Filling.{stored, settled_amount, filled, as_asked, is_same_transfer, expires_at}

-- the greatest timestamp, in nanoseconds
abbrev pub max_timestamp : ℕ
max_timestamp = TIMESTAMP

-- every field of two requests for an account is equal
abbrev pub is_same_account : NewAccount → NewAccount → Bool
is_same_account a b =
    (a.id == b.id) && (a.user_data_128 == b.user_data_128) && (a.user_data_64 == b.user_data_64)
    && (a.user_data_32 == b.user_data_32) && (a.ledger == b.ledger) && (a.code == b.code) && (a.flags == b.flags)

-- the lines on an account that is there already
abbrev pub known_account_lines : Option Opened → NewAccount → List (Bool × AccountResult)
known_account_lines None a = []
known_account_lines (Some o) a =
    (not (is_same_account a o.request), account.ExistsWithDifferentFields) ∷ (true, account.Exists) ∷ []

-- all lines on an account, in order
abbrev pub account_lines : History → NewAccount → List (Bool × AccountResult)
account_lines h a = account_shape_lines a ++ known_account_lines (opened h a.id) a

-- why a request for an account is refused, if it is
abbrev pub account_refused : History → NewAccount → Option AccountResult
account_refused h a = first_line (account_lines h a)

-- the lines on a transfer that exists already: a post or a void is filled in before it is compared. Timestamps aren't
-- compared; here the request is filled in with the entry's timestamp, and any other would do
abbrev pub known_transfer_lines : Option Entry → History → NewTransfer → List (Bool × TransferResult)
known_transfer_lines None h r = []
known_transfer_lines (Some e) h r =
    (not (is_same_transfer (filled h r e.timestamp) e.transfer), transfer.ExistsWithDifferentFields) ∷
    (true, transfer.Exists) ∷
    []

-- the lines on sums that don't fit, from the balances before a single-phase or a pending transfer
abbrev pub overflow_lines : Balances → Balances → NewTransfer → List (Bool × TransferResult)
overflow_lines debit credit r =
    let pending = is_pending_request r in
    (pending && nat_lt max_128 (debit.debits_pending + r.amount), transfer.OverflowsDebitsPending) ∷
    (pending && nat_lt max_128 (credit.credits_pending + r.amount), transfer.OverflowsCreditsPending) ∷
    (nat_lt max_128 (debit.debits_posted + r.amount), transfer.OverflowsDebitsPosted) ∷
    (nat_lt max_128 (credit.credits_posted + r.amount), transfer.OverflowsCreditsPosted) ∷
    (nat_lt max_128 (debit.debits_pending + debit.debits_posted + r.amount), transfer.OverflowsDebits) ∷
    (nat_lt max_128 (credit.credits_pending + credit.credits_posted + r.amount), transfer.OverflowsCredits) ∷
    []

-- the line on an expiry time that exceeds the greatest timestamp
abbrev pub timeout_lines : NewTransfer → ℕ → List (Bool × TransferResult)
timeout_lines r t =
    (not (r.timeout == 0) && nat_lt max_timestamp (expires_at (as_asked r t)), transfer.OverflowsTimeout) ∷ []

-- the lines on the limits that the two accounts' flags set; what is pending counts as well
abbrev pub limit_lines : Balances → Balances → NewAccount → NewAccount → ℕ → List (Bool × TransferResult)
limit_lines debit credit debited credited amount =
    let debits = debit.debits_pending + debit.debits_posted + amount in
    let credits = credit.credits_pending + credit.credits_posted + amount in (
      has_flag debited.flags DEBITS_MUST_NOT_EXCEED_CREDITS && nat_lt debit.credits_posted debits,
      transfer.ExceedsCredits,
    ) ∷ (
      has_flag credited.flags CREDITS_MUST_NOT_EXCEED_DEBITS && nat_lt credit.debits_posted credits,
      transfer.ExceedsDebits,
    ) ∷
    []

-- the lines on the sums that a single-phase or a pending transfer would lead to, from the balances before it
abbrev pub sum_lines : Balances → Balances → NewAccount → NewAccount → NewTransfer → ℕ → List (Bool × TransferResult)
sum_lines debit credit debited credited r t =
    overflow_lines debit credit r ++ timeout_lines r t ++ limit_lines debit credit debited credited r.amount

-- the lines on a single-phase or a pending transfer and its two accounts
abbrev pub plain_lines : Option Opened → Option Opened → History → NewTransfer → ℕ → List (Bool × TransferResult)
plain_lines None credited h r t = (true, transfer.DebitAccountNotFound) ∷ []
plain_lines (Some debited) None h r t = (true, transfer.CreditAccountNotFound) ∷ []
plain_lines (Some debited) (Some credited) h r t =
    (not (debited.request.ledger == credited.request.ledger), transfer.AccountsMustHaveTheSameLedger) ∷
    (not (r.ledger == debited.request.ledger), transfer.TransferMustHaveTheSameLedgerAsAccounts) ∷
    sum_lines (balances h r.debit_account_id t) (balances h r.credit_account_id t) debited.request credited.request r t

-- given, and not the pending transfer's own
abbrev pub is_other : ℕ → ℕ → Bool
is_other given own = not (given == 0) && not (given == own)

-- the lines on the fields of a post or a void, compared with the entry of the pending transfer that it names
abbrev pub field_lines : Entry → NewTransfer → List (Bool × TransferResult)
field_lines e r =
    let p = e.transfer in
    let amount = settled_amount r p in
    (not (holds e.kind), transfer.PendingTransferNotPending) ∷
    (is_other r.debit_account_id p.debit_account_id, transfer.PendingTransferHasDifferentDebitAccountId) ∷
    (is_other r.credit_account_id p.credit_account_id, transfer.PendingTransferHasDifferentCreditAccountId) ∷
    (is_other r.ledger p.ledger, transfer.PendingTransferHasDifferentLedger) ∷
    (is_other r.code p.code, transfer.PendingTransferHasDifferentCode) ∷
    (nat_lt p.amount amount, transfer.ExceedsPendingTransferAmount) ∷
    (is_void_request r && nat_lt amount p.amount, transfer.PendingTransferHasDifferentAmount) ∷
    []

-- the pending transfer has expired by the timestamp t, even if no pulse has recorded the expiry
abbrev pub is_over : History → Transfer → ℕ → Bool
is_over h p t =
    some_by h t (λ e. expires e.kind e.transfer p) || (not (p.timeout == 0) && nat_le (expires_at p) t)

-- the lines on a pending transfer that was settled, or whose time was up, by the timestamp t
abbrev pub end_lines : History → Transfer → ℕ → List (Bool × TransferResult)
end_lines h p t =
    (some_by h t (λ x. posts x.kind x.transfer p), transfer.PendingTransferAlreadyPosted) ∷
    (some_by h t (λ x. voids x.kind x.transfer p), transfer.PendingTransferAlreadyVoided) ∷
    (is_over h p t, transfer.PendingTransferExpired) ∷
    []

-- the lines on a post or a void and the entry of the pending transfer that it names
abbrev pub settling_lines : Option Entry → History → NewTransfer → ℕ → List (Bool × TransferResult)
settling_lines None h r t = (true, transfer.PendingTransferNotFound) ∷ []
settling_lines (Some e) h r t = field_lines e r ++ end_lines h e.transfer t

-- all lines on a transfer, in order
abbrev pub transfer_lines : History → NewTransfer → ℕ → List (Bool × TransferResult)
transfer_lines h r t =
    transfer_shape_lines r ++ known_transfer_lines (stored h r.id) h r
    ++ (if is_plain_request r
    then plain_lines (opened h r.debit_account_id) (opened h r.credit_account_id) h r t
    else settling_lines (stored h r.pending_id) h r t)

-- why a request for a transfer at the timestamp t is refused, if it is
abbrev pub transfer_refused : History → NewTransfer → ℕ → Option TransferResult
transfer_refused h r t = first_line (transfer_lines h r t)
