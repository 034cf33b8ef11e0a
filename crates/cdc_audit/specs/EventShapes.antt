-- The fields of an event by itself: its transfer and its accounts have what a ledger lets a request have.
use Rattle.std.specs.Prelude.{ℕ, Bool, true, ◌==◌, ◌&&◌, not, nat_lt, List, [], ◌∷◌, ◌++◌, Option, Some, None, if◌then◌else◌}
use Rattle.cdc_types.specs.declared.accounts.NewAccount.{NewAccount}
use Rattle.cdc_types.specs.declared.bounds.TheConstants.Limits.{TIMESTAMP}
use Rattle.cdc_types.specs.declared.events.Event.{Event}
use Rattle.cdc_types.specs.declared.events.EventAccount.{EventAccount}
use Rattle.cdc_types.specs.declared.events.EventKind.{EventKind}
use Rattle.cdc_types.specs.declared.events.EventKind.TheVariants.{SinglePhase, TwoPhasePending, TwoPhasePosted, TwoPhaseVoided, TwoPhaseExpired}
use Rattle.cdc_types.specs.declared.results.TransferResult.TheVariants as transfer
use Rattle.cdc_types.specs.declared.transfers.NewTransfer.{NewTransfer}
use Rattle.cdc_types.specs.Flags.{is_pending_request, is_plain_request, is_post_request, is_void_request}
use Rattle.cdc_types.specs.Shapes.{account_refusal, transfer_refusal}
use Rattle.cdc_ledger.specs.Kinds.{holds, stores}
use Rattle.cdc_audit.specs.declared.refusals.Refusal.{Refusal}
use Rattle.cdc_audit.specs.declared.refusals.Refusal.TheVariants.{TransferShape, OtherKind, OtherTimestamp, AccountShape}
use Rattle.cdc_audit.specs.Settling.{expires_at}

-- an event's transfer as a request for it
abbrev pub asked_transfer : Event → NewTransfer
asked_transfer e = record {
  id = e.transfer.id;
  debit_account_id = e.debit_account.id;
  credit_account_id = e.credit_account.id;
  amount = e.transfer.amount;
  pending_id = e.transfer.pending_id;
  user_data_128 = e.transfer.user_data_128;
  user_data_64 = e.transfer.user_data_64;
  user_data_32 = e.transfer.user_data_32;
  timeout = e.transfer.timeout;
  ledger = e.ledger;
  code = e.transfer.code;
  flags = e.transfer.flags;
}

-- an account of this ledger as a request for it
abbrev pub asked_account : ℕ → EventAccount → NewAccount
asked_account ledger a = record {
  id = a.id;
  user_data_128 = a.user_data_128;
  user_data_64 = a.user_data_64;
  user_data_32 = a.user_data_32;
  ledger = ledger;
  code = a.code;
  flags = a.flags;
}

-- a transfer's flags are those of an event of this kind
abbrev pub is_of_kind : EventKind → NewTransfer → Bool
is_of_kind SinglePhase r = is_plain_request r && not (is_pending_request r)
is_of_kind TwoPhasePending r = is_pending_request r
is_of_kind TwoPhasePosted r = is_post_request r
is_of_kind TwoPhaseVoided r = is_void_request r
is_of_kind TwoPhaseExpired r = true

-- the line of a reason that there is
abbrev pub refused_as : {R : Type 0} → (R → Refusal) → Option R → List (Bool × Refusal)
refused_as why None = []
refused_as why (Some result) = (true, why result) ∷ []

-- the lines on a transfer that an event stores
abbrev pub stored_lines : Event → List (Bool × Refusal)
stored_lines e =
    refused_as (TransferShape e.transfer.id) (transfer_refusal (asked_transfer e)) ++ (
    (e.ledger == 0, TransferShape e.transfer.id transfer.LedgerMustNotBeZero) ∷
    (e.transfer.code == 0, TransferShape e.transfer.id transfer.CodeMustNotBeZero) ∷ (
      holds e.kind && not (e.transfer.timeout == 0) && nat_lt TIMESTAMP (expires_at e.transfer),
      TransferShape e.transfer.id transfer.OverflowsTimeout,
    ) ∷
    (not (is_of_kind e.kind (asked_transfer e)), OtherKind e.transfer.id) ∷ (
      not (e.transfer.timestamp == e.timestamp),
      OtherTimestamp e.transfer.id e.transfer.timestamp e.timestamp,
    ) ∷
    [])

-- the lines on an account of this ledger
abbrev pub account_lines : ℕ → EventAccount → List (Bool × Refusal)
account_lines ledger a = refused_as (AccountShape a.id) (account_refusal (asked_account ledger a))

-- the lines on an event's own fields; the transfer of an expiry was stored before
abbrev pub shape_lines : Event → List (Bool × Refusal)
shape_lines e =
    (if stores e.kind then stored_lines e else [])
    ++ (account_lines e.ledger e.debit_account ++ account_lines e.ledger e.credit_account)
