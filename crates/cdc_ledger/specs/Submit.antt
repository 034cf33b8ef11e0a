-- What the ledger answers to a batch, and the history after it.
use Rattle.std.specs.Prelude.{ℕ, ◌+◌, ◌-◌, max, Bool, false, ◌==◌, ◌&&◌, ◌||◌, nat_lt, Option, Some, None, Result, Ok, Err, List, [], ◌∷◌, length, if◌then◌else◌, ◌≡◌}
use Rattle.std.specs.List.{AllByRecursion}
use Rattle.cdc_types.specs.declared.accounts.NewAccount.{NewAccount}
use Rattle.cdc_types.specs.declared.batches.Batch.{Batch}
use Rattle.cdc_types.specs.declared.batches.Batch.TheVariants as batch
use Rattle.cdc_types.specs.declared.batches.BatchResults.{BatchResults}
use Rattle.cdc_types.specs.declared.batches.BatchResults.TheVariants as results
use Rattle.cdc_types.specs.declared.events.Entry.{Entry}
use Rattle.cdc_types.specs.declared.events.EventKind.{EventKind}
use Rattle.cdc_types.specs.declared.events.EventKind.TheVariants.{SinglePhase, TwoPhasePending, TwoPhasePosted, TwoPhaseVoided}
use Rattle.cdc_types.specs.declared.results.AccountResult.{AccountResult}
use Rattle.cdc_types.specs.declared.results.AccountResult.TheVariants as account
use Rattle.cdc_types.specs.declared.results.TransferResult.{TransferResult}
use Rattle.cdc_types.specs.declared.results.TransferResult.TheVariants as transfer
use Rattle.cdc_types.specs.declared.transfers.NewTransfer.{NewTransfer}
use Rattle.cdc_types.specs.declared.transfers.Transfer.{Transfer}
use Rattle.cdc_types.specs.declared.bounds.TheConstants.Limits.{BATCH_ITEMS}
use Rattle.cdc_types.specs.Flags.{is_linked_account, is_linked_transfer, is_pending_request, is_post_request, is_void_request}
use Rattle.cdc_types.specs.Lines.{first_line}
use Rattle.cdc_ledger.specs.declared.errors.BatchError.{BatchError}
use Rattle.cdc_ledger.specs.declared.errors.BatchError.TheVariants as refusal
use Rattle.cdc_ledger.specs.Chains.{Rules, items_from}
use Rattle.cdc_ledger.specs.Changes.{pushed, with_account, expiry}
use Rattle.cdc_ledger.specs.Fits.{BatchFits}
use Rattle.cdc_ledger.specs.History.{Opened, History, empty_history}
use Rattle.cdc_ledger.specs.Filling.{filled}
use Rattle.cdc_ledger.specs.Verdict.{max_timestamp, account_refused, transfer_refused}
use Rattle.cdc_ledger.specs.Due.{due}

-- what a request is once it's accepted
abbrev pub kind_of : NewTransfer → EventKind
kind_of r =
    if is_pending_request r then TwoPhasePending
    else if is_post_request r then TwoPhasePosted
    else if is_void_request r then TwoPhaseVoided
    else SinglePhase

-- the account that a request opens at the timestamp t
abbrev pub opened_by : NewAccount → ℕ → Opened
opened_by a t = record { request = a; timestamp = t }

-- the entry of a request for a transfer that is accepted at the timestamp t
abbrev pub entry_of : History → NewTransfer → ℕ → Entry
entry_of h r t = record { timestamp = t; kind = kind_of r; transfer = filled h r t }

-- the rules of requests for accounts
abbrev pub account_rules : Rules NewAccount AccountResult
account_rules = record {
  linked = is_linked_account;
  refused = λ h a t. account_refused h a;
  taken = λ h a t. with_account h (opened_by a t);
  accepted = account.Accepted;
  failed = account.LinkedEventFailed;
  unfinished = account.LinkedEventChainOpen;
}

-- the rules of requests for transfers
abbrev pub transfer_rules : Rules NewTransfer TransferResult
transfer_rules = record {
  linked = is_linked_transfer;
  refused = λ h r t. transfer_refused h r t;
  taken = λ h r t. pushed h (entry_of h r t);
  accepted = transfer.Accepted;
  failed = transfer.LinkedEventFailed;
  unfinished = transfer.LinkedEventChainOpen;
}

-- the results of requests for accounts from the timestamp t on, each validated against the history after those before
-- it, and the history after all of them
abbrev pub accounts_from : History → ℕ → List NewAccount → List AccountResult × History
accounts_from = items_from account_rules

-- the results of requests for transfers from the timestamp t on, likewise
abbrev pub transfers_from : History → ℕ → List NewTransfer → List TransferResult × History
transfers_from = items_from transfer_rules

-- the history after these pending transfers expired, from the timestamp t on
abbrev pub expiries_from : History → ℕ → List Transfer → History
expiries_from h t [] = h
expiries_from h t (p ∷ rest) = expiries_from (pushed h (expiry p t)) (t + 1) rest

-- the timestamp of the first item of a batch that is submitted at the timestamp now
abbrev pub base : History → ℕ → ℕ
base h now = max now (h.last + 1)

-- the timestamp at which a batch is submitted
abbrev pub time : Batch → ℕ
time (batch.Accounts now items) = now
time (batch.Transfers now items) = now
time (batch.Pulse now) = now

-- how many timestamps a batch takes
abbrev pub items_of : History → Batch → ℕ
items_of h (batch.Accounts now items) = length items
items_of h (batch.Transfers now items) = length items
items_of h (batch.Pulse now) = length (due h now)

-- the batch has more items than one may have; a pulse has none of its own
abbrev pub is_too_large : Batch → Bool
is_too_large (batch.Accounts now items) = nat_lt BATCH_ITEMS (length items)
is_too_large (batch.Transfers now items) = nat_lt BATCH_ITEMS (length items)
is_too_large (batch.Pulse now) = false

-- the last of n items of a batch at the timestamp now would have a timestamp above the greatest one
abbrev pub is_past_the_end : History → ℕ → ℕ → Bool
is_past_the_end h now n = nat_lt 0 n && nat_lt max_timestamp (base h now + n - 1)

-- why a batch of n items at the timestamp now is refused as a whole, if it is
abbrev pub refusal_at : History → Bool → ℕ → ℕ → Option BatchError
refusal_at h too_large now n =
    first_line (
    (h.closed, refusal.LedgerClosed) ∷
    (too_large, refusal.BatchTooLarge) ∷
    (is_past_the_end h now n, refusal.TimestampsExhausted) ∷
    []
    )

-- why a batch is refused as a whole, if it is
abbrev pub refusal_of : History → Batch → Option BatchError
refusal_of h b = refusal_at h (is_too_large b) (time b) (items_of h b)

-- the answer to a batch that isn't refused, and the history after it
abbrev pub taken : History → Batch → BatchResults × History
taken h (batch.Accounts now items) =
    let all = accounts_from h (base h now) items in (results.Accounts all.0, all.1)
taken h (batch.Transfers now items) =
    let all = transfers_from h (base h now) items in (results.Transfers all.0, all.1)
taken h (batch.Pulse now) =
    (results.Pulsed (length (due h now)), expiries_from h (base h now) (due h now))

-- a refusal replaces what the batch would do
abbrev pub answered : Option BatchError → BatchResults × History → Result (BatchResults × History) BatchError
answered (Some e) answer = Err e
answered None answer = Ok answer

-- the answer to a batch and the history after it, or why it is refused
abbrev pub submit : History → Batch → Result (BatchResults × History) BatchError
submit h b = answered (refusal_of h b) (taken h b)

-- the history after a batch, unchanged if the batch is refused
abbrev pub history_or : History → Result (BatchResults × History) BatchError → History
history_or h (Ok answer) = answer.1
history_or h (Err e) = h

-- the history after batches, of which refused ones change nothing
abbrev pub after_batches : History → List Batch → History
after_batches h [] = h
after_batches h (b ∷ bs) = after_batches (history_or h (submit h b)) bs

-- the history after the ledger is closed, if it is
abbrev pub closed_if : Bool → History → History
closed_if close h = record h { closed = close || h.closed }

-- g is made of h by batches, of which each number is within the width of its field, and at most one close
pub record Extends (g h : History) : Type 0 where
  pub batches : List Batch
  pub close : Bool
  pub fit : AllByRecursion BatchFits batches
  pub made : g ≡ closed_if close (after_batches h batches)

-- h is made of nothing, by batches and no more than one close
abbrev pub IsLegal : History → Type 0
IsLegal h = Extends h empty_history
