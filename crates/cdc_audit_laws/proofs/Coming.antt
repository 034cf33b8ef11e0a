-- An event that comes after a ledger's events, and is accepted: what a request for it finds.
use Rattle.std.proofs.Common.{◌≡◌, ℕ, ◌<◌, true, false, not, List, [], ◌∷◌, ◌++◌, Option, Some, None, if◌then◌else◌, refl, sym, ap, ◌∙◌, subst, arith, ◌==◌, ◌&&◌, nat_lt}
use Rattle.cdc_audit_laws.proofs.OfStd.{eqb-true, not-false, true≢false}
use Rattle.cdc_audit_laws.proofs.OfTypes.{TIMESTAMP, Event, EventAccount, NewTransfer, first_line, transfer_number, account_refusal, transfer_refusal, transfer_shape_lines}
use Rattle.cdc_audit_laws.proofs.OfLedger.{balances, events, History, Opened, opened, holds, stores, IsSound, stored, opened_by, known_transfer_lines, transfer_refused, balances_later, own_lines, first_line-append_none, test_fails}
use Rattle.cdc_audit_laws.proofs.OfAudit.{Refusal, OtherKind, OtherTimestamp, TransferShape, account_lines, asked_account, asked_transfer, is_of_kind, refused_as, stored_lines, balances_after, is_stored, limit_lines, expires_at}
use Rattle.cdc_types.specs.declared.results.TransferResult.TheVariants as transfer
use Rattle.cdc_audit_laws.proofs.Flags.{Asks, asks}
use Rattle.cdc_audit_laws.proofs.Following.{CanFollow, IsCredited, IsDebited, NoneApplies, none_both}
use Rattle.cdc_audit_laws.proofs.Traces.{stored_none}

-- an account of an event as it was opened
abbrev pub opening : ℕ → EventAccount → Opened
opening ledger a = opened_by (asked_account ledger a) a.timestamp

-- the event comes after this history, whose accounts it has
pub record Comes (h : History) (e : Event) : Type 0 where
  pub sound : IsSound h
  pub shown : (id : ℕ) → balances_after (events h) id ≡ balances h id h.last
  pub later : h.last < e.timestamp
  pub can : CanFollow (events h) e
  pub debit : opened h e.debit_account.id ≡ Some (opening e.ledger e.debit_account)
  pub credit : opened h e.credit_account.id ≡ Some (opening e.ledger e.credit_account)

-- there is no reason, if its line doesn't apply
pub no_reason : {R : Type 0} (why : R → Refusal) (o : Option R) → NoneApplies (refused_as why o) → o ≡ None
no_reason why None none = refl
no_reason why (Some result) none = absurd (true≢false none.0)

-- the lines on the transfer of an event that is stored
pub record HasStored (e : Event) : Type 0 where
  pub fields : transfer_refusal (asked_transfer e) ≡ None
  pub code : (e.transfer.code == 0) ≡ false
  pub timely : (holds e.kind && not (e.transfer.timeout == 0) && nat_lt TIMESTAMP (expires_at e.transfer)) ≡ false
  pub kind : is_of_kind e.kind (asked_transfer e) ≡ true
  pub dated : e.transfer.timestamp ≡ e.timestamp

-- none of them applies to one that can follow
pub has_stored : (past : List Event) (e : Event) → CanFollow past e → stores e.kind ≡ true → HasStored e
has_stored past e can storing =
    let whole = (none_both (if stores e.kind then stored_lines e else [])
    (account_lines e.ledger e.debit_account ++ account_lines e.ledger e.credit_account) can.shape).0 in
    let lines : NoneApplies (stored_lines e) =
    subst (λ b. NoneApplies (if b then stored_lines e else [])) storing whole in
    let parts = none_both (refused_as (TransferShape e.transfer.id) (transfer_refusal (asked_transfer e))) (
    (e.ledger == 0, TransferShape e.transfer.id transfer.LedgerMustNotBeZero) ∷
    (e.transfer.code == 0, TransferShape e.transfer.id transfer.CodeMustNotBeZero) ∷ (
      holds e.kind && not (e.transfer.timeout == 0) && nat_lt TIMESTAMP (expires_at e.transfer),
      TransferShape e.transfer.id transfer.OverflowsTimeout,
    ) ∷
    (not (is_of_kind e.kind (asked_transfer e)), OtherKind e.transfer.id) ∷ (
      not (e.transfer.timestamp == e.timestamp),
      OtherTimestamp e.transfer.id e.transfer.timestamp e.timestamp,
    ) ∷
    []
    ) lines in
    record {
      fields = no_reason (TransferShape e.transfer.id) (transfer_refusal (asked_transfer e)) parts.0;
      code = parts.1.1.0;
      timely = parts.1.1.1.0;
      kind = not-false _ parts.1.1.1.1.0;
      dated = eqb-true e.transfer.timestamp e.timestamp (not-false _ parts.1.1.1.1.1.0);
    }

-- its two accounts have fields that a ledger accepts
pub has_accounts : (past : List Event) (e : Event) → CanFollow past e
    → (account_refusal (asked_account e.ledger e.debit_account) ≡ None)
    × (account_refusal (asked_account e.ledger e.credit_account) ≡ None)
has_accounts past e can =
    let both = (none_both (if stores e.kind then stored_lines e else [])
    (account_lines e.ledger e.debit_account ++ account_lines e.ledger e.credit_account) can.shape).1 in
    let parts = none_both (account_lines e.ledger e.debit_account) (account_lines e.ledger e.credit_account) both in
    (no_reason _ _ parts.0, no_reason _ _ parts.1)

module _ (h : History) (e : Event) (comes : Comes h e) where
  -- the balances that the events show are those at its timestamp too
  pub now : (id : ℕ) → balances_after (events h) id ≡ balances h id e.timestamp
  now id = comes.shown id ∙ sym (balances_later h id h.last e.timestamp comes.sound.past (omega (arith, comes.later)))

  -- those of its accounts follow from them
  pub debited : IsDebited (events h) e (balances h e.debit_account.id e.timestamp)
  debited = subst (IsDebited (events h) e) (now e.debit_account.id) comes.can.debited

  pub credited : IsCredited (events h) e (balances h e.credit_account.id e.timestamp)
  credited = subst (IsCredited (events h) e) (now e.credit_account.id) comes.can.credited

  -- the accounts keep their limits
  pub debit_limits : NoneApplies (limit_lines e.debit_account)
  debit_limits = (none_both (limit_lines e.debit_account) (limit_lines e.credit_account) comes.can.limits).0

  pub credit_limits : NoneApplies (limit_lines e.credit_account)
  credit_limits = (none_both (limit_lines e.debit_account) (limit_lines e.credit_account) comes.can.limits).1

-- an event that stores a transfer
module _ (h : History) (e : Event) (comes : Comes h e) (storing : stores e.kind ≡ true) where
  -- the transfer as a request
  abbrev pub request : NewTransfer
  request = asked_transfer e

  pub on_stored : HasStored e
  on_stored = has_stored (events h) e comes.can storing

  -- it asks for the kind of the event
  pub asks_kind : Asks e.kind request
  asks_kind =
      asks e.kind request storing
      (test_fails transfer_number transfer.FlagsAreMutuallyExclusive (transfer_shape_lines request) on_stored.fields)
      on_stored.kind

  -- no entry stored its id
  pub is_new : stored h request.id ≡ None
  is_new =
      stored_none h e.transfer.id
      (sym (ap (λ b. b && is_stored (events h) e.transfer.id) storing) ∙ comes.can.new)

  -- so the request isn't refused, if the lines on its accounts or on its pending transfer don't refuse it
  pub not_refused : first_line (own_lines h request e.timestamp) ≡ None
      → transfer_refused h request e.timestamp ≡ None
  not_refused own =
      let known = known_transfer_lines (stored h request.id) h request in
      first_line-append_none (transfer_shape_lines request) (known ++ own_lines h request e.timestamp) on_stored.fields
      ∙ first_line-append_none known (own_lines h request e.timestamp)
      (ap (λ o. first_line (known_transfer_lines o h request)) is_new)
      ∙ own
