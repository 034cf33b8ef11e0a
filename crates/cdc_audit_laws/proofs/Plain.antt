-- A single-phase or a pending transfer of an event that is accepted: a ledger accepts a request for it.
use Rattle.std.proofs.Common.{◌≡◌, ℕ, ◌+◌, ◌*◌, ◌≤◌, Bool, true, false, not, Some, None, if◌then◌else◌, refl, sym, ap, ap₂, ◌∙◌, arith, ◌==◌, ◌&&◌, nat_lt}
use Rattle.cdc_audit_laws.proofs.OfStd.{unwrap_or, and_left, eq-eqb, ltb-false, not_from_true}
use Rattle.cdc_audit_laws.proofs.OfTypes.{Balances, NewAccount, CREDITS_MUST_NOT_EXCEED_DEBITS, DEBITS_MUST_NOT_EXCEED_CREDITS, TIMESTAMP, Event, EventKind, NewTransfer, has_flag, first_line, transfer_number, transfer_shape_lines, max_128}
use Rattle.cdc_audit_laws.proofs.OfLedger.{balances, events, as_asked, expires_at, filled, filled_by, stored, History, opened, holds, moves, settles, stores, max_timestamp, plain_lines, settling_lines, sum_lines, own_lines, test_fails}
use Rattle.cdc_audit_laws.proofs.OfAudit.{asked_account, asked_transfer, pending_amount, settled_id, all_credits, all_debits, held, posted, released}
use Rattle.cdc_types.specs.declared.results.TransferResult.TheVariants as transfer
use Rattle.cdc_audit_laws.proofs.Coming.{Comes, asks_kind, credit_limits, credited, debit_limits, debited, on_stored, opening}
use Rattle.cdc_audit_laws.proofs.Flags.{plain_is}
use Rattle.cdc_audit_laws.proofs.Following.{NoneApplies, no_first_line}

-- the sums fit, the limits are kept, and the transfer expires in time
pub record HasSums (d c : Balances) (debited credited : NewAccount) (r : NewTransfer) (t : ℕ) : Type 0 where
  pub debits : d.debits_pending + d.debits_posted + r.amount ≤ max_128
  pub credits : c.credits_pending + c.credits_posted + r.amount ≤ max_128
  pub timely : (not (r.timeout == 0) && nat_lt max_timestamp (expires_at (as_asked r t))) ≡ false
  pub debit_limit : (has_flag debited.flags DEBITS_MUST_NOT_EXCEED_CREDITS
      && nat_lt d.credits_posted (d.debits_pending + d.debits_posted + r.amount)) ≡ false
  pub credit_limit : (has_flag credited.flags CREDITS_MUST_NOT_EXCEED_DEBITS
      && nat_lt c.debits_posted (c.credits_pending + c.credits_posted + r.amount)) ≡ false

-- then none of the lines on sums applies
pub no_sum_line : (d c : Balances) (debited credited : NewAccount) (r : NewTransfer) (t : ℕ)
    → HasSums d c debited credited r t → NoneApplies (sum_lines d c debited credited r t)
no_sum_line d c debited credited r t has = grind arith

-- what a plain transfer holds and moves is its amount
moved_by : (k : EventKind) (n : ℕ) → stores k ≡ true → settles k ≡ false
    → (if holds k then n else 0) + (if moves k then n else 0) ≡ n
moved_by k n storing is = grind arith

module _ (h : History) (e : Event) (comes : Comes h e) (storing : stores e.kind ≡ true)
    (is : settles e.kind ≡ false) where
  abbrev request : NewTransfer
  request = asked_transfer e

  abbrev debits : Balances
  debits = balances h e.debit_account.id e.timestamp

  abbrev credits : Balances
  credits = balances h e.credit_account.id e.timestamp

  none_released : released (events h) e ≡ 0
  none_released = ap (λ b. if b then unwrap_or (pending_amount (events h) (settled_id e)) 0 else 0) is

  moved : held e + posted e ≡ e.transfer.amount
  moved = moved_by e.kind e.transfer.amount storing is

  -- the sums of its accounts after it
  debits_after : all_debits e.debit_account ≡ debits.debits_pending + debits.debits_posted + e.transfer.amount
  debits_after =
      let sums = debited h e comes in
      omega (arith, sums.debits_pending, sums.debits_posted, none_released, moved)

  credits_after : all_credits e.credit_account ≡ credits.credits_pending + credits.credits_posted + e.transfer.amount
  credits_after =
      let sums = credited h e comes in
      omega (arith, sums.credits_pending, sums.credits_posted, none_released, moved)

  -- a pending transfer expires in time, and a single-phase one has no timeout
  timely : (not (e.transfer.timeout == 0) && nat_lt max_timestamp (expires_at (as_asked request e.timestamp))) ≡ false
  timely = by (holds e.kind) refl
    where
      by : (b : Bool) → holds e.kind ≡ b
          → (not (e.transfer.timeout == 0) && nat_lt max_timestamp (expires_at (as_asked request e.timestamp)))
          ≡ false
      by true holding =
          ap₂ (λ b n. b && not (e.transfer.timeout == 0)
          && nat_lt TIMESTAMP (n + e.transfer.timeout * 1000000000)) (sym holding)
          (sym (on_stored h e comes storing).dated)
          ∙ (on_stored h e comes storing).timely
      by false holding =
          and_left _ _ (ap (λ b. not b && not (e.transfer.timeout == 0))
          (sym ((asks_kind h e comes storing).pending ∙ holding))
          ∙ test_fails transfer_number transfer.TimeoutReservedForPendingTransfer (transfer_shape_lines request)
          (on_stored h e comes storing).fields)

  has_sums : HasSums debits credits (asked_account e.ledger e.debit_account) (asked_account e.ledger e.credit_account)
      request e.timestamp
  has_sums =
      let d = debit_limits h e comes in
      let c = credit_limits h e comes in
      let d_sums = debited h e comes in
      let c_sums = credited h e comes in
      let limit : e.debit_account.credits_posted ≡ debits.credits_posted = omega (arith, d_sums.credits_posted) in
      let other : e.credit_account.debits_posted ≡ credits.debits_posted = omega (arith, c_sums.debits_posted) in
      record {
        debits = omega (arith, ltb-false max_128 (all_debits e.debit_account) d.0, debits_after);
        credits = omega (arith, ltb-false max_128 (all_credits e.credit_account) c.1.0, credits_after);
        timely = timely;
        debit_limit = ap₂ (λ m n. has_flag e.debit_account.flags DEBITS_MUST_NOT_EXCEED_CREDITS && nat_lt m n)
            (sym limit) (sym debits_after) ∙ d.1.1.0;
        credit_limit = ap₂ (λ m n. has_flag e.credit_account.flags CREDITS_MUST_NOT_EXCEED_DEBITS && nat_lt m n)
            (sym other) (sym credits_after) ∙ c.1.1.1.0;
      }

  -- so no line on its accounts applies
  pub plain_passes : first_line (own_lines h request e.timestamp) ≡ None
  plain_passes =
      ap (λ b. first_line
      (if b then plain_lines (opened h request.debit_account_id) (opened h request.credit_account_id) h request
      e.timestamp else settling_lines (stored h request.pending_id) h request e.timestamp))
      (plain_is e.kind request (asks_kind h e comes storing) ∙ ap not is)
      ∙ ap₂ (λ o p. first_line (plain_lines o p h request e.timestamp)) comes.debit comes.credit
      ∙ no_first_line
      (plain_lines (Some (opening e.ledger e.debit_account)) (Some (opening e.ledger e.credit_account)) h request
      e.timestamp) (
        not_from_true _ (eq-eqb e.ledger e.ledger refl),
        (
          not_from_true _ (eq-eqb e.ledger e.ledger refl),
          no_sum_line debits credits (asked_account e.ledger e.debit_account)
              (asked_account e.ledger e.credit_account) request e.timestamp has_sums,
        ),
      )

  -- and it is stored as it was asked for
  pub plain_filled : filled h request e.timestamp ≡ as_asked request e.timestamp
  plain_filled =
      ap (λ b. if b then as_asked request e.timestamp else filled_by (stored h request.pending_id) request e.timestamp)
      (plain_is e.kind request (asks_kind h e comes storing) ∙ ap not is)
