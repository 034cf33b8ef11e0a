-- A chain or a pulse that is cut off can be completed, so that a legal history has more events.
use Rattle.std.proofs.Common.{◌≡◌, ◌≢◌, ℕ, ◌+◌, ◌<◌, ◌≤◌, Bool, true, false, List, [], ◌∷◌, ◌++◌, Some, None, find, filter, map, length, if◌then◌else◌, refl, sym, ap, ◌∙◌, subst, append_assoc, append-nil, arith, ◌==◌, ◌&&◌, nat_lt}
use Rattle.cdc_audit_laws.proofs.OfStd.{AllByRecursion, and_right, eq-eqb, ltb-false, ne_eqb, not_from_true}
use Rattle.std.proofs.lemmas.List.{length-map}
use Rattle.cdc_audit_laws.proofs.OfTypes.{BATCH_ITEMS, TIMESTAMP, CREDITS_MUST_NOT_EXCEED_DEBITS, DEBITS_MUST_NOT_EXCEED_CREDITS, Entry, Event, EventFits, NewTransfer, RiseFrom, Transfer, account_number, account_shape_lines, has_flag, max_128, transfer_shape_lines}
use Rattle.cdc_audit_laws.proofs.OfLedger.{History, IsLegal, IsSound, NewTransferFits, balances, balances_later, due, entry_of, event_of, events, events-pushed, expiries_from, expiry, is_due, known_transfer_lines, opened, plain_lines, pushed, stored, stores, sum_lines, test_fails, transfer_refused, transfer_rules}
use Rattle.cdc_audit_laws.proofs.OfAudit.{FixedFields, all_credits, all_debits, asked_account, balances_after, chain_length, fixed_fields, limit_lines}
use Rattle.cdc_ledger.proofs.DueOrder.{length-in_order}
use Rattle.cdc_types.specs.declared.results.AccountResult.TheVariants as account
use Rattle.cdc_audit_laws.proofs.Coming.{has_accounts, opening}
use Rattle.cdc_audit_laws.proofs.Following.{CanFollow, NoneApplies, no_first_line, none_both, none_of_both}
use Rattle.cdc_audit_laws.proofs.Modes.{IsInChain, IsInPulse}
use Rattle.cdc_audit_laws.proofs.Plain.{no_sum_line}
use Rattle.cdc_audit_laws.proofs.Running.{runs-done}
use Rattle.cdc_audit_laws.proofs.Shown.{balances_after-credited, balances_after-debited, balances_of}
use Rattle.cdc_audit_laws.proofs.Unseen.{IsFree, block, few_events, free_block, other_id}

-- a legal history has these events, and then others
abbrev pub Begins : List Event → Type 0
Begins es = (g : History) × (rest : List Event) × IsLegal g × (events g ≡ es ++ rest)

-- ---- an id that no event has

-- the ids of the transfers of events, as those of accounts
abbrev ids_of : List Event → List (ℕ × FixedFields)
ids_of es = map (λ e. (e.transfer.id, fixed_fields e.ledger e.debit_account)) es

record HasId (es : List Event) : Type 0 where
  id : ℕ
  some : 0 < id
  bound : id < max_128
  free : AllByRecursion (λ e. e.transfer.id ≢ id) es

fresh : (es : List Event) → RiseFrom 0 es → AllByRecursion (λ e. e.timestamp ≤ TIMESTAMP) es → HasId es
fresh es rises within =
    let few = few_events 0 es rises within (omega arith) in
    let same = length-map es (λ (e : Event). let x : ℕ × FixedFields =
    (e.transfer.id, fixed_fields e.ledger e.debit_account) in x) in
    let found = free_block 9223372036854775809 (ids_of es) (omega (arith, few, same)) in
    let less = found.1 in
    record {
      id = block found.0 + 0;
      some = omega arith;
      bound = omega (arith, less);
      free = others (block found.0) es found.2;
    }
  where
    others : (from : ℕ) (es : List Event) → IsFree (ids_of es) from
        → AllByRecursion (λ e. e.transfer.id ≢ from + 0) es
    others from [] free = tt
    others from (e ∷ es) free = (other_id from 0 e.transfer.id (omega arith) free.0, others from es free.1)

-- so no entry has it
unstored : (h : History) (id : ℕ) (es : List Entry)
    → AllByRecursion (λ (e : Event). e.transfer.id ≢ id) (map (event_of h) es)
    → find (λ (e : Entry). stores e.kind && (e.transfer.id == id)) es ≡ None
unstored h id [] free = refl
unstored h id (e ∷ es) free =
    ap (λ b. if b then Some e else find (λ (x : Entry). stores x.kind && (x.transfer.id == id)) es)
    (and_right (stores e.kind) (e.transfer.id == id) (ne_eqb e.transfer.id id free.0)) ∙ unstored h id es free.1

-- ---- a chain

-- the last event of a history that is within a chain, with what is known of its accounts
pub record IsLast (h : History) (front : List Event) (l : Event) : Type 0 where
  pub sound : IsSound h
  pub shown : (id : ℕ) → balances_after (events h) id ≡ balances h id h.last
  pub split : events h ≡ front ++ l ∷ []
  pub can : CanFollow front l
  pub fits : EventFits l
  pub debit : opened h l.debit_account.id ≡ Some (opening l.ledger l.debit_account)
  pub credit : opened h l.credit_account.id ≡ Some (opening l.ledger l.credit_account)
  pub rises : RiseFrom 0 (events h)
  pub within : AllByRecursion (λ e. e.timestamp ≤ TIMESTAMP) (events h)
  pub few : chain_length (events h) < BATCH_ITEMS
  pub in_time : h.last + 1 ≤ TIMESTAMP

module _ (h : History) (front : List Event) (l : Event) (at_end : IsLast h front l) (chain : IsInChain h) where
  own : HasId (events h)
  own = fresh (events h) at_end.rises at_end.within

  -- a transfer of 0 between the accounts of the last event
  abbrev request : NewTransfer
  request = record {
    id = own.id;
    debit_account_id = l.debit_account.id;
    credit_account_id = l.credit_account.id;
    amount = 0;
    pending_id = 0;
    user_data_128 = 0;
    user_data_64 = 0;
    user_data_32 = 0;
    timeout = 0;
    ledger = l.ledger;
    code = 1;
    flags = 0;
  }

  abbrev next : ℕ
  next = h.last + 1

  request_fits : NewTransferFits request
  request_fits =
      let bound = own.bound in
      record {
        id = omega (arith, bound);
        debit_account_id = at_end.fits.debit_account.id;
        credit_account_id = at_end.fits.credit_account.id;
        amount = omega arith;
        pending_id = omega arith;
        user_data_128 = omega arith;
        user_data_64 = omega arith;
        user_data_32 = omega arith;
        timeout = omega arith;
        ledger = at_end.fits.ledger;
        code = omega arith;
        flags = omega arith;
      }

  -- its own fields are valid
  some_ledger : (l.ledger == 0) ≡ false
  some_ledger =
      test_fails account_number account.LedgerMustNotBeZero
      (account_shape_lines (asked_account l.ledger l.debit_account))
      (has_accounts front l at_end.can).0

  shape : NoneApplies (transfer_shape_lines request)
  shape =
      let some = own.some in
      let bound = own.bound in (
        refl,
        (
          ne_eqb own.id 0 (λ same. omega (arith, same, some)),
          (
            ne_eqb own.id max_128 (λ same. omega (arith, same, bound)),
            (
              refl,
              (
                refl,
                (
                  refl,
                  (
                    refl,
                    (
                      refl,
                      (
                        some_ledger,
                        (
                          refl,
                          (ne_eqb l.debit_account.id l.credit_account.id at_end.can.apart, tt),
                        ),
                      ),
                    ),
                  ),
                ),
              ),
            ),
          ),
        ),
      )

  -- no transfer has its id
  new : stored h own.id ≡ None
  new = unstored h own.id h.entries own.free

  -- its accounts have the balances that the last event shows
  debits : balances h l.debit_account.id next ≡ balances_of l.debit_account
  debits =
      balances_later h l.debit_account.id h.last next at_end.sound.past (omega arith)
      ∙ sym (at_end.shown l.debit_account.id)
      ∙ ap (λ es. balances_after es l.debit_account.id) at_end.split
      ∙ balances_after-debited front l l.debit_account.id refl (λ same. at_end.can.apart (sym same))

  credits : balances h l.credit_account.id next ≡ balances_of l.credit_account
  credits =
      balances_later h l.credit_account.id h.last next at_end.sound.past (omega arith)
      ∙ sym (at_end.shown l.credit_account.id)
      ∙ ap (λ es. balances_after es l.credit_account.id) at_end.split
      ∙ balances_after-credited front l l.credit_account.id refl

  limits : NoneApplies (limit_lines l.debit_account) × NoneApplies (limit_lines l.credit_account)
  limits = none_both (limit_lines l.debit_account) (limit_lines l.credit_account) at_end.can.limits

  -- a sum that no line refuses is within 128 bits
  most : (sum : ℕ) → nat_lt max_128 sum ≡ false → sum + 0 ≤ max_128
  most sum line = let within = ltb-false max_128 sum line in omega (arith, within)

  sums : NoneApplies (sum_lines (balances h l.debit_account.id next) (balances h l.credit_account.id next)
      (asked_account l.ledger l.debit_account) (asked_account l.ledger l.credit_account) request next)
  sums =
      let d = limits.0 in
      let c = limits.1 in
      subst (λ b. NoneApplies (sum_lines b (balances h l.credit_account.id next)
      (asked_account l.ledger l.debit_account) (asked_account l.ledger l.credit_account) request next)) (sym debits)
      (subst (λ b. NoneApplies (sum_lines (balances_of l.debit_account) b
      (asked_account l.ledger l.debit_account) (asked_account l.ledger l.credit_account) request next)) (sym credits)
      (no_sum_line (balances_of l.debit_account) (balances_of l.credit_account)
      (asked_account l.ledger l.debit_account) (asked_account l.ledger l.credit_account) request next (record {
        debits = most (all_debits l.debit_account) d.0;
        credits = most (all_credits l.credit_account) c.1.0;
        timely = refl;
        debit_limit = ap (λ n. has_flag l.debit_account.flags DEBITS_MUST_NOT_EXCEED_CREDITS
            && nat_lt l.debit_account.credits_posted n)
            (let same : all_debits l.debit_account + 0 ≡ all_debits l.debit_account = omega arith in same) ∙ d.1.1.0;
        credit_limit = ap (λ n. has_flag l.credit_account.flags CREDITS_MUST_NOT_EXCEED_DEBITS
            && nat_lt l.credit_account.debits_posted n)
            (let same : all_credits l.credit_account + 0 ≡ all_credits l.credit_account = omega arith in same)
            ∙ c.1.1.1.0;
      })))

  plain_one : NoneApplies (plain_lines (opened h l.debit_account.id) (opened h l.credit_account.id) h request next)
  plain_one =
      subst (λ o. NoneApplies (plain_lines o (opened h l.credit_account.id) h request next)) (sym at_end.debit)
      (subst (λ o. NoneApplies (plain_lines (Some (opening l.ledger l.debit_account)) o h request next))
      (sym at_end.credit) (
        not_from_true _ (eq-eqb l.ledger l.ledger refl),
        (not_from_true _ (eq-eqb l.ledger l.ledger refl), sums),
      ))

  -- so it is accepted
  none : transfer_refused h request next ≡ None
  none =
      no_first_line (transfer_shape_lines request ++ known_transfer_lines (stored h own.id) h request
      ++ plain_lines (opened h l.debit_account.id) (opened h l.credit_account.id) h request next)
      (none_of_both (transfer_shape_lines request ++ known_transfer_lines (stored h own.id) h request)
      (plain_lines (opened h l.debit_account.id) (opened h l.credit_account.id) h request next)
      (none_of_both (transfer_shape_lines request) (known_transfer_lines (stored h own.id) h request) shape
      (subst (λ o. NoneApplies (known_transfer_lines o h request)) (sym new) tt)) plain_one)

  -- and completes the chain
  pub chain_begins : Begins (events h)
  chain_begins = (
    pushed h (entry_of h request next),
    event_of (pushed h (entry_of h request next)) (entry_of h request next) ∷ [],
    runs-done transfer_rules NewTransferFits h next (chain_length (events h)) request chain.runs at_end.few
        at_end.in_time refl none request_fits,
    events-pushed h (entry_of h request next) at_end.sound.past (omega arith),
  )

-- ---- a pulse

fewer : (p : Entry → Bool) (es : List Entry) → length (filter p es) ≤ length es
fewer p [] = omega arith
fewer p (e ∷ es) = by (p e) (fewer p es)
  where
    by : (b : Bool) → length (filter p es) ≤ length es
        → length (if b then e ∷ filter p es else filter p es) ≤ length (e ∷ es)
    by true less = omega (arith, less)
    by false less = omega (arith, less)

-- no more transfers are due than there are events
few_due : (h : History) (now : ℕ) → length (due h now) ≤ length (events h)
few_due h now =
    let all : length (due h now) ≡ length (map (λ (e : Entry). e.transfer) (filter (is_due h now) h.entries)) =
    length-in_order (map (λ (e : Entry). e.transfer) (filter (is_due h now) h.entries)) in
    let same : length (map (λ (e : Entry). e.transfer) (filter (is_due h now) h.entries))
    ≡ length (filter (is_due h now) h.entries) =
    length-map (filter (is_due h now) h.entries) (λ (e : Entry). e.transfer) in
    let less : length (filter (is_due h now) h.entries) ≤ length h.entries = fewer (is_due h now) h.entries in
    let shown : length (events h) ≡ length h.entries = length-map h.entries (event_of h) in
    omega (arith, all, same, less, shown)

-- expiries add their events
expiries_add : (h : History) (t : ℕ) (ps : List Transfer) → AllByRecursion (λ e. e.timestamp ≤ h.last) h.entries
    → h.last < t → (rest : List Event) × (events (expiries_from h t ps) ≡ events h ++ rest)
expiries_add h t [] past later = ([], sym (append-nil (events h)))
expiries_add h t (p ∷ ps) past later =
    let more = expiries_add (pushed h (expiry p t)) (t + 1) ps (pushed_past past) (omega arith) in (
      event_of (pushed h (expiry p t)) (expiry p t) ∷ more.0,
      more.1 ∙ ap (λ es. es ++ more.0) (events-pushed h (expiry p t) past later)
          ∙ append_assoc (events h) (event_of (pushed h (expiry p t)) (expiry p t) ∷ []) more.0,
    )
  where
    up_to : (es : List Entry) → AllByRecursion (λ (e : Entry). e.timestamp ≤ h.last) es
        → AllByRecursion (λ (e : Entry). e.timestamp ≤ t) (es ++ expiry p t ∷ [])
    up_to [] all = (omega arith, tt)
    up_to (e ∷ es) all = let early = all.0 in (omega (arith, early, later), up_to es all.1)

    pushed_past : AllByRecursion (λ (e : Entry). e.timestamp ≤ h.last) h.entries
        → AllByRecursion (λ (e : Entry). e.timestamp ≤ t) (h.entries ++ expiry p t ∷ [])
    pushed_past all = up_to h.entries all

-- so a pulse is completed, if there are as many timestamps as events
pub pulse_begins : (h : History) → IsSound h → (pulse : IsInPulse h) → h.last + length (events h) ≤ TIMESTAMP
    → Begins (events h)
pulse_begins h sound pulse enough =
    let few = few_due h pulse.now in
    let more = expiries_add h (h.last + 1) (due h pulse.now) sound.past (omega arith) in (
      expiries_from h (h.last + 1) (due h pulse.now),
      more.0,
      pulse.pulses (omega (arith, few, enough)),
      more.1,
    )
