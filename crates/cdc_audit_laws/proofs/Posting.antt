-- A post or a void of an event that is accepted: a ledger accepts a request for it.
use Rattle.std.proofs.Common.{◌≡◌, ℕ, ◌≤◌, Bool, true, false, not, List, [], ◌∷◌, Option, Some, None, is_none, if◌then◌else◌, refl, sym, ap, ap₂, ◌∙◌, subst, arith, ◌==◌, ◌&&◌, nat_le, nat_lt, option_map}
use Rattle.cdc_audit_laws.proofs.OfStd.{unwrap_or, list_any, and_parts, and_right, eq-eqb, eqb-true, le-ltb, leb-true, not-false, not_from_true, or_from, or_parts}
use Rattle.cdc_audit_laws.proofs.OfTypes.{Balances, Entry, Event, EventKind, EventTransfer, NewTransfer, Transfer, is_post_request, is_void_request, first_line, max_128}
use Rattle.cdc_audit_laws.proofs.OfLedger.{resolved, resolves, some_by, event_of, events, shown_transfer, as_asked, expires_at, filled, filled_by, or_own, settled_amount, stored, History, opened, expires, moves, posts, settles, stores, voids, HasAccounts, is_other, plain_lines, settling_lines, own_lines, holds-settles, stored_has}
use Rattle.cdc_audit_laws.proofs.OfAudit.{asked_transfer, is_settled, open_event, pending_amount, pending_event, settled_id, settled_id_by, held, released, settled_event, has_data_of, is_taken_over, is_same_transfer, settling_lines as lines_of}
use Rattle.cdc_audit_laws.proofs.Coming.{Comes, asks_kind}
use Rattle.cdc_audit_laws.proofs.Flags.{plain_is}
use Rattle.cdc_audit_laws.proofs.Following.{NoneApplies, no_first_line, settled_parts}
use Rattle.cdc_audit_laws.proofs.Traces.{IsTraced, traced, unresolved}
use Rattle.cdc_audit_laws.proofs.Cases.{◌&◌}
use Rattle.cdc_audit_laws.proofs.Created.{id_found}

-- a post and a void name a pending transfer
named_by : (k : EventKind) (x : EventTransfer) → stores k ≡ true → settles k ≡ true → settled_id_by k x ≡ x.pending_id
named_by k x storing is = grind arith

-- what is given and is the pending transfer's own
no_other : (given own : ℕ) → given ≡ own → is_other given own ≡ false
no_other given own same = and_right (not (given == 0)) _ (not_from_true _ (eq-eqb given own same))

own_is : (given own : ℕ) → given ≡ own → or_own given own ≡ given
own_is given own same = grind arith

-- what is given, and is 0 only if the pending transfer's own is
data_is : (given own : ℕ) → is_taken_over given own ≡ true → or_own given own ≡ given
data_is given own taken = grind arith

-- the amount that is settled is the one that is shown
amount_by : (moving : Bool) (shown own : ℕ) → own ≤ max_128
    → (if moving then nat_le shown own else (shown == own)) ≡ true
    → (if moving then (if shown == max_128 then own else shown) else or_own shown own) ≡ shown
amount_by moving shown own within is = grind arith

at_most : (moving : Bool) (shown own : ℕ) → (if moving then nat_le shown own else (shown == own)) ≡ true → shown ≤ own
at_most true shown own is = leb-true shown own is
at_most false shown own is = let same = eqb-true shown own is in omega (arith, same)

-- a void has the whole amount
whole : (moving : Bool) (shown own : ℕ) → (if moving then nat_le shown own else (shown == own)) ≡ true
    → (not moving && nat_lt shown own) ≡ false
whole true shown own is = refl
whole false shown own is = let same = eqb-true shown own is in le-ltb shown own (omega (arith, same))

-- a test that implies another one finds nothing if that one doesn't
none_of_less : (t : ℕ) (test less : Entry → Bool) → ((x : Entry) → test x ≡ false → less x ≡ false)
    → (es : List Entry) → list_any (λ e. nat_le e.timestamp t && test e) es ≡ false
    → list_any (λ e. nat_le e.timestamp t && less e) es ≡ false
none_of_less t test less implies [] none = refl
none_of_less t test less implies (e ∷ es) none =
    let parts = or_parts (nat_le e.timestamp t && test e) (list_any (λ x. nat_le x.timestamp t && test x) es) none in
    or_from _ _ (by (nat_le e.timestamp t) parts.0) (none_of_less t test less implies es parts.1)
  where
    by : (b : Bool) → (b && test e) ≡ false → (b && less e) ≡ false
    by true fails = implies e fails
    by false fails = refl

-- the three ways of being settled, of which there was none
resolved_parts : (p : Transfer) (x : Entry) → resolves p x ≡ false
    → (posts x.kind x.transfer p ≡ false) × (voids x.kind x.transfer p ≡ false) × (expires x.kind x.transfer p ≡ false)
resolved_parts p x none = grind arith

-- a transfer with these fields in place of its own
abbrev with_fields : Transfer → ℕ → ℕ → ℕ → ℕ → ℕ → ℕ → ℕ → ℕ → Transfer
with_fields x d c n a b u l k = record x {
  debit_account_id = d;
  credit_account_id = c;
  amount = n;
  user_data_128 = a;
  user_data_64 = b;
  user_data_32 = u;
  ledger = l;
  code = k;
}

-- is the same if they are its own
same_fields : (x : Transfer) (d c n a b u l k : ℕ) → d ≡ x.debit_account_id → c ≡ x.credit_account_id → n ≡ x.amount
    → a ≡ x.user_data_128 → b ≡ x.user_data_64 → u ≡ x.user_data_32 → l ≡ x.ledger → k ≡ x.code
    → with_fields x d c n a b u l k ≡ x
same_fields x d c n a b u l k one two three four five six seven eight = grind arith

module _ (h : History) (e : Event) (comes : Comes h e) (storing : stores e.kind ≡ true)
    (is : settles e.kind ≡ true) where
  abbrev request : NewTransfer
  request = asked_transfer e

  abbrev named : ℕ
  named = e.transfer.pending_id

  -- the event names its pending transfer
  names : settled_id e ≡ named
  names = named_by e.kind e.transfer storing is

  pub on_pending : IsTraced h named
  on_pending =
      traced h named comes.sound
      (sym (ap₂ (λ b n. b && is_none (pending_amount (events h) n)) is names) ∙ comes.can.pending)

  -- its entry, and the transfer
  abbrev pending : Entry
  pending = on_pending.entry

  abbrev own : Transfer
  own = on_pending.entry.transfer

  unsettled : is_settled (events h) named ≡ false
  unsettled = sym (ap₂ (λ b n. b && is_settled (events h) n) is names) ∙ comes.can.unsettled

  unresolved_yet : resolved h own e.timestamp ≡ false
  unresolved_yet = unresolved h own e.timestamp (ap (is_settled (events h)) on_pending.id_is ∙ unsettled)

  shown : settled_event (events h) e ≡ Some (event_of h pending)
  shown =
      ap₂ (λ b n. if b then open_event (events h) n else None) is names
      ∙ ap (λ b. if b then None else pending_event (events h) named) unsettled
      ∙ on_pending.shown

  lines : NoneApplies (lines_of (Some (event_of h pending)) e)
  lines = subst (λ o. NoneApplies (lines_of o e)) shown comes.can.settling

  -- the event has the accounts, the ledger, the code and the user data of the pending transfer
  there : HasAccounts h pending
  there = stored_has (HasAccounts h) h named pending comes.sound.known on_pending.named

  record HasOwn : Type 0 where
    debit : e.debit_account.id ≡ own.debit_account_id
    credit : e.credit_account.id ≡ own.credit_account_id
    ledger : e.ledger ≡ own.ledger
    code : e.transfer.code ≡ own.code
    user_data : has_data_of (shown_transfer own) e.transfer ≡ true

  has_own : HasOwn
  has_own =
      let x = event_of h pending in
      let all = settled_parts _ _ _ _ _ _ _ _ _ lines.0 in
      record {
        debit = all.0 ∙ id_found h own.debit_account_id there.0;
        credit = all.1 ∙ id_found h own.credit_account_id there.1;
        ledger = all.2;
        code = all.3;
        user_data = sym (ap (λ b. if b then has_data_of x.transfer e.transfer
            else is_same_transfer e.transfer x.transfer) storing) ∙ all.4;
      }

  -- and an amount that it may have
  amount : (if moves e.kind then nat_le e.transfer.amount own.amount else (e.transfer.amount == own.amount)) ≡ true
  amount = not-false _ lines.1.0

  releases : released (events h) e ≡ own.amount
  releases =
      ap₂ (λ b n. if b then unwrap_or (pending_amount (events h) n) 0 else 0) is names
      ∙ ap (λ (o : Option Event). unwrap_or (option_map (λ (x : Event). x.transfer.amount) o) 0) on_pending.shown

  -- the pending amount fits 128 bits, as a part of a sum that does
  within : own.amount ≤ max_128
  within =
      let sums = comes.can.debited in
      let bound = comes.sound.bounded e.debit_account.id in
      let none : held e ≡ 0 = ap (λ b. if b then e.transfer.amount else 0) (holds-settles e.kind is) in
      let before = ap (λ (b : Balances). b.debits_pending) (comes.shown e.debit_account.id) in
      omega (arith, sums.debits_pending, bound.0, none, before, releases)

  posting : is_post_request request ≡ moves e.kind
  posting = (asks_kind h e comes storing).post ∙ ap (λ b. b && moves e.kind) is

  voiding : is_void_request request ≡ not (moves e.kind)
  voiding = (asks_kind h e comes storing).void ∙ ap (λ b. b && not (moves e.kind)) is

  amount_is : settled_amount request own ≡ e.transfer.amount
  amount_is =
      ap (λ b. if b then (if e.transfer.amount == max_128 then own.amount else e.transfer.amount)
      else or_own e.transfer.amount own.amount) posting
      ∙ amount_by (moves e.kind) e.transfer.amount own.amount within amount

  -- nothing ended it
  ended_by : (less : Entry → Bool) → ((x : Entry) → resolves own x ≡ false → less x ≡ false)
      → some_by h e.timestamp less ≡ false
  ended_by less implies = none_of_less e.timestamp (resolves own) less implies h.entries unresolved_yet

  -- so no line on its pending transfer applies
  no_line : NoneApplies (settling_lines (Some pending) h request e.timestamp)
  no_line =
      (not_from_true _ on_pending.pending & no_other e.debit_account.id own.debit_account_id has_own.debit
      & no_other e.credit_account.id own.credit_account_id has_own.credit
      & no_other e.ledger own.ledger has_own.ledger & no_other e.transfer.code own.code has_own.code
      & ap (λ n. nat_lt own.amount n) amount_is
      ∙ le-ltb _ _ (at_most (moves e.kind) e.transfer.amount own.amount amount)
      & ap₂ (λ b n. b && nat_lt n own.amount) voiding amount_is
      ∙ whole (moves e.kind) e.transfer.amount own.amount amount
      & ended_by (λ x. posts x.kind x.transfer own) (λ x none. (resolved_parts own x none).0)
      & ended_by (λ x. voids x.kind x.transfer own) (λ x none. (resolved_parts own x none).1)
      & or_from _ _ (ended_by (λ x. expires x.kind x.transfer own) (λ x none. (resolved_parts own x none).2))
      (sym (ap (λ b. b && (not (own.timeout == 0) && nat_le (expires_at own) e.timestamp)) storing) ∙ lines.1.1.1.1.0)
      & tt)

  pub posting_passes : first_line (own_lines h request e.timestamp) ≡ None
  posting_passes =
      ap (λ b. first_line
      (if b then plain_lines (opened h request.debit_account_id) (opened h request.credit_account_id) h request
      e.timestamp else settling_lines (stored h request.pending_id) h request e.timestamp))
      (plain_is e.kind request (asks_kind h e comes storing) ∙ ap not is)
      ∙ ap (λ o. first_line (settling_lines o h request e.timestamp)) on_pending.named
      ∙ no_first_line (settling_lines (Some pending) h request e.timestamp) no_line

  -- and it is stored as it was asked for
  pub posting_filled : filled h request e.timestamp ≡ as_asked request e.timestamp
  posting_filled =
      let x : Transfer = as_asked request e.timestamp in
      let two = and_parts _ _ has_own.user_data in
      let one = and_parts _ _ two.0 in
      ap (λ b. if b then as_asked request e.timestamp else filled_by (stored h request.pending_id) request e.timestamp)
      (plain_is e.kind request (asks_kind h e comes storing) ∙ ap not is)
      ∙ ap (λ o. filled_by o request e.timestamp) on_pending.named
      ∙ same_fields x _ _ _ _ _ _ _ _ (own_is e.debit_account.id own.debit_account_id has_own.debit)
      (own_is e.credit_account.id own.credit_account_id has_own.credit) amount_is
      (data_is e.transfer.user_data_128 own.user_data_128 one.0)
      (data_is e.transfer.user_data_64 own.user_data_64 one.1)
      (data_is e.transfer.user_data_32 own.user_data_32 two.1) (own_is e.ledger own.ledger has_own.ledger)
      (own_is e.transfer.code own.code has_own.code)
