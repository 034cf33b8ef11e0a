-- What a transfer that is accepted has: fields that a ledger lets it have, the ledger of its accounts, and what it
-- settles of its pending transfer.
use Rattle.std.proofs.Common.{◌≡◌, ℕ, ◌≤◌, Bool, true, false, not, List, ◌++◌, ◌+◌, ◌<◌, Option, Some, None, refl, sym, ap, ap₂, ◌∙◌, subst, arith, ◌==◌, ◌&&◌, ◌||◌, nat_le, nat_lt, if◌then◌else◌, IsSome}
use Rattle.cdc_audit_laws.proofs.OfStd.{unwrap_or, AllByRecursion, and_from, eq-eqb, eqb-true, false≢true, ltb-false, not-false, not_from_false, or_parts}
use Rattle.cdc_audit_laws.proofs.OfTypes.{Balances, CREDITS_MUST_NOT_EXCEED_DEBITS, DEBITS_MUST_NOT_EXCEED_CREDITS, Entry, EventKind, SinglePhase, TwoPhasePending, TwoPhasePosted, TwoPhaseVoided, TwoPhaseExpired, TransferResult, NewTransfer, Transfer, has_flag, is_pending_request, is_plain_request, is_post_request, is_void_request, first_line, transfer_number, asks_for_two_kinds, transfer_refusal, transfer_shape_lines}
use Rattle.cdc_audit_laws.proofs.OfLedger.{balances, expiry, nobody, as_asked, expires_at, filled, filled_by, filled_from, or_own, settled_amount, stored, History, Opened, opened, moves, settled_id, settles, stores, IsSound, entry_of, kind_of, is_other, known_transfer_lines, plain_lines, settling_lines, transfer_refused, balances_later, first_line_append_none_parts, test_fails, test_of, IsOpen, stored_has}
use Rattle.cdc_audit_laws.proofs.OfAudit.{is_of_kind, is_taken_over}
use Rattle.std.proofs.lemmas.Bool.{le-leb}
use Rattle.cdc_types.specs.declared.results.TransferResult.TheVariants as transfer
use Rattle.cdc_audit_laws.proofs.Keeping.{IsUp, end_from, is_in_chain, stores_asked}
use Rattle.cdc_audit_laws.proofs.Pulses.{IsInTurn}
use Rattle.cdc_audit_laws.proofs.Flags.{kind_by}

-- the user data of a transfer is 0 only if that of the pending one is
abbrev pub keeps_data : Transfer → Transfer → Bool
keeps_data p x =
    is_taken_over x.user_data_128 p.user_data_128 && is_taken_over x.user_data_64 p.user_data_64
    && is_taken_over x.user_data_32 p.user_data_32

-- the entry has the ledger, the code and the user data of the pending transfer, and an amount of it that its kind may
-- have
pub record KeepsFields (e : Entry) (p : Transfer) : Type 0 where
  pub ledger : e.transfer.ledger ≡ p.ledger
  pub code : e.transfer.code ≡ p.code
  pub timely : stores e.kind ≡ true → (not (p.timeout == 0) && nat_le (expires_at p) e.timestamp) ≡ false
  pub ended : stores e.kind ≡ false → (not (p.timeout == 0) && nat_le (expires_at p) e.timestamp) ≡ true
  pub user_data : stores e.kind ≡ true → keeps_data p e.transfer ≡ true
  pub amount : (if moves e.kind then nat_le e.transfer.amount p.amount else (e.transfer.amount == p.amount)) ≡ true

-- whichever pending transfer the entry settles
abbrev pub KeepsSettled : History → Entry → Type 0
KeepsSettled h e =
    settles e.kind ≡ true → (x : Entry) → stored h (settled_id e.kind e.transfer) ≡ Some x → KeepsFields e x.transfer

-- the account of this id, or the one that is shown if there is none
abbrev pub account_of : History → ℕ → Opened
account_of h id = unwrap_or (opened h id) nobody

-- which is there, if there is one
pub account_is : (h : History) (id : ℕ) → IsSome (opened h id) → opened h id ≡ Some (account_of h id)
account_is h id there = by (opened h id) there
  where
    by : (o : Option Opened) → IsSome o → o ≡ Some (unwrap_or o nobody)
    by None there = cc
    by (Some o) there = refl

-- an entry has the ledger of both of its accounts, and a code
pub record HasLedger (h : History) (e : Entry) : Type 0 where
  pub debit : e.transfer.ledger ≡ (account_of h e.transfer.debit_account_id).request.ledger
  pub credit : e.transfer.ledger ≡ (account_of h e.transfer.credit_account_id).request.ledger
  pub code : (e.transfer.code == 0) ≡ false

-- a transfer as a request for it
abbrev pub asked : Transfer → NewTransfer
asked x = record {
  id = x.id;
  debit_account_id = x.debit_account_id;
  credit_account_id = x.credit_account_id;
  amount = x.amount;
  pending_id = x.pending_id;
  user_data_128 = x.user_data_128;
  user_data_64 = x.user_data_64;
  user_data_32 = x.user_data_32;
  timeout = x.timeout;
  ledger = x.ledger;
  code = x.code;
  flags = x.flags;
}

-- a transfer that is stored has the fields and the flags of a request for it
pub record HasShape (e : Entry) : Type 0 where
  pub fields : transfer_refusal (asked e.transfer) ≡ None
  pub kind : is_of_kind e.kind (asked e.transfer) ≡ true

-- a single-phase or a pending transfer keeps the limits of its accounts, by the balances before it
pub record KeepsLimits (h : History) (e : Entry) : Type 0 where
  pub debit : has_flag (account_of h e.transfer.debit_account_id).request.flags DEBITS_MUST_NOT_EXCEED_CREDITS ≡ true
      → (balances h e.transfer.debit_account_id h.last).debits_pending
      + (balances h e.transfer.debit_account_id h.last).debits_posted + e.transfer.amount
      ≤ (balances h e.transfer.debit_account_id h.last).credits_posted
  pub credit : has_flag (account_of h e.transfer.credit_account_id).request.flags CREDITS_MUST_NOT_EXCEED_DEBITS ≡ true
      → (balances h e.transfer.credit_account_id h.last).credits_pending
      + (balances h e.transfer.credit_account_id h.last).credits_posted + e.transfer.amount
      ≤ (balances h e.transfer.credit_account_id h.last).debits_posted

-- what an entry has that a ledger made, besides what follows from those before it
pub record Enters (h : History) (e : Entry) : Type 0 where
  pub settled : KeepsSettled h e
  pub ledger : HasLedger h e
  pub shape : stores e.kind ≡ true → HasShape e
  pub limits : settles e.kind ≡ false → KeepsLimits h e
  pub chain : is_in_chain h ≡ true → (stores e.kind ≡ true) × (e.timestamp ≡ end_from 0 h.entries + 1)
  pub order : IsInTurn h e

-- the lines on the accounts of a plain request, or on the pending transfer that a post or a void names
abbrev own_lines : Bool → Option Entry → History → NewTransfer → ℕ → List (Bool × TransferResult)
own_lines plain named h r t =
    if plain
    then plain_lines (opened h r.debit_account_id) (opened h r.credit_account_id) h r t
    else settling_lines named h r t

-- no line of the two parts of a table applies to an accepted request: those of its own fields, and its own lines
pub no_lines : (h : History) (r : NewTransfer) (t : ℕ) → transfer_refused h r t ≡ None
    → (first_line (transfer_shape_lines r) ≡ None)
    × (first_line (own_lines (is_plain_request r) (stored h r.pending_id) h r t) ≡ None)
no_lines h r t none =
    let known : List (Bool × TransferResult) = known_transfer_lines (stored h r.id) h r in
    let own : List (Bool × TransferResult) = own_lines (is_plain_request r) (stored h r.pending_id) h r t in
    let parts = first_line_append_none_parts (transfer_shape_lines r) (known ++ own) none in
    (parts.0, (first_line_append_none_parts known own parts.1).1)

-- a request names the same pending transfer once it is filled in
same_pending_id : (h : History) (r : NewTransfer) (t : ℕ) → (filled h r t).pending_id ≡ r.pending_id
same_pending_id h r t = grind arith

-- what is given of the pending transfer is its own
own_given : (given own : ℕ) → is_other given own ≡ false → or_own given own ≡ own
own_given given own line = grind arith

-- and it is 0 only if that one's own is
own_taken : (given own : ℕ) → is_taken_over (or_own given own) own ≡ true
own_taken given own = grind arith

-- a post or a void that no line refuses, of the pending entry x
module _ (h : History) (r : NewTransfer) (t : ℕ) (x : Entry)
    (none : first_line (settling_lines (Some x) h r t) ≡ None) where
  -- a line's test fails
  fails : (result : TransferResult) → test_of transfer_number result (settling_lines (Some x) h r t) ≡ false
  fails result = test_fails transfer_number result (settling_lines (Some x) h r t) none

  same_ledger : or_own r.ledger x.transfer.ledger ≡ x.transfer.ledger
  same_ledger = own_given r.ledger x.transfer.ledger (fails transfer.PendingTransferHasDifferentLedger)

  same_code : or_own r.code x.transfer.code ≡ x.transfer.code
  same_code = own_given r.code x.transfer.code (fails transfer.PendingTransferHasDifferentCode)

  no_more : settled_amount r x.transfer ≤ x.transfer.amount
  no_more = ltb-false x.transfer.amount (settled_amount r x.transfer) (fails transfer.ExceedsPendingTransferAmount)

  no_less : is_void_request r ≡ true → x.transfer.amount ≤ settled_amount r x.transfer
  no_less is =
      ltb-false _ _ (sym (ap (λ b. b && nat_lt (settled_amount r x.transfer) x.transfer.amount) is)
      ∙ fails transfer.PendingTransferHasDifferentAmount)

  -- so its entry keeps the fields
  keeps : (k : EventKind) → stores k ≡ true → (moves k ≡ false → is_void_request r ≡ true)
      → KeepsFields (record { timestamp = t; kind = k; transfer = filled_from x.transfer r t }) x.transfer
  keeps k storing voids = record {
    timely = λ is. (or_parts _ _ (fails transfer.PendingTransferExpired)).1;
    ended = λ no. absurd (false≢true (sym no ∙ storing));
    ledger = same_ledger;
    code = same_code;
    user_data = λ is. and_from _ _ (and_from _ _
        (own_taken r.user_data_128 x.transfer.user_data_128) (own_taken r.user_data_64 x.transfer.user_data_64))
        (own_taken r.user_data_32 x.transfer.user_data_32);
    amount = by (moves k) voids;
  }
    where
      by : (b : Bool) → (b ≡ false → is_void_request r ≡ true)
          → (if b then nat_le (settled_amount r x.transfer) x.transfer.amount
          else (settled_amount r x.transfer == x.transfer.amount)) ≡ true
      by true voids = le-leb (settled_amount r x.transfer) x.transfer.amount no_more
      by false voids =
          let most = no_more in
          let least = no_less (voids refl) in
          eq-eqb (settled_amount r x.transfer) x.transfer.amount (omega arith)

-- what a request asks for that settles a pending transfer: a post, or else a void
asks : (pending post void : Bool) → settles (kind_by pending post void) ≡ true
    → (not (post || void) ≡ false) × (moves (kind_by pending post void) ≡ false → void ≡ true)
asks pending post void is = grind arith

-- a kind that settles by a request names the pending transfer of the request
names : (pending post void : Bool) (x : Transfer) → settles (kind_by pending post void) ≡ true
    → settled_id (kind_by pending post void) x ≡ x.pending_id
names pending post void x is = grind arith

-- a request of one kind that isn't plain settles, and a plain one doesn't
settles_if : (pending post void : Bool) → ((pending && post) || (pending && void) || (post && void)) ≡ false
    → settles (kind_by pending post void) ≡ not (not (post || void))
settles_if pending post void one = grind arith

-- its flags are those of its kind
of_kind : EventKind → Bool → Bool → Bool → Bool
of_kind SinglePhase pending post void = not (post || void) && not pending
of_kind TwoPhasePending pending post void = pending
of_kind TwoPhasePosted pending post void = post
of_kind TwoPhaseVoided pending post void = void
of_kind TwoPhaseExpired pending post void = true

is_of_kind-by : (k : EventKind) (r : NewTransfer)
    → is_of_kind k r ≡ of_kind k (is_pending_request r) (is_post_request r) (is_void_request r)
unfolding of_kind
is_of_kind-by SinglePhase r = refl
is_of_kind-by TwoPhasePending r = refl
is_of_kind-by TwoPhasePosted r = refl
is_of_kind-by TwoPhaseVoided r = refl
is_of_kind-by TwoPhaseExpired r = refl

own_kind : (pending post void : Bool) → of_kind (kind_by pending post void) pending post void ≡ true
unfolding of_kind
own_kind true post void = refl
own_kind false true void = refl
own_kind false false true = refl
own_kind false false false = refl

-- a request that no line refuses asks for one kind at most
one_kind : (r : NewTransfer) → first_line (transfer_shape_lines r) ≡ None → asks_for_two_kinds r ≡ false
one_kind r none = test_fails transfer_number transfer.FlagsAreMutuallyExclusive (transfer_shape_lines r) none

-- a post or a void that is filled in has the shape of its request
filled_shape : (r : NewTransfer) (p : Transfer) (t : ℕ) → is_plain_request r ≡ false
    → first_line (transfer_shape_lines r) ≡ None → first_line (transfer_shape_lines (asked (filled_from p r t))) ≡ None
filled_shape r p t plain none = grind arith

-- an accepted post or void
module _ (h : History) (r : NewTransfer) (t : ℕ) (none : transfer_refused h r t ≡ None)
    (plain : is_plain_request r ≡ false) (x : Entry) (named : stored h r.pending_id ≡ Some x) where
  settling : first_line (settling_lines (Some x) h r t) ≡ None
  settling = sym (ap₂ (λ b o. first_line (own_lines b o h r t)) plain named) ∙ (no_lines h r t none).1

  -- is filled in from its pending transfer
  same_filled : filled h r t ≡ filled_from x.transfer r t
  same_filled = ap₂ (λ b o. if b then as_asked r t else filled_by o r t) plain named

  -- and has its accounts
  same_debit : or_own r.debit_account_id x.transfer.debit_account_id ≡ x.transfer.debit_account_id
  same_debit =
      own_given r.debit_account_id x.transfer.debit_account_id
      (fails h r t x settling transfer.PendingTransferHasDifferentDebitAccountId)

  same_credit : or_own r.credit_account_id x.transfer.credit_account_id ≡ x.transfer.credit_account_id
  same_credit =
      own_given r.credit_account_id x.transfer.credit_account_id
      (fails h r t x settling transfer.PendingTransferHasDifferentCreditAccountId)

  -- so it has their ledger
  settling_ledger : HasLedger h x → HasLedger h (entry_of h r t)
  settling_ledger of =
      let ledger = same_ledger h r t x settling in
      let code = same_code h r t x settling in
      rw same_filled (record {
        debit = ledger ∙ of.debit ∙ ap (λ n. (account_of h n).request.ledger) (sym same_debit);
        credit = ledger ∙ of.credit ∙ ap (λ n. (account_of h n).request.ledger) (sym same_credit);
        code = ap (λ n. n == 0) code ∙ of.code;
      })

-- an accepted plain request
record PlainEnters (d c : Option Opened) (h : History) (r : NewTransfer) (t : ℕ) : Type 0 where
  debit : r.ledger ≡ (unwrap_or d nobody).request.ledger
  credit : r.ledger ≡ (unwrap_or c nobody).request.ledger
  debits : has_flag (unwrap_or d nobody).request.flags DEBITS_MUST_NOT_EXCEED_CREDITS ≡ true
      → (balances h r.debit_account_id t).debits_pending + (balances h r.debit_account_id t).debits_posted + r.amount
      ≤ (balances h r.debit_account_id t).credits_posted
  credits : has_flag (unwrap_or c nobody).request.flags CREDITS_MUST_NOT_EXCEED_DEBITS ≡ true
      → (balances h r.credit_account_id t).credits_pending + (balances h r.credit_account_id t).credits_posted
      + r.amount
      ≤ (balances h r.credit_account_id t).debits_posted

-- a limit that a line on it doesn't refuse
within_limit : (flag : Bool) (limit sum : ℕ) → (flag && nat_lt limit sum) ≡ false → flag ≡ true → sum ≤ limit
within_limit true limit sum line is = ltb-false limit sum line
within_limit false limit sum line is = cc

same_number : (a b : ℕ) → not (a == b) ≡ false → a ≡ b
same_number a b line = eqb-true a b (not-false (a == b) line)

plain_enters : (d c : Option Opened) (h : History) (r : NewTransfer) (t : ℕ) → first_line (plain_lines d c h r t) ≡ None
    → PlainEnters d c h r t
plain_enters None c h r t none =
    let lines : List (Bool × TransferResult) = plain_lines None c h r t in
    absurd (false≢true (sym (test_fails transfer_number transfer.DebitAccountNotFound lines none)))
plain_enters (Some d) None h r t none =
    let lines : List (Bool × TransferResult) = plain_lines (Some d) None h r t in
    absurd (false≢true (sym (test_fails transfer_number transfer.CreditAccountNotFound lines none)))
plain_enters (Some d) (Some c) h r t none =
    let lines : List (Bool × TransferResult) = plain_lines (Some d) (Some c) h r t in
    let line : (why : TransferResult) → test_of transfer_number why lines ≡ false =
    λ why. test_fails transfer_number why lines none in
    let own : r.ledger ≡ d.request.ledger =
    same_number r.ledger d.request.ledger (line transfer.TransferMustHaveTheSameLedgerAsAccounts) in
    record {
      debit = own;
      credit = own ∙ same_number d.request.ledger c.request.ledger (line transfer.AccountsMustHaveTheSameLedger);
      debits = within_limit (has_flag d.request.flags DEBITS_MUST_NOT_EXCEED_CREDITS) _ _
          (line transfer.ExceedsCredits);
      credits = within_limit (has_flag c.request.flags CREDITS_MUST_NOT_EXCEED_DEBITS) _ _
          (line transfer.ExceedsDebits);
    }

-- so an accepted post or void keeps the fields of its pending transfer
keeps-accepted : (h : History) (r : NewTransfer) (t : ℕ) → transfer_refused h r t ≡ None
    → KeepsSettled h (entry_of h r t)
keeps-accepted h r t none is x there =
    let kind = asks (is_pending_request r) (is_post_request r) (is_void_request r) is in
    let named : stored h r.pending_id ≡ Some x =
    sym (ap (stored h) (names (is_pending_request r) (is_post_request r) (is_void_request r) (filled h r t) is
    ∙ same_pending_id h r t)) ∙ there in
    rw (same_filled h r t none kind.0 x named) (keeps h r t x (settling h r t none kind.0 x named) (kind_of r)
    (stores_asked r) kind.1)

-- and every accepted transfer enters with what it has to have
pub enters-accepted : (h : History) (r : NewTransfer) (t : ℕ) → IsSound h → h.last < t
    → AllByRecursion (HasLedger h) h.entries → (is_in_chain h ≡ true → t ≡ end_from 0 h.entries + 1)
    → transfer_refused h r t ≡ None → IsInTurn h (entry_of h r t) → Enters h (entry_of h r t)
enters-accepted h r t sound later ledgers next none turn = by (is_plain_request r) refl
  where
    lines : (first_line (transfer_shape_lines r) ≡ None)
        × (first_line (own_lines (is_plain_request r) (stored h r.pending_id) h r t) ≡ None)
    lines = no_lines h r t none

    kind : is_of_kind (kind_of r) r ≡ true
    kind =
        is_of_kind-by (kind_of r) r ∙ own_kind (is_pending_request r) (is_post_request r) (is_void_request r)

    storing : stores (kind_of r) ≡ true
    storing = stores_asked r

    settles_unless : settles (kind_of r) ≡ not (is_plain_request r)
    settles_unless =
        settles_if (is_pending_request r) (is_post_request r) (is_void_request r) (one_kind r lines.0)

    by : (b : Bool) → is_plain_request r ≡ b → Enters h (entry_of h r t)
    by true is =
        let same : filled h r t ≡ as_asked r t =
        ap (λ b. if b then as_asked r t else filled_by (stored h r.pending_id) r t) is in
        let own : first_line (plain_lines (opened h r.debit_account_id) (opened h r.credit_account_id) h r t) ≡ None =
        sym (ap (λ b. first_line (own_lines b (stored h r.pending_id) h r t)) is) ∙ lines.1 in
        let plain = plain_enters (opened h r.debit_account_id) (opened h r.credit_account_id) h r t own in
        let coded : (r.code == 0) ≡ false =
        sym (ap (λ b. b && (r.code == 0)) is)
        ∙ test_fails transfer_number transfer.CodeMustNotBeZero (transfer_shape_lines r) lines.0 in
        let debits = balances_later h r.debit_account_id h.last t sound.past (omega arith) in
        let credits = balances_later h r.credit_account_id h.last t sound.past (omega arith) in
        record {
          settled = keeps-accepted h r t none;
          ledger = rw same (record { debit = plain.debit; credit = plain.credit; code = coded });
          shape = λ stored_one. rw same (record { fields = lines.0; kind = kind });
          limits = λ no. rw same (record {
            debit = λ flag. subst
                (λ (b : Balances). b.debits_pending + b.debits_posted + r.amount ≤ b.credits_posted) debits
                (plain.debits flag);
            credit = λ flag. subst
                (λ (b : Balances). b.credits_pending + b.credits_posted + r.amount ≤ b.debits_posted) credits
                (plain.credits flag);
          });
          chain = λ linked. (storing, next linked);
          order = turn;
        }
    by false is =
        let settling_one : settles (kind_of r) ≡ true = settles_unless ∙ ap not is in
        let found = named_entry (stored h r.pending_id) refl
        (sym (ap (λ b. first_line (own_lines b (stored h r.pending_id) h r t)) is) ∙ lines.1) in
        record {
          settled = keeps-accepted h r t none;
          ledger = settling_ledger h r t none is found.0 found.1
              (stored_has (HasLedger h) h r.pending_id found.0 ledgers found.1);
          shape = λ stored_one. rw (same_filled h r t none is found.0 found.1) (record {
            fields = filled_shape r found.0.transfer t is lines.0;
            kind = is_of_kind-by (kind_of r) (asked (filled_from found.0.transfer r t))
                ∙ own_kind (is_pending_request r) (is_post_request r) (is_void_request r);
          });
          limits = λ no. absurd (false≢true (sym no ∙ settling_one));
          chain = λ linked. (storing, next linked);
          order = turn;
        }
      where
        named_entry : (o : Option Entry) → stored h r.pending_id ≡ o → first_line (settling_lines o h r t) ≡ None
            → (x : Entry) × (stored h r.pending_id ≡ Some x)
        named_entry None there line =
            absurd (false≢true
            (sym (test_fails transfer_number transfer.PendingTransferNotFound (settling_lines None h r t) line)))
        named_entry (Some x) there line = (x, there)

-- and so does an expiry, which has the whole pending transfer
pub enters-expiry : (h : History) (p : Transfer) (t : ℕ) → AllByRecursion (HasLedger h) h.entries → IsOpen h p
    → IsUp p t → is_in_chain h ≡ false → IsInTurn h (expiry p t) → Enters h (expiry p t)
enters-expiry h p t ledgers is_open up unchained order = record {
  settled = λ is x there. keeps x
      (sym is_open.same ∙ ap transfer_or (sym is_open.there ∙ there));
  ledger = subst (λ (x : Transfer). HasLedger h (expiry x t)) is_open.same
      (ledger_of (stored_has (HasLedger h) h p.id is_open.pending ledgers is_open.there));
  shape = λ no. cc;
  limits = λ no. cc;
  chain = λ is. absurd (false≢true (sym unchained ∙ is));
  order = order;
}
  where
    transfer_or : Option Entry → Transfer
    transfer_or None = p
    transfer_or (Some e) = e.transfer

    keeps : (x : Entry) → p ≡ x.transfer → KeepsFields (expiry p t) x.transfer
    keeps x same = record {
      timely = λ no. cc;
      ended = λ is.
          subst (λ (y : Transfer). (not (y.timeout == 0) && nat_le (expires_at y) t) ≡ true) same
          (and_from _ _ (not_from_false (p.timeout == 0) up.timed) (le-leb (expires_at p) t up.ended));
      ledger = ap (λ (y : Transfer). y.ledger) same;
      code = ap (λ (y : Transfer). y.code) same;
      user_data = λ no. cc;
      amount = eq-eqb p.amount x.transfer.amount (ap (λ (y : Transfer). y.amount) same);
    }

    ledger_of : HasLedger h is_open.pending → HasLedger h (expiry is_open.pending.transfer t)
    ledger_of of = record { debit = of.debit; credit = of.credit; code = of.code }
