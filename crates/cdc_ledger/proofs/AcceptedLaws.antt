-- What it takes that a request is accepted: no line of its table applies. Then its entry may come next.
use Rattle.cdc_ledger.proofs.Words.{[], ◌++◌, ◌+◌, ◌<◌, ◌==◌, ◌∙◌, ◌∷◌, ◌≡◌, ◌≢◌, ◌≤◌, AccountResult, Balances, Bool, Entry, EventKind, Follows, HasAccounts, History, IsSome, IsSound, List, NewAccount, NewTransfer, None, Opened, Option, SinglePhase, Some, Stands, Transfer, TransferResult, TwoPhaseExpired, TwoPhasePending, TwoPhasePosted, TwoPhaseVoided, account_number, account_refused, account_shape_lines, ap, arith, as_asked, asks_for_two_kinds, balances, entry_of, expires, expires_at, expiry, false, filled, filled_by, filled_from, first_line, holds, if◌then◌else◌, is_other, is_over, is_pending_request, is_plain_request, is_post_request, is_void_request, kind_of, known_account_lines, known_transfer_lines, list_any, max_128, max_timestamp, nat_le, nat_lt, opened, or_own, plain_lines, posts, refl, resolved, resolves, settled_amount, settled_id, settles, settling_lines, some_by, stored, subst, sym, transfer_lines, transfer_number, transfer_shape_lines, true, voids, ℕ}
use Rattle.std.proofs.Common.{not, ◌&&◌, ◌||◌}
use Rattle.std.proofs.lemmas.Bool.{and_from, not-false, eqb-true, eq-eqb, ne_eqb, ltb-false, or_from, or_parts, false≢true}
use Rattle.cdc_types.specs.declared.results.AccountResult.TheVariants as account
use Rattle.cdc_types.specs.declared.results.TransferResult.TheVariants as transfer
use Rattle.cdc_ledger.proofs.BalanceLaws.{balances_later, resolved_later}
use Rattle.cdc_ledger.proofs.LineLaws.{first_line_append_none_parts, test_of, test_fails}
use Rattle.cdc_ledger.proofs.StoredLaws.{stored_has}

-- an existing account is always refused; so if no line applies, the id was free
known_account_none : (o : Option Opened) (a : NewAccount) → first_line (known_account_lines o a) ≡ None → o ≡ None
known_account_none None a none = refl
known_account_none (Some o) a none =
    absurd (false≢true (sym (test_fails account_number account.Exists (known_account_lines (Some o) a) none)))

-- an account that is accepted had a free id, so that it can be opened
pub accepted_account : (h : History) (a : NewAccount) → account_refused h a ≡ None
    → (first_line (account_shape_lines a) ≡ None) × (opened h a.id ≡ None)
accepted_account h a none =
    let known : List (Bool × AccountResult) = known_account_lines (opened h a.id) a in
    let parts = first_line_append_none_parts (account_shape_lines a) known none in
    (parts.0, known_account_none (opened h a.id) a parts.1)

-- a transfer

-- an existing transfer is always refused; so if no line applies, the id is new
known_transfer_none : (o : Option Entry) (h : History) (r : NewTransfer)
    → first_line (known_transfer_lines o h r) ≡ None → o ≡ None
known_transfer_none None h r none = refl
known_transfer_none (Some e) h r none =
    absurd (false≢true (sym (test_fails transfer_number transfer.Exists (known_transfer_lines (Some e) h r) none)))

-- the lines on the accounts of a plain request, or on the pending transfer that a post or a void names
abbrev pub own_lines : History → NewTransfer → ℕ → List (Bool × TransferResult)
own_lines h r t =
    if is_plain_request r
    then plain_lines (opened h r.debit_account_id) (opened h r.credit_account_id) h r t
    else settling_lines (stored h r.pending_id) h r t

-- the three parts of the table, of which no line applies
no_line_parts : (h : History) (r : NewTransfer) (t : ℕ) → first_line (transfer_lines h r t) ≡ None
    → (first_line (transfer_shape_lines r) ≡ None) × (stored h r.id ≡ None) ×
    (first_line (own_lines h r t) ≡ None)
no_line_parts h r t none =
    let known : List (Bool × TransferResult) = known_transfer_lines (stored h r.id) h r in
    let parts = first_line_append_none_parts (transfer_shape_lines r) (known ++ own_lines h r t) none in
    let two = first_line_append_none_parts known (own_lines h r t) parts.1 in
    (parts.0, known_transfer_none (stored h r.id) h r two.0, two.1)

-- the tests of a request's own fields, each of which fails
record ShapePasses (r : NewTransfer) : Type 0 where
  one_kind : asks_for_two_kinds r ≡ false
  endless : (not (is_pending_request r) && not (r.timeout == 0)) ≡ false
  apart : (is_plain_request r && (r.debit_account_id == r.credit_account_id)) ≡ false

-- a request that no shape line refuses asks for one kind at most, and names two accounts if it is plain
shape_passes : (r : NewTransfer) → first_line (transfer_shape_lines r) ≡ None → ShapePasses r
shape_passes r none =
    let lines : List (Bool × TransferResult) = transfer_shape_lines r in
    let fails : (result : TransferResult) → test_of transfer_number result lines ≡ false =
    λ result. test_fails transfer_number result lines none in
    record {
      one_kind = fails transfer.FlagsAreMutuallyExclusive;
      endless = fails transfer.TimeoutReservedForPendingTransfer;
      apart = fails transfer.AccountsMustBeDifferent;
    }

-- both accounts of a single-phase or a pending transfer exist, both sums fit, and so does its expiry time
record PlainPasses (debited credited : Option Opened) (h : History) (r : NewTransfer) (t : ℕ) : Type 0 where
  debit_there : IsSome debited
  credit_there : IsSome credited
  debits : (balances h r.debit_account_id t).debits_pending + (balances h r.debit_account_id t).debits_posted + r.amount
      ≤ max_128
  credits : (balances h r.credit_account_id t).credits_pending +
      (balances h r.credit_account_id t).credits_posted + r.amount ≤ max_128
  timely : r.timeout ≢ 0 → expires_at (as_asked r t) ≤ max_timestamp

-- a pending transfer that isn't refused for its timeout expires no later than the greatest timestamp
ends_in_time : (r : NewTransfer) (t : ℕ)
    → (not (r.timeout == 0) && nat_lt max_timestamp (expires_at (as_asked r t))) ≡ false → r.timeout ≢ 0
    → expires_at (as_asked r t) ≤ max_timestamp
ends_in_time r t line some = ltb-false max_timestamp (expires_at (as_asked r t))
    (sym (ap (λ b. not b && nat_lt max_timestamp (expires_at (as_asked r t))) (ne_eqb r.timeout 0 some)) ∙ line)

-- a plain request that no line refuses has both accounts, and room in their sums
plain_passes : (d c : Option Opened) (h : History) (r : NewTransfer) (t : ℕ) → first_line (plain_lines d c h r t) ≡ None
    → PlainPasses d c h r t
plain_passes None c h r t none =
    let lines : List (Bool × TransferResult) = plain_lines None c h r t in
    absurd (false≢true (sym (test_fails transfer_number transfer.DebitAccountNotFound lines none)))
plain_passes (Some d) None h r t none =
    let lines : List (Bool × TransferResult) = plain_lines (Some d) None h r t in
    absurd (false≢true (sym (test_fails transfer_number transfer.CreditAccountNotFound lines none)))
plain_passes (Some d) (Some c) h r t none =
    let lines : List (Bool × TransferResult) = plain_lines (Some d) (Some c) h r t in
    let fails : (result : TransferResult) → test_of transfer_number result lines ≡ false =
    λ result. test_fails transfer_number result lines none in
    record {
      debit_there = refl;
      credit_there = refl;
      debits = ltb-false max_128 _ (fails transfer.OverflowsDebits);
      credits = ltb-false max_128 _ (fails transfer.OverflowsCredits);
      timely = ends_in_time r t (fails transfer.OverflowsTimeout);
    }

-- the entry that a post or a void names is a pending one, which nothing settled; what is given of it is its own
record SettlingPasses (named : Option Entry) (h : History) (r : NewTransfer) (t : ℕ) : Type 0 where
  pending : Entry
  there : named ≡ Some pending
  holding : holds pending.kind ≡ true
  debit : is_other r.debit_account_id pending.transfer.debit_account_id ≡ false
  credit : is_other r.credit_account_id pending.transfer.credit_account_id ≡ false
  within : settled_amount r pending.transfer ≤ pending.transfer.amount
  unposted : some_by h t (λ x. posts x.kind x.transfer pending.transfer) ≡ false
  unvoided : some_by h t (λ x. voids x.kind x.transfer pending.transfer) ≡ false
  going_on : is_over h pending.transfer t ≡ false

-- a post or a void that no line refuses names a pending transfer that is open, and no other accounts than its own
settling_passes : (named : Option Entry) (h : History) (r : NewTransfer) (t : ℕ)
    → first_line (settling_lines named h r t) ≡ None → SettlingPasses named h r t
settling_passes None h r t none =
    let lines : List (Bool × TransferResult) = settling_lines None h r t in
    absurd (false≢true (sym (test_fails transfer_number transfer.PendingTransferNotFound lines none)))
settling_passes (Some x) h r t none =
    let lines : List (Bool × TransferResult) = settling_lines (Some x) h r t in
    let fails : (result : TransferResult) → test_of transfer_number result lines ≡ false =
    λ result. test_fails transfer_number result lines none in
    record {
      pending = x;
      there = refl;
      holding = not-false (holds x.kind) (fails transfer.PendingTransferNotPending);
      debit = fails transfer.PendingTransferHasDifferentDebitAccountId;
      credit = fails transfer.PendingTransferHasDifferentCreditAccountId;
      within = ltb-false x.transfer.amount (settled_amount r x.transfer)
          (fails transfer.ExceedsPendingTransferAmount);
      unposted = fails transfer.PendingTransferAlreadyPosted;
      unvoided = fails transfer.PendingTransferAlreadyVoided;
      going_on = fails transfer.PendingTransferExpired;
    }

-- nothing posted, voided or ended the transfer, so nothing resolved it
none_of_three : (p : Transfer) (t : ℕ) (es : List Entry)
    → list_any (λ e. nat_le e.timestamp t && posts e.kind e.transfer p) es ≡ false
    → list_any (λ e. nat_le e.timestamp t && voids e.kind e.transfer p) es ≡ false
    → list_any (λ e. nat_le e.timestamp t && expires e.kind e.transfer p) es ≡ false
    → list_any (λ e. nat_le e.timestamp t && resolves p e) es ≡ false
none_of_three p t [] posted voided expired = refl
none_of_three p t (e ∷ es) posted voided expired =
    let post = or_parts (nat_le e.timestamp t && posts e.kind e.transfer p)
    (list_any (λ x. nat_le x.timestamp t && posts x.kind x.transfer p) es) posted in
    let void = or_parts (nat_le e.timestamp t && voids e.kind e.transfer p)
    (list_any (λ x. nat_le x.timestamp t && voids x.kind x.transfer p) es) voided in
    let expire = or_parts (nat_le e.timestamp t && expires e.kind e.transfer p)
    (list_any (λ x. nat_le x.timestamp t && expires x.kind x.transfer p) es) expired in
    or_from (nat_le e.timestamp t && resolves p e) (list_any (λ x. nat_le x.timestamp t && resolves p x) es)
    (three (nat_le e.timestamp t) (posts e.kind e.transfer p) (voids e.kind e.transfer p)
    (expires e.kind e.transfer p) post.0 void.0 expire.0)
    (none_of_three p t es post.1 void.1 expire.1)
  where
    three : (seen a b c : Bool) → (seen && a) ≡ false → (seen && b) ≡ false → (seen && c) ≡ false
        → (seen && (a || b || c)) ≡ false
    three true a b c p q r = or_from (a || b) c (or_from a b p q) r
    three false a b c p q r = refl

-- so a pending transfer that none of these three lines refuses may still be settled
unresolved_from : (h : History) (p : Transfer) (t : ℕ) → some_by h t (λ x. posts x.kind x.transfer p) ≡ false
    → some_by h t (λ x. voids x.kind x.transfer p) ≡ false → is_over h p t ≡ false → resolved h p t ≡ false
unresolved_from h p t posted voided over =
    none_of_three p t h.entries posted voided
    (or_parts (some_by h t (λ x. expires x.kind x.transfer p)) (not (p.timeout == 0) && nat_le (expires_at p) t) over).0

-- what is given and isn't another than the pending transfer's own is its own
own_given : (given own : ℕ) → is_other given own ≡ false → or_own given own ≡ own
own_given given own line = by (given == 0) (given == own) refl line
  where
    by : (none same : Bool) → (given == own) ≡ same → (not none && not same) ≡ false
        → (if none then own else given) ≡ own
    by true same is other = refl
    by false true is other = eqb-true given own is
    by false false is other = absurd (false≢true (sym other))

-- an entry with its timestamp
abbrev entry_with : EventKind → Transfer → ℕ → Entry
entry_with k x t = record { timestamp = t; kind = k; transfer = x }

-- a single-phase or a pending transfer
Follows-plain : (k : EventKind) (h : History) (r : NewTransfer) (t : ℕ) → IsSound h → h.last < t → settles k ≡ false
    → stored h r.id ≡ None → r.debit_account_id ≢ r.credit_account_id
    → PlainPasses (opened h r.debit_account_id) (opened h r.credit_account_id) h r t
    → Follows h (entry_with k (as_asked r t) t)
Follows-plain k h r t sound later plain new apart passes = record {
  accounts = (passes.debit_there, passes.credit_there);
  apart = apart;
  fresh = λ is. new;
  dated = λ is. refl;
  timely = λ is some. passes.timely some;
  room = λ is. record {
    debit = subst (λ (b : Balances). b.debits_pending + b.debits_posted + r.amount ≤ max_128)
        (balances_later h r.debit_account_id h.last t sound.past (omega arith)) passes.debits;
    credit = subst (λ (b : Balances). b.credits_pending + b.credits_posted + r.amount ≤ max_128)
        (balances_later h r.credit_account_id h.last t sound.past (omega arith)) passes.credits;
  };
  settling = λ is. absurd (false≢true (sym plain ∙ is));
}

-- the kinds that a request settles by
record IsRequested (k : EventKind) : Type 0 where
  settling : settles k ≡ true
  holding : holds k ≡ false
  named : (x : Transfer) → settled_id k x ≡ x.pending_id
  unexpired : k ≢ TwoPhaseExpired

-- a post or a void
Follows-settling : (k : EventKind) (h : History) (r : NewTransfer) (t : ℕ) → IsSound h → h.last < t → IsRequested k
    → stored h r.id ≡ None
    → (passes : SettlingPasses (stored h r.pending_id) h r t)
    → Follows h (entry_with k (filled_from passes.pending.transfer r t) t)
Follows-settling k h r t sound later requested new passes =
    let x : Entry = passes.pending in
    let debit = own_given r.debit_account_id x.transfer.debit_account_id passes.debit in
    let credit = own_given r.credit_account_id x.transfer.credit_account_id passes.credit in
    let known : HasAccounts h x = stored_has (HasAccounts h) h r.pending_id x sound.known passes.there in
    let stands : Stands h x = stored_has (Stands h) h r.pending_id x sound.standing passes.there in
    record {
      accounts = (
        subst (λ id. IsSome (opened h id)) (sym debit) known.0,
        subst (λ id. IsSome (opened h id)) (sym credit) known.1,
      );
      apart = λ same. stands.apart (sym debit ∙ same ∙ credit);
      fresh = λ is. new;
      dated = λ is. refl;
      timely = λ is. absurd (false≢true (sym requested.holding ∙ is));
      room = λ is. absurd (false≢true (sym is ∙ requested.settling));
      settling = λ is. record {
        pending = x;
        settles = record {
          named = ap (stored h) (requested.named (filled_from x.transfer r t)) ∙ passes.there;
          pending = passes.holding;
          debit = debit;
          credit = credit;
          within = passes.within;
          shown = λ same. absurd (requested.unexpired same);
        };
        unsettled = sym (resolved_later h x.transfer h.last t sound.past (omega arith))
            ∙ unresolved_from h x.transfer t passes.unposted passes.unvoided passes.going_on;
      };
    }

-- the expiry of a pending transfer that nothing settled
pub Follows-expiry : (h : History) (x : Entry) (t : ℕ) → IsSound h → stored h x.transfer.id ≡ Some x
    → holds x.kind ≡ true → resolved h x.transfer h.last ≡ false → Follows h (expiry x.transfer t)
Follows-expiry h x t sound there holding unsettled =
    let stands : Stands h x = stored_has (Stands h) h x.transfer.id x sound.standing there in
    record {
      accounts = stored_has (HasAccounts h) h x.transfer.id x sound.known there;
      apart = stands.apart;
      fresh = λ is. absurd (false≢true is);
      dated = λ is. absurd (false≢true is);
      timely = λ is. absurd (false≢true is);
      room = λ is. absurd (false≢true (sym is));
      settling = λ is. record {
        pending = x;
        settles =
            record {
              named = there;
              pending = holding;
              debit = refl;
              credit = refl;
              within = omega arith;
              shown = λ same. refl;
            };
        unsettled = unsettled;
      };
    }

-- what a request asks for, by its flags
plain_kind : (pending post void : Bool) → not (post || void) ≡ true
    → settles
    (if pending then TwoPhasePending else if post then TwoPhasePosted else if void then TwoPhaseVoided else SinglePhase)
    ≡ false
plain_kind false true void plain = absurd (false≢true plain)
plain_kind false false true plain = absurd (false≢true plain)
plain_kind pending post void plain = refl

-- a request that isn't plain is a post or a void, and not both
settling_kind : (pending post void : Bool) → not (post || void) ≡ false
    → ((pending && post) || (pending && void) || (post && void)) ≡ false
    → IsRequested
    (if pending then TwoPhasePending else if post then TwoPhasePosted else if void then TwoPhaseVoided else SinglePhase)
settling_kind false true void plain one =
    record { settling = refl; holding = refl; named = λ x. refl; unexpired = λ same. cc }
settling_kind false false true plain one =
    record { settling = refl; holding = refl; named = λ x. refl; unexpired = λ same. cc }
settling_kind pending false false plain one = absurd (false≢true (sym plain))
settling_kind true post void plain one = absurd (false≢true (sym one))

-- a plain request that no shape line refuses debits one account and credits another
apart_from : (r : NewTransfer) → is_plain_request r ≡ true
    → (is_plain_request r && (r.debit_account_id == r.credit_account_id)) ≡ false
    → r.debit_account_id ≢ r.credit_account_id
apart_from r plain line same =
    false≢true (sym line ∙ and_from _ _ plain (eq-eqb r.debit_account_id r.credit_account_id same))

-- a request that no line refuses: its entry may come next
pub Follows-accepted : (h : History) (r : NewTransfer) (t : ℕ) → IsSound h → h.last < t
    → first_line (transfer_lines h r t) ≡ None → Follows h (entry_of h r t)
Follows-accepted h r t sound later none =
    let parts = no_line_parts h r t none in
    by (is_plain_request r) refl (shape_passes r parts.0) parts.1 parts.2
  where
    by : (plain : Bool) → is_plain_request r ≡ plain → ShapePasses r → stored h r.id ≡ None
        → first_line (own_lines h r t) ≡ None → Follows h (entry_of h r t)
    by true is shape new own =
        let passes : PlainPasses (opened h r.debit_account_id) (opened h r.credit_account_id) h r t =
        plain_passes (opened h r.debit_account_id) (opened h r.credit_account_id) h r t
        (sym (ap
        (λ b. first_line
        (if b then plain_lines (opened h r.debit_account_id) (opened h r.credit_account_id) h r t else settling_lines
        (stored h r.pending_id) h r t)) is) ∙ own) in
        let asked : filled h r t ≡ as_asked r t =
        ap (λ b. if b then as_asked r t else filled_by (stored h r.pending_id) r t) is in
        subst (λ (x : Transfer). Follows h (entry_with (kind_of r) x t)) (sym asked)
        (Follows-plain (kind_of r) h r t sound later
        (plain_kind (is_pending_request r) (is_post_request r) (is_void_request r) is) new
        (apart_from r is shape.apart) passes)
    by false is shape new own =
        let passes : SettlingPasses (stored h r.pending_id) h r t =
        settling_passes (stored h r.pending_id) h r t
        (sym (ap
        (λ b. first_line
        (if b then plain_lines (opened h r.debit_account_id) (opened h r.credit_account_id) h r t else settling_lines
        (stored h r.pending_id) h r t)) is) ∙ own) in
        let asked : filled h r t ≡ filled_from passes.pending.transfer r t =
        ap (λ b. if b then as_asked r t else filled_by (stored h r.pending_id) r t) is
        ∙ ap (λ o. filled_by o r t) passes.there in
        subst (λ (x : Transfer). Follows h (entry_with (kind_of r) x t)) (sym asked)
        (Follows-settling (kind_of r) h r t sound later
        (settling_kind (is_pending_request r) (is_post_request r) (is_void_request r) is shape.one_kind) new passes)
