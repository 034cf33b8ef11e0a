-- What an event that follows others has, in equations.
use Rattle.std.proofs.Common.{◌≡◌, ◌≢◌, ℕ, ◌+◌, ◌<◌, Bool, true, false, not, List, [], ◌∷◌, ◌++◌, Some, None, is_none, if◌then◌else◌, refl, ◌==◌, ◌&&◌, nat_lt, arith}
use Rattle.cdc_audit_laws.proofs.OfStd.{eqb-false, lt-ltb, ltb-true, ne_eqb, not-false, not_from_true}
use Rattle.cdc_audit_laws.proofs.OfTypes.{Balances, TIMESTAMP, Event, first_line, last_timestamp}
use Rattle.cdc_audit_laws.proofs.OfLedger.{settles, stores}
use Rattle.cdc_audit_laws.proofs.OfAudit.{room_before, room_lines, balances_after, ends_in_chain, is_settled, is_stored, last_expiry, pending_amount, settled_id, Refusal, shape_lines, expiry_lines, first_due, times_before, times_lines, together_lines, created_lines, fields_before, fields_lines, limits_lines, balances_lines, chain_lines, fixed_lines, held, order_lines, posted, refusal, released, settled_event, transfer_lines, settling_lines}

-- no line applies
abbrev pub NoneApplies : {R : Type 0} → List (Bool × R) → Type 0
NoneApplies [] = Unit {0}
NoneApplies (line ∷ lines) = (line.0 ≡ false) × NoneApplies lines

-- if there is no first line that applies, none does
pub none_applies : {R : Type 0} (lines : List (Bool × R)) → first_line lines ≡ None → NoneApplies lines
none_applies [] none = tt
none_applies {R = R} (line ∷ lines) none = by line.0 refl none (none_applies lines)
  where
    by : (b : Bool) → line.0 ≡ b → (if b then Some line.1 else first_line lines) ≡ None
        → (first_line lines ≡ None → NoneApplies lines) → (line.0 ≡ false) × NoneApplies lines
    by true is first rest = cc
    by false is first rest = (is, rest first)

-- and the other way round
pub no_first_line : {R : Type 0} (lines : List (Bool × R)) → NoneApplies lines → first_line lines ≡ None
no_first_line [] none = refl
no_first_line (line ∷ lines) none = rw none.0 (no_first_line lines none.1)

-- none of two parts of lines applies
pub none_both : {R : Type 0} (first second : List (Bool × R)) → NoneApplies (first ++ second)
    → NoneApplies first × NoneApplies second
none_both [] second none = (tt, none)
none_both (line ∷ first) second none =
    let rest = none_both first second none.1 in
    ((none.0, rest.0), rest.1)

-- and the other way round
pub none_of_both : {R : Type 0} (first second : List (Bool × R)) → NoneApplies first → NoneApplies second
    → NoneApplies (first ++ second)
none_of_both [] second none others = others
none_of_both (line ∷ first) second none others = (none.0, none_of_both first second none.1 others)

-- the parts of the first line on a settled transfer, if it doesn't apply
pub settled_parts : (a b c d e f g h : ℕ) (rest : Bool) → not (a == b && c == d && e == f && g == h && rest) ≡ false
    → (a ≡ b) × (c ≡ d) × (e ≡ f) × (g ≡ h) × (rest ≡ true)
settled_parts a b c d e f g h rest line = grind arith

-- the account that an event debits has balances that follow from these, and its credits stay
pub record IsDebited (past : List Event) (e : Event) (before : Balances) : Type 0 where
  pub debits_pending : e.debit_account.debits_pending + released past e ≡ before.debits_pending + held e
  pub debits_posted : e.debit_account.debits_posted + 0 ≡ before.debits_posted + posted e
  pub credits_pending : e.debit_account.credits_pending + 0 ≡ before.credits_pending + 0
  pub credits_posted : e.debit_account.credits_posted + 0 ≡ before.credits_posted + 0

-- so has the account that it credits, and its debits stay
pub record IsCredited (past : List Event) (e : Event) (before : Balances) : Type 0 where
  pub debits_pending : e.credit_account.debits_pending + 0 ≡ before.debits_pending + 0
  pub debits_posted : e.credit_account.debits_posted + 0 ≡ before.debits_posted + 0
  pub credits_pending : e.credit_account.credits_pending + released past e ≡ before.credits_pending + held e
  pub credits_posted : e.credit_account.credits_posted + 0 ≡ before.credits_posted + posted e

-- an event that no rule refuses
pub record CanFollow (past : List Event) (e : Event) : Type 0 where
  pub later : last_timestamp past < e.timestamp
  pub apart : e.debit_account.id ≢ e.credit_account.id
  pub within : nat_lt TIMESTAMP e.timestamp ≡ false
  pub shape : NoneApplies (shape_lines e)
  pub fixed : NoneApplies (fixed_lines past e)
  pub new : (stores e.kind && is_stored past e.transfer.id) ≡ false
  pub pending : (settles e.kind && is_none (pending_amount past (settled_id e))) ≡ false
  pub unsettled : (settles e.kind && is_settled past (settled_id e)) ≡ false
  pub settling : NoneApplies (settling_lines (settled_event past e) e)
  pub expiry : NoneApplies (expiry_lines (first_due past) (last_expiry past) e)
  pub chain : NoneApplies (chain_lines (ends_in_chain past) (last_timestamp past) e)
  pub limits : NoneApplies (limits_lines e)
  pub debited : IsDebited past e (balances_after past e.debit_account.id)
  pub credited : IsCredited past e (balances_after past e.credit_account.id)

-- the parts of the lines on the fixed fields of both accounts, of which none applies
pub record FixedParts (past : List Event) (e : Event) : Type 0 where
  pub debit : NoneApplies (fields_lines (fields_before past e.debit_account.id) e.ledger e.debit_account)
  pub credit : NoneApplies (fields_lines (fields_before past e.credit_account.id) e.ledger e.credit_account)
  pub created : NoneApplies (created_lines e)
  pub debit_times : NoneApplies (times_lines (times_before past e.debit_account) e.debit_account)
  pub credit_times : NoneApplies (times_lines (times_before past e.credit_account) e.credit_account)
  pub together : NoneApplies (together_lines e)

pub fixed_parts : (past : List Event) (e : Event) → NoneApplies (fixed_lines past e) → FixedParts past e
fixed_parts past e none = grind arith

-- no line of seven parts applies
record NoneOfSeven (first second third fourth fifth sixth seventh : List (Bool × Refusal)) : Type 0 where
  pub order : NoneApplies first
  pub shape : NoneApplies second
  pub fixed : NoneApplies third
  pub transfer : NoneApplies fourth
  pub settling : NoneApplies fifth
  pub limits : NoneApplies sixth
  pub balances : NoneApplies seventh

-- so it is if there is no first line of them all
of_seven : (order shape fixed transfer settling limits balances : List (Bool × Refusal))
    → first_line (order ++ shape ++ fixed ++ transfer ++ settling ++ limits ++ balances) ≡ None
    → NoneOfSeven order shape fixed transfer settling limits balances
of_seven order shape fixed transfer settling limits balances none =
    let all = none_applies (order ++ shape ++ fixed ++ transfer ++ settling ++ limits ++ balances) none in
    let six = none_both (order ++ shape ++ fixed ++ transfer ++ settling ++ limits) balances all in
    let five = none_both (order ++ shape ++ fixed ++ transfer ++ settling) limits six.0 in
    let four = none_both (order ++ shape ++ fixed ++ transfer) settling five.0 in
    let three = none_both (order ++ shape ++ fixed) transfer four.0 in
    let two = none_both (order ++ shape) fixed three.0 in
    let one = none_both order shape two.0 in
    record {
      order = one.0;
      shape = one.1;
      fixed = two.1;
      transfer = three.1;
      settling = four.1;
      limits = five.1;
      balances = six.1;
    }

-- and the other way round
seven : (order shape fixed transfer settling limits balances : List (Bool × Refusal))
    → NoneOfSeven order shape fixed transfer settling limits balances
    → first_line (order ++ shape ++ fixed ++ transfer ++ settling ++ limits ++ balances) ≡ None
seven order shape fixed transfer settling limits balances none =
    no_first_line (order ++ shape ++ fixed ++ transfer ++ settling ++ limits ++ balances)
    (none_of_both (order ++ shape ++ fixed ++ transfer ++ settling ++ limits) balances
    (none_of_both (order ++ shape ++ fixed ++ transfer ++ settling) limits
    (none_of_both (order ++ shape ++ fixed ++ transfer) settling
    (none_of_both (order ++ shape ++ fixed) transfer
    (none_of_both (order ++ shape) fixed (none_of_both order shape none.order none.shape) none.fixed)
    none.transfer) none.settling) none.limits) none.balances)

-- the lines on balances, of which none applies
balances_follow : (past : List Event) (e : Event) → NoneApplies (balances_lines past e)
    → IsDebited past e (balances_after past e.debit_account.id)
    × IsCredited past e (balances_after past e.credit_account.id)
balances_follow past e none = grind arith

-- and the other way round
follow_balances : (past : List Event) (e : Event) → IsDebited past e (balances_after past e.debit_account.id)
    → IsCredited past e (balances_after past e.credit_account.id) → NoneApplies (balances_lines past e)
follow_balances past e debited credited = grind arith

-- the last part: the lines on balances, and those on the next items of chains
of_last : (past : List Event) (e : Event)
    → NoneApplies (balances_lines past e ++ room_lines (room_before false past e) e)
    → NoneApplies (balances_lines past e) × NoneApplies (room_lines (room_before false past e) e)
of_last past e none = none_both (balances_lines past e) (room_lines (room_before false past e) e) none

-- an event that isn't refused is one that can follow
pub unrefused : (past : List Event) (e : Event) → refusal past e ≡ None → CanFollow past e
unfolding refusal
unrefused past e none =
    let all = of_seven (order_lines (last_timestamp past) e) (shape_lines e) (fixed_lines past e)
    (transfer_lines past e)
    (settling_lines (settled_event past e) e ++ expiry_lines (first_due past) (last_expiry past) e)
    (chain_lines (ends_in_chain past) (last_timestamp past) e ++ limits_lines e)
    (balances_lines past e ++ room_lines (room_before false past e) e) none in
    let ends = none_both (settling_lines (settled_event past e) e) (expiry_lines (first_due past) (last_expiry past) e)
    all.settling in
    let bounds = none_both (chain_lines (ends_in_chain past) (last_timestamp past) e) (limits_lines e) all.limits in
    let order = all.order in
    let transfer = all.transfer in
    let balances = balances_follow past e (of_last past e all.balances).0 in
    record {
      later = ltb-true (last_timestamp past) e.timestamp (not-false _ order.0);
      apart = eqb-false e.debit_account.id e.credit_account.id order.1.0;
      within = order.1.1.0;
      shape = all.shape;
      fixed = all.fixed;
      new = transfer.0;
      pending = transfer.1.0;
      unsettled = transfer.1.1.0;
      settling = ends.0;
      expiry = ends.1;
      chain = bounds.0;
      limits = bounds.1;
      debited = balances.0;
      credited = balances.1;
    }

-- and each chain that it is in can have its next item
pub roomy : (past : List Event) (e : Event) → refusal past e ≡ None
    → NoneApplies (room_lines (room_before false past e) e)
unfolding refusal
roomy past e none =
    let all = of_seven (order_lines (last_timestamp past) e) (shape_lines e) (fixed_lines past e)
    (transfer_lines past e)
    (settling_lines (settled_event past e) e ++ expiry_lines (first_due past) (last_expiry past) e)
    (chain_lines (ends_in_chain past) (last_timestamp past) e ++ limits_lines e)
    (balances_lines past e ++ room_lines (room_before false past e) e) none in
    (of_last past e all.balances).1

-- and such an event isn't refused
pub no_refusal : (past : List Event) (e : Event) → CanFollow past e
    → NoneApplies (room_lines (room_before false past e) e) → refusal past e ≡ None
unfolding refusal
no_refusal past e can room =
    seven (order_lines (last_timestamp past) e) (shape_lines e) (fixed_lines past e) (transfer_lines past e)
    (settling_lines (settled_event past e) e ++ expiry_lines (first_due past) (last_expiry past) e)
    (chain_lines (ends_in_chain past) (last_timestamp past) e ++ limits_lines e)
    (balances_lines past e ++ room_lines (room_before false past e) e) (record {
      order = (
        not_from_true _ (lt-ltb (last_timestamp past) e.timestamp can.later),
        (ne_eqb e.debit_account.id e.credit_account.id can.apart, (can.within, tt)),
      );
      shape = can.shape;
      fixed = can.fixed;
      transfer = (can.new, (can.pending, (can.unsettled, tt)));
      settling = none_of_both (settling_lines (settled_event past e) e)
          (expiry_lines (first_due past) (last_expiry past) e) can.settling can.expiry;
      limits = none_of_both (chain_lines (ends_in_chain past) (last_timestamp past) e) (limits_lines e) can.chain
          can.limits;
      balances = none_of_both (balances_lines past e) (room_lines (room_before false past e) e)
          (follow_balances past e can.debited can.credited) room;
    })
