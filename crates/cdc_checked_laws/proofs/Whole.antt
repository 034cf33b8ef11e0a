-- A ledger's events are applied, if each comes, in order.
use Rattle.std.proofs.Common.{◌≡◌, ℕ, ◌+◌, ◌≤◌, Bool, true, false, not, List, [], ◌∷◌, ◌++◌, Option, Some, None, is_none, take, append_assoc, append-nil, refl, sym, ap, ap₂, ◌∙◌, subst, inl, inr, arith}
use Rattle.std.specs.Prelude.{◌==◌, ◌&&◌, ◌||◌, nat_lt, filter, fold, if◌then◌else◌, option_map, unwrap_or}
use Rattle.std.specs.Option.{option_or}
use Rattle.std.proofs.lemmas.Bool.{and_from, and_parts, cases_Bool, eq-eqb, eqb-true, false_from_ne_true, false≢true, lt-ltb, not_from_true, or_from, or_parts, or_right}
use Rattle.std.proofs.lemmas.List.Folds.{find-append, list_any-append}
use Rattle.cdc_types.specs.declared.events.Event.{Event}
use Rattle.cdc_types.specs.declared.events.EventKind.{EventKind}
use Rattle.cdc_types.specs.declared.events.EventKind.TheVariants.{SinglePhase, TwoPhasePending, TwoPhasePosted, TwoPhaseVoided, TwoPhaseExpired}
use Rattle.cdc_types.specs.Lines.{first_line}
use Rattle.cdc_types.specs.Timestamps.{RiseFrom, last_timestamp_from}
use Rattle.cdc_ledger.specs.Events.{events}
use Rattle.cdc_ledger.specs.Kinds.{holds, settles, stores}
use Rattle.cdc_ledger.proofs.BalanceLaws.{stores-holds}
use Rattle.cdc_audit.specs.declared.refusals.Refusal.{Refusal}
use Rattle.cdc_audit.specs.declared.refusals.Refusal.TheVariants.{NotPending}
use Rattle.cdc_audit.specs.Audits.{follows_on, is_accepted}
use Rattle.cdc_audit.specs.Checks.{account_lines, nothing}
use Rattle.cdc_audit.specs.Known.{balances_after, is_settled, is_stored, open_event, pending_event, settled_id}
use Rattle.cdc_audit.specs.Rules.{released, settled_event}
use Rattle.cdc_audit.specs.Settling.{settling_lines}
use Rattle.cdc_audit_laws.proofs.Accepted.{ledgers_are_accepted}
use Rattle.cdc_audit_laws.proofs.Following.{CanFollow, NoneApplies, no_first_line, none_of_both}
use Rattle.cdc_audit_laws.proofs.Streams.{accepted_events_rise, first_follows, first_room, follow_parts, follows_first, none_follows}
use Rattle.cdc_checked.specs.Checked.{account_rules, amount_held, amounts_by, is_applicable, is_new, last_of, lines_by, names, next_checked, open_in, open_one, open_then}
use Rattle.cdc_checked_laws.specs.Laws.{WholeStreamsAreApplied}
use Rattle.cdc_checked_laws.proofs.Released.{is_pending, none_pending}

-- the last timestamp of some of the events of a rising list is at most that of all
pub last_below : (p : Event → Bool) (s t : ℕ) (es : List Event) → s ≤ t → RiseFrom t es
    → last_timestamp_from s (filter p es) ≤ last_timestamp_from t es
last_below p s t [] less rise = less
last_below p s t (e ∷ es) less rise =
    by (p e) (last_below p e.timestamp e.timestamp es (omega arith) rise.1)
    (last_below p s e.timestamp es (let more = rise.0 in omega (arith, less, more)) rise.1)
  where
    by : (b : Bool) → last_timestamp_from e.timestamp (filter p es) ≤ last_timestamp_from e.timestamp es
        → last_timestamp_from s (filter p es) ≤ last_timestamp_from e.timestamp es
        → last_timestamp_from s (if b then e ∷ filter p es else filter p es) ≤ last_timestamp_from e.timestamp es
    by true kept left = kept
    by false kept left = left

-- ---- what is open

-- one more event
open_in-push : (es : List Event) (e : Event) (id : ℕ) → open_in (es ++ e ∷ []) id ≡ open_then id (open_in es id) e
open_in-push es e id = fold_push (open_then id) None es e
  where
    fold_push : {S X : Type 0} (f : S → X → S) (s : S) (xs : List X) (x : X)
        → fold f s (xs ++ x ∷ []) ≡ f (fold f s xs) x
    fold_push f s [] x = refl
    fold_push f s (y ∷ xs) x = fold_push f (f s y) xs x

-- of accepted events: what is open is open either way, and what is settled is stored
record OpenAlike (es : List Event) (id : ℕ) : Type 0 where
  pub same : open_in es id ≡ open_event es id
  pub stored : is_stored es id ≡ false → is_settled es id ≡ false

module _ (past : List Event) (e : Event) (id : ℕ) (can : CanFollow past e) (alike : OpenAlike past id) where
  settled_push : is_settled (past ++ e ∷ []) id
      ≡ (is_settled past id || ((settles e.kind && (settled_id e == id)) || false))
  settled_push = list_any-append (λ x. settles x.kind && (settled_id x == id)) past (e ∷ [])

  pending_push : pending_event (past ++ e ∷ []) id
      ≡ option_or (pending_event past id) (if is_pending id e then Some e else None)
  pending_push = find-append (is_pending id) past (e ∷ [])

  -- which events store and settle, by kind
  no_both : holds e.kind ≡ true → settles e.kind ≡ false
  no_both = by e.kind
    where
      by : (k : EventKind) → holds k ≡ true → settles k ≡ false
      by SinglePhase is = cc
      by TwoPhasePending is = refl
      by TwoPhasePosted is = cc
      by TwoPhaseVoided is = cc
      by TwoPhaseExpired is = cc

  -- an event of a new id
  is_held : is_pending id e ≡ true → open_in (past ++ e ∷ []) id ≡ open_event (past ++ e ∷ []) id
  is_held is =
      let both = and_parts (holds e.kind) (e.transfer.id == id) is in
      let unstored : is_stored past id ≡ false =
      ap (is_stored past) (sym (eqb-true e.transfer.id id both.1))
      ∙ sym (ap (λ b. b && is_stored past e.transfer.id) (stores-holds e.kind both.0)) ∙ can.new in
      let unsettled = alike.stored unstored in
      let left : open_in (past ++ e ∷ []) id ≡ Some e =
      open_in-push past e id
      ∙ ap (λ b. if b then Some e else (if settles e.kind && (settled_id e == id) then None else open_in past id)) is in
      let right : open_event (past ++ e ∷ []) id ≡ Some e =
      ap₂ (λ b (o : Option Event). if b then None else o)
      (settled_push ∙ ap₂ (λ b c. b || ((c && (settled_id e == id)) || false)) unsettled (no_both both.0))
      (pending_push ∙ ap₂ (λ (o : Option Event) b. option_or o (if b then Some e else None))
      (none_pending past id unstored) is) in
      left ∙ sym right

  -- an event that settles it
  is_ended : is_pending id e ≡ false → (settles e.kind && (settled_id e == id)) ≡ true
      → open_in (past ++ e ∷ []) id ≡ open_event (past ++ e ∷ []) id
  is_ended not is =
      open_in-push past e id
      ∙ ap₂ (λ a b. if a then Some e else (if b then None else open_in past id)) not is
      ∙ sym (ap (λ b. if b then None else pending_event (past ++ e ∷ []) id)
      (settled_push ∙ ap (λ b. is_settled past id || (b || false)) is ∙ or_right (is_settled past id) true refl))

  -- any other event
  is_other : is_pending id e ≡ false → (settles e.kind && (settled_id e == id)) ≡ false
      → open_in (past ++ e ∷ []) id ≡ open_event (past ++ e ∷ []) id
  is_other not is =
      open_in-push past e id
      ∙ ap₂ (λ a b. if a then Some e else (if b then None else open_in past id)) not is
      ∙ alike.same
      ∙ sym (ap₂ (λ b (o : Option Event). if b then None else o)
      (settled_push ∙ ap (λ b. is_settled past id || (b || false)) is ∙ or_no (is_settled past id))
      (pending_push ∙ ap (λ b. option_or (pending_event past id) (if b then Some e else None)) not
      ∙ or_none (pending_event past id)))
    where
      or_no : (b : Bool) → (b || (false || false)) ≡ b
      or_no true = refl
      or_no false = refl

      or_none : (o : Option Event) → option_or o None ≡ o
      or_none None = refl
      or_none (Some x) = refl

  still_stored : is_stored (past ++ e ∷ []) id ≡ false → is_settled (past ++ e ∷ []) id ≡ false
  still_stored none =
      let unstored : is_stored past id ≡ false =
      (or_parts (is_stored past id) ((stores e.kind && (e.transfer.id == id)) || false)
      (sym (list_any-append (λ x. stores x.kind && (x.transfer.id == id)) past (e ∷ [])) ∙ none)).0 in
      settled_push
      ∙ or_from (is_settled past id) ((settles e.kind && (settled_id e == id)) || false) (alike.stored unstored)
      (or_from (settles e.kind && (settled_id e == id)) false
      (false_from_ne_true (settles e.kind && (settled_id e == id)) (λ is.
      let both = and_parts (settles e.kind) (settled_id e == id) is in
      let lost : pending_event past (settled_id e) ≡ None =
      ap (pending_event past) (eqb-true (settled_id e) id both.1) ∙ none_pending past id unstored in
      false≢true (sym can.pending
      ∙ ap₂ (λ b (o : Option Event). b && is_none (option_map (λ (x : Event). x.transfer.amount) o)) both.0 lost)))
      refl)

  open_alike-push : OpenAlike (past ++ e ∷ []) id
  open_alike-push = record {
    same = elim (cases_Bool (is_pending id e)) [
      | inl is ↦ is_held is
      | inr not ↦ elim (cases_Bool (settles e.kind && (settled_id e == id))) [
        | inl is ↦ is_ended not is
        | inr other ↦ is_other not other
      ]
    ];
    stored = still_stored;
  }

open_alike : (past rest : List Event) (id : ℕ) → follows_on past rest ≡ true → OpenAlike past id
    → OpenAlike (past ++ rest) id
open_alike past [] id follow alike = rw append-nil alike
open_alike past (e ∷ rest) id follow alike =
    let first = first_follows past e rest follow in
    rw append_assoc at
    (open_alike (past ++ e ∷ []) rest id first.1 (open_alike-push past e id first.0 alike))

-- so an event of an accepted stream settles the same
pub one_settled : (past : List Event) (e : Event) → is_accepted past ≡ true → open_one past e ≡ settled_event past e
one_settled past e accepted =
    ap (λ (o : Option Event). if settles e.kind then o else None)
    (open_alike [] past (settled_id e) accepted (record { same = refl; stored = λ _. refl })).same

-- ---- balances

-- a balance that follows
pub balanced : (shown before added less : ℕ) → shown + less ≡ before + added
    → not (shown + less == before + added) ≡ false
balanced shown before added less same = not_from_true _ (eq-eqb (shown + less) (before + added) same)

-- what is known and not settled is open, and its amount is released
pub known_open : (b settled : Bool) (o : Option Event)
    → (b && is_none (option_map (λ (x : Event). x.transfer.amount) o)) ≡ false → (b && settled) ≡ false
    → ((b && is_none (if b then (if settled then None else o) else None)) ≡ false)
    × (amount_held (if b then (if settled then None else o) else None)
    ≡ (if b then unwrap_or (option_map (λ (x : Event). x.transfer.amount) o) 0 else 0))
known_open false settled o known unsettled = (refl, refl)
known_open true true o known unsettled = cc
known_open true false None known unsettled = (known, refl)
known_open true false (Some x) known unsettled = (refl, refl)

follow_balances : (past : List Event) (e : Event) (pending : Option Event) → amount_held pending ≡ released past e
    → CanFollow past e
    → NoneApplies (account_lines e.debit_account (balances_after past e.debit_account.id) (amounts_by pending e) nothing
    ++ account_lines e.credit_account (balances_after past e.credit_account.id) nothing (amounts_by pending e))
follow_balances past e pending same can =
    let debited = can.debited in
    let credited = can.credited in
    none_of_both
    (account_lines e.debit_account (balances_after past e.debit_account.id) (amounts_by pending e) nothing)
    (account_lines e.credit_account (balances_after past e.credit_account.id) nothing (amounts_by pending e)) (
      balanced _ _ _ _ (ap (λ n. e.debit_account.debits_pending + n) same ∙ debited.debits_pending),
      (
        balanced _ _ _ _ debited.debits_posted,
        (balanced _ _ _ _ debited.credits_pending, (balanced _ _ _ _ debited.credits_posted, tt)),
      ),
    ) (
      balanced _ _ _ _ credited.debits_pending,
      (
        balanced _ _ _ _ credited.debits_posted,
        (
          balanced _ _ _ _ (ap (λ n. e.credit_account.credits_pending + n) same ∙ credited.credits_pending),
          (balanced _ _ _ _ credited.credits_posted, tt),
        ),
      ),
    )

-- an event that follows is applied
pub follows_applicable : (past : List Event) (e : Event) → is_accepted past ≡ true → CanFollow past e
    → is_applicable past e ≡ true
unfolding is_applicable
follows_applicable past e accepted can =
    let rise = accepted_events_rise past accepted in
    let later : (id : ℕ) → nat_lt (last_of past id) e.timestamp ≡ true =
    λ id. lt-ltb (last_of past id) e.timestamp (let less = last_below (names id) 0 0 past (omega arith) rise in
    let new = can.later in omega (arith, less, new)) in
    let known = known_open (settles e.kind) (is_settled past (settled_id e)) (pending_event past (settled_id e))
    can.pending can.unsettled in
    let none : NoneApplies (lines_by (settled_event past e) (balances_after past e.debit_account.id)
    (balances_after past e.credit_account.id) e) =
    none_of_both
    ((settles e.kind && is_none (settled_event past e), NotPending (settled_id e)) ∷
    settling_lines (settled_event past e) e)
    (account_lines e.debit_account (balances_after past e.debit_account.id)
    (amounts_by (settled_event past e) e) nothing
    ++ account_lines e.credit_account (balances_after past e.credit_account.id) nothing
    (amounts_by (settled_event past e) e)) (known.0, can.settling)
    (follow_balances past e (settled_event past e) known.1 can) in
    let none_here : NoneApplies (account_rules past e) =
    subst (λ (o : Option Event). NoneApplies (lines_by o (balances_after past e.debit_account.id)
    (balances_after past e.credit_account.id) e)) (sym (one_settled past e accepted)) none in
    and_from (is_new past e) (is_none (first_line (account_rules past e)))
    (and_from (nat_lt (last_of past e.debit_account.id) e.timestamp)
    (nat_lt (last_of past e.credit_account.id) e.timestamp) (later e.debit_account.id) (later e.credit_account.id))
    (ap (λ (o : Option Refusal). is_none o) (no_first_line (account_rules past e) none_here))

-- the first of the events that follow accepted ones is accepted after them
pub accepted_push : (past : List Event) (e : Event) (rest : List Event) → is_accepted past ≡ true
    → follows_on past (e ∷ rest) ≡ true → is_accepted (past ++ e ∷ []) ≡ true
accepted_push past e rest accepted follow =
    follow_parts [] past (e ∷ []) accepted
    (follows_first past e [] (first_follows past e rest follow).0 (first_room past e rest follow)
    (none_follows (past ++ e ∷ [])))

all_applied : (past rest : List Event) → is_accepted past ≡ true → follows_on past rest ≡ true
    → fold next_checked past rest ≡ past ++ rest
all_applied past [] accepted follow = sym (append-nil past)
all_applied past (e ∷ rest) accepted follow =
    let first = first_follows past e rest follow in
    let is = follows_applicable past e accepted first.0 in
    ap (λ b. fold next_checked (if b then past ++ e ∷ [] else past) rest) is
    ∙ all_applied (past ++ e ∷ []) rest (accepted_push past e rest accepted follow) first.1
    ∙ append_assoc past (e ∷ []) rest

pub whole_streams_are_applied : WholeStreamsAreApplied
whole_streams_are_applied h count legal =
    all_applied [] (take count (events h)) (none_follows []) (ledgers_are_accepted h count legal)
