-- By baseline a ledger's events are applied, if each comes, in order, from any place on.
use Rattle.std.proofs.Common.{◌≡◌, ℕ, ◌+◌, ◌≤◌, Bool, true, false, not, List, [], ◌∷◌, ◌++◌, Option, Some, None, is_none, take, drop, append_assoc, append-nil, refl, sym, ap, ap₂, ◌∙◌, subst, inl, inr, arith}
use Rattle.std.specs.Prelude.{◌-◌, ◌==◌, ◌&&◌, nat_le, nat_lt, filter, find, fold, max, reverse, if◌then◌else◌, option_map, unwrap_or}
use Rattle.std.specs.List.{flat_map}
use Rattle.std.specs.Option.{option_or}
use Rattle.std.proofs.lemmas.Bool.{and_from, cases_Bool, eqb-true, false≢true, leb-true, lt-ltb, not-false}
use Rattle.std.proofs.lemmas.Bool.Decides.{eqb_tells}
use Rattle.std.proofs.lemmas.Grind.{flat_map-append}
use Rattle.std.proofs.lemmas.List.{reverse-append, take-append-drop}
use Rattle.std.proofs.lemmas.List.Folds.{find-append}
use Rattle.cdc_types.specs.declared.accounts.Balances.{Balances}
use Rattle.cdc_types.specs.declared.events.Event.{Event}
use Rattle.cdc_types.specs.declared.events.EventAccount.{EventAccount}
use Rattle.cdc_types.specs.declared.events.EventKind.{EventKind}
use Rattle.cdc_types.specs.declared.events.EventKind.TheVariants.{SinglePhase, TwoPhasePending, TwoPhasePosted, TwoPhaseVoided, TwoPhaseExpired}
use Rattle.cdc_types.specs.Lines.{first_line}
use Rattle.cdc_types.specs.Timestamps.{RiseFrom, last_timestamp, last_timestamp_from}
use Rattle.cdc_ledger.specs.Accounts.{no_balances}
use Rattle.cdc_ledger.specs.Events.{events}
use Rattle.cdc_ledger.specs.Kinds.{holds, moves, settles}
use Rattle.cdc_subscriber.specs.declared.book.BookEntry.{BookEntry}
use Rattle.cdc_subscriber.specs.Book.{entry_of, sides}
use Rattle.cdc_audit.specs.declared.refusals.Refusal.{Refusal}
use Rattle.cdc_audit.specs.Audits.{follows_on, is_accepted}
use Rattle.cdc_audit.specs.Checks.{nothing}
use Rattle.cdc_audit.specs.Known.{balances_after, is_settled, pending_event, settled_id}
use Rattle.cdc_audit.specs.Rules.{held, posted, released, settled_event}
use Rattle.cdc_audit.specs.Settling.{has_amount_of, settling_lines}
use Rattle.cdc_audit_laws.proofs.Following.{CanFollow, IsCredited, IsDebited, NoneApplies, no_first_line, none_of_both}
use Rattle.cdc_audit_laws.proofs.Streams.{accepted_events_rise, first_follows, parts_follow}
use Rattle.cdc_checked.specs.Based.{based_rules, fall, freed_by, inferred, is_based, moved_by, next_based, seen, seen_after, seen_lines}
use Rattle.cdc_checked.specs.Checked.{amount_held, is_new, last_of, names, open_in, open_one, open_then}
use Rattle.cdc_checked_laws.specs.Laws.{LateStreamsAreApplied}
use Rattle.cdc_checked_laws.proofs.Missed.{accepted_events}
use Rattle.cdc_checked_laws.proofs.Released.{is_pending}
use Rattle.cdc_checked_laws.proofs.Whole.{accepted_push, balanced, known_open, last_below, one_settled}

-- ---- the last events of a list

-- the last timestamp of some of the last events of a rising list is at most that of all
last_part : (p : Event → Bool) (t : ℕ) (front applied : List Event) → RiseFrom t (front ++ applied)
    → last_timestamp (filter p applied) ≤ last_timestamp_from t (front ++ applied)
last_part p t [] applied rise = last_below p 0 t applied (omega arith) rise
last_part p t (x ∷ front) applied rise = last_part p x.timestamp front applied rise.1

-- what events show last of the account of this id
abbrev shown_last : ℕ → List Event → Option BookEntry
shown_last id es = find (λ entry. entry.id == id) (reverse (flat_map sides es))

none_of_two : {X : Type 0} (a b : Option X) → option_or a b ≡ None → (a ≡ None) × (b ≡ None)
none_of_two None b none = (refl, none)
none_of_two (Some x) b none = cc

-- if they show nothing of it, none of them has it
none_has : (id : ℕ) (es : List Event) → shown_last id es ≡ None → filter (names id) es ≡ []
none_has id [] none = refl
none_has id (x ∷ es) none =
    let parts = none_of_two (shown_last id es) (shown_last id (x ∷ []))
    (sym (find-append (λ entry. entry.id == id) (reverse (flat_map sides es)) (reverse (flat_map sides (x ∷ []))))
    ∙ ap (find (λ entry. entry.id == id)) (sym (reverse-append (sides x) (flat_map sides es))) ∙ none) in
    rw (other parts.1) (none_has id es parts.0)
  where
    other : shown_last id (x ∷ []) ≡ None → names id x ≡ false
    other is =
        elim (eqb_tells x.credit_account.id id) [
          | inl credit ↦
              absurd (some_is (entry_of x.credit_account)
              (sym (ap (λ b. if b then Some (entry_of x.credit_account)
              else (if x.debit_account.id == id then Some (entry_of x.debit_account) else None)) credit.0) ∙ is))
          | inr credit ↦ elim (eqb_tells x.debit_account.id id) [
            | inl debit ↦
                absurd (some_is (entry_of x.debit_account)
                (sym (ap₂ (λ b c. if b then Some (entry_of x.credit_account)
                else (if c then Some (entry_of x.debit_account) else None)) credit.0 debit.0) ∙ is))
            | inr debit ↦ rw (debit.0, credit.0) refl
          ]
        ]
      where
        some_is : (entry : BookEntry) → Some entry ≡ None → ⊥
        some_is entry same = cc

-- so the balances of an account that they have are those of all
same_balances : (front applied : List Event) (id : ℕ) → (last_of applied id == 0) ≡ false
    → balances_after (front ++ applied) id ≡ balances_after applied id
same_balances front applied id was = by (shown_last id applied) refl
  where
    all_shown : shown_last id (front ++ applied) ≡ option_or (shown_last id applied) (shown_last id front)
    all_shown =
        ap (λ entries. find (λ (entry : BookEntry). entry.id == id) (reverse entries))
        (flat_map-append sides front applied)
        ∙ ap (find (λ entry. entry.id == id)) (reverse-append (flat_map sides front) (flat_map sides applied))
        ∙ find-append (λ entry. entry.id == id) (reverse (flat_map sides applied)) (reverse (flat_map sides front))

    by : (o : Option BookEntry) → shown_last id applied ≡ o
        → balances_after (front ++ applied) id ≡ balances_after applied id
    by None none =
        let nowhere = none_has id applied none in
        absurd (false≢true (sym was ∙ ap (λ (es : List Event). last_timestamp es == 0) nowhere))
    by (Some entry) is =
        ap (λ (o : Option BookEntry). unwrap_or (option_map (λ it. it.balances) o) no_balances)
        (all_shown ∙ ap (λ (o : Option BookEntry). option_or o (shown_last id front)) is ∙ sym is)

-- what is open after the last events is open after all
still_open : (id : ℕ) (es : List Event) (p : Event) (o : Option Event) → fold (open_then id) None es ≡ Some p
    → fold (open_then id) o es ≡ Some p
still_open id [] p o is = cc
still_open id (x ∷ es) p o is =
    by (is_pending id x) (settles x.kind && (settled_id x == id)) is (still_open id es p o)
  where
    by : (a b : Bool) → fold (open_then id) (if a then Some x else (if b then None else None)) es ≡ Some p
        → (fold (open_then id) None es ≡ Some p → fold (open_then id) o es ≡ Some p)
        → fold (open_then id) (if a then Some x else (if b then None else o)) es ≡ Some p
    by true b now rest = now
    by false true now rest = now
    by false false now rest = rest now

fold_on : (id : ℕ) (o : Option Event) (front applied : List Event)
    → fold (open_then id) o (front ++ applied) ≡ fold (open_then id) (fold (open_then id) o front) applied
fold_on id o [] applied = refl
fold_on id o (x ∷ front) applied = fold_on id (open_then id o x) front applied

open_past : (front applied : List Event) (e p : Event) → open_one applied e ≡ Some p
    → open_one (front ++ applied) e ≡ Some p
open_past front applied e p is = by (settles e.kind) is
  where
    by : (b : Bool) → (if b then open_in applied (settled_id e) else None) ≡ Some p
        → (if b then open_in (front ++ applied) (settled_id e) else None) ≡ Some p
    by true is =
        fold_on (settled_id e) None front applied
        ∙ still_open (settled_id e) applied p (fold (open_then (settled_id e)) None front) is
    by false is = is

-- ---- what an event releases

settling_holds_not : (k : EventKind) → settles k ≡ true → holds k ≡ false
settling_holds_not SinglePhase is = cc
settling_holds_not TwoPhasePending is = cc
settling_holds_not TwoPhasePosted is = refl
settling_holds_not TwoPhaseVoided is = refl
settling_holds_not TwoPhaseExpired is = refl

-- a pending sum that falls by what is released
falls_by : (shown before freed held_more amount : ℕ) → shown + freed ≡ before + held_more → held_more ≡ 0
    → amount ≤ freed → max (before - shown) amount ≡ freed
falls_by shown before freed held_more amount is none least = omega (arith, is, none, least)

-- what is known of the balances before an event
record Before (past : List Event) (e : Event) (debited credited : Option Balances) : Type 0 where
  pub debit : (b : Balances) → debited ≡ Some b → IsDebited past e b
  pub credit : (b : Balances) → credited ≡ Some b → IsCredited past e b

module _ (past : List Event) (e : Event) (can : CanFollow past e) where
  abbrev real : ℕ
  real = released past e

  known : ((settles e.kind && is_none (settled_event past e)) ≡ false) × (amount_held (settled_event past e) ≡ real)
  known = known_open (settles e.kind) (is_settled past (settled_id e)) (pending_event past (settled_id e)) can.pending
      can.unsettled

  -- an event that settles a pending transfer has an amount that this one allows
  amount_fits : settles e.kind ≡ true → has_amount_of real e ≡ true
  amount_fits is = by (settled_event past e) refl
    where
      by : (o : Option Event) → settled_event past e ≡ o → has_amount_of real e ≡ true
      by None none = absurd (false≢true (sym known.0
          ∙ ap₂ (λ b (o : Option Event). b && is_none o) is none))
      by (Some p) here =
          let lines = subst (λ (o : Option Event). NoneApplies (settling_lines o e)) here can.settling in
          let amount : p.transfer.amount ≡ real = sym (ap amount_held here) ∙ known.1 in
          subst (λ n. has_amount_of n e ≡ true) amount (not-false (has_amount_of p.transfer.amount e) lines.1.0)

  -- so what is inferred is what is released, if one of the accounts is known
  inferred_is : (debited credited : Option Balances) → Before past e debited credited
      → ((debited ≡ None) → (credited ≡ None) → ⊥) → inferred debited credited e ≡ real
  inferred_is debited credited before one =
      elim (cases_Bool (settles e.kind)) [
        | inr not ↦
            ap (λ b. if b then (if moves e.kind then max (fall debited credited e) e.transfer.amount
            else e.transfer.amount) else 0) not
            ∙ sym (released_none not)
        | inl is ↦
            ap (λ b. if b then (if moves e.kind then max (fall debited credited e) e.transfer.amount
            else e.transfer.amount) else 0) is
            ∙ elim (cases_Bool (moves e.kind)) [
              | inr stays ↦
                  ap (λ b. if b then max (fall debited credited e) e.transfer.amount else e.transfer.amount) stays
                  ∙ eqb-true e.transfer.amount real
                  (sym (ap (λ b. if b then nat_le e.transfer.amount real else (e.transfer.amount == real)) stays)
                  ∙ amount_fits is)
              | inl goes ↦
                  ap (λ b. if b then max (fall debited credited e) e.transfer.amount else e.transfer.amount) goes
                  ∙ falls debited credited before one (ap (λ b. if b then e.transfer.amount else 0)
                  (settling_holds_not e.kind is)) (leb-true e.transfer.amount real
                  (sym (ap (λ b. if b then nat_le e.transfer.amount real else (e.transfer.amount == real)) goes)
                  ∙ amount_fits is))
            ]
      ]
    where
      released_none : settles e.kind ≡ false → real ≡ 0
      released_none not =
          sym known.1 ∙ ap amount_held (ap (λ b. if b then
          (if is_settled past (settled_id e) then None else pending_event past (settled_id e)) else None) not)

      falls : (debited credited : Option Balances) → Before past e debited credited
          → ((debited ≡ None) → (credited ≡ None) → ⊥) → held e ≡ 0 → e.transfer.amount ≤ real
          → max (fall debited credited e) e.transfer.amount ≡ real
      falls (Some b) credited before one none least =
          falls_by e.debit_account.debits_pending b.debits_pending real (held e) e.transfer.amount
          (before.debit b refl).debits_pending none least
      falls None (Some b) before one none least =
          falls_by e.credit_account.credits_pending b.credits_pending real (held e) e.transfer.amount
          (before.credit b refl).credits_pending none least
      falls None None before one none least = absurd (one refl refl)

  -- the lines on accounts that are known
  lines_when : (debited credited : Option Balances) (freed : ℕ) → Before past e debited credited
      → (((debited ≡ None) → (credited ≡ None) → ⊥) → freed ≡ real)
      → NoneApplies (seen_lines e.debit_account debited (moved_by freed e) nothing
      ++ seen_lines e.credit_account credited nothing (moved_by freed e))
  lines_when debited credited freed before is =
      none_of_both (seen_lines e.debit_account debited (moved_by freed e) nothing)
      (seen_lines e.credit_account credited nothing (moved_by freed e))
      (debit_lines debited (λ b same. before.debit b same) (λ b same. is (λ none _. some_none b (sym same ∙ none))))
      (credit_lines credited (λ b same. before.credit b same) (λ b same. is (λ _ none. some_none b (sym same ∙ none))))
    where
      some_none : (b : Balances) → Some b ≡ None → ⊥
      some_none b same = cc

      debit_lines : (o : Option Balances) → ((b : Balances) → o ≡ Some b → IsDebited past e b)
          → ((b : Balances) → o ≡ Some b → freed ≡ real)
          → NoneApplies (seen_lines e.debit_account o (moved_by freed e) nothing)
      debit_lines None follows same = tt
      debit_lines (Some b) follows same =
          let it = follows b refl in (
            balanced _ _ _ _ (ap (λ n. e.debit_account.debits_pending + n) (same b refl) ∙ it.debits_pending),
            (
              balanced _ _ _ _ it.debits_posted,
              (balanced _ _ _ _ it.credits_pending, (balanced _ _ _ _ it.credits_posted, tt)),
            ),
          )

      credit_lines : (o : Option Balances) → ((b : Balances) → o ≡ Some b → IsCredited past e b)
          → ((b : Balances) → o ≡ Some b → freed ≡ real)
          → NoneApplies (seen_lines e.credit_account o nothing (moved_by freed e))
      credit_lines None follows same = tt
      credit_lines (Some b) follows same =
          let it = follows b refl in (
            balanced _ _ _ _ it.debits_pending,
            (
              balanced _ _ _ _ it.debits_posted,
              (
                balanced _ _ _ _ (ap (λ n. e.credit_account.credits_pending + n) (same b refl) ∙ it.credits_pending),
                (balanced _ _ _ _ it.credits_posted, tt),
              ),
            ),
          )

-- ---- an event that follows

-- the balances of an account that was seen
seen_some : (t : ℕ) (shown b : Balances) → seen t shown ≡ Some b → ((t == 0) ≡ false) × (shown ≡ b)
seen_some t shown b is = by (t == 0) is
  where
    by : (none : Bool) → (if none then None else Some shown) ≡ Some b → (none ≡ false) × (shown ≡ b)
    by true is = cc
    by false is = (refl, ap (λ (o : Option Balances). unwrap_or o shown) is)

module _ (front applied : List Event) (e : Event) (accepted : is_accepted (front ++ applied) ≡ true)
    (can : CanFollow (front ++ applied) e) where
  later : (id : ℕ) → nat_lt (last_of applied id) e.timestamp ≡ true
  later id =
      let less = last_part (names id) 0 front applied (accepted_events_rise (front ++ applied) accepted) in
      let new = can.later in
      lt-ltb (last_of applied id) e.timestamp (omega (arith, less, new))

  before : Before (front ++ applied) e (seen_after applied e.debit_account.id) (seen_after applied e.credit_account.id)
  before = record {
    debit = λ b is.
        let both = seen_some (last_of applied e.debit_account.id) (balances_after applied e.debit_account.id) b is in
        subst (IsDebited (front ++ applied) e) (same_balances front applied e.debit_account.id both.0 ∙ both.1)
        can.debited;
    credit = λ b is.
        let both = seen_some (last_of applied e.credit_account.id) (balances_after applied e.credit_account.id) b is in
        subst (IsCredited (front ++ applied) e) (same_balances front applied e.credit_account.id both.0 ∙ both.1)
        can.credited;
  }

  -- the pending transfer that it settles is open in all events, if it is in the last ones
  settled_is : (p : Event) → open_one applied e ≡ Some p → settled_event (front ++ applied) e ≡ Some p
  settled_is p is = sym (one_settled (front ++ applied) e accepted) ∙ open_past front applied e p is

  none_applies_here : (o : Option Event) → ((p : Event) → o ≡ Some p → settled_event (front ++ applied) e ≡ Some p)
      → NoneApplies (settling_lines o e
      ++ (seen_lines e.debit_account (seen_after applied e.debit_account.id)
      (moved_by (freed_by o (seen_after applied e.debit_account.id) (seen_after applied e.credit_account.id) e) e)
      nothing
      ++ seen_lines e.credit_account (seen_after applied e.credit_account.id) nothing
      (moved_by (freed_by o (seen_after applied e.debit_account.id) (seen_after applied e.credit_account.id) e) e)))
  none_applies_here None is =
      lines_when (front ++ applied) e can (seen_after applied e.debit_account.id)
      (seen_after applied e.credit_account.id)
      (inferred (seen_after applied e.debit_account.id) (seen_after applied e.credit_account.id) e) before
      (inferred_is (front ++ applied) e can (seen_after applied e.debit_account.id)
      (seen_after applied e.credit_account.id) before)
  none_applies_here (Some p) is =
      let here = is p refl in
      none_of_both (settling_lines (Some p) e)
      (seen_lines e.debit_account (seen_after applied e.debit_account.id) (moved_by p.transfer.amount e) nothing
      ++ seen_lines e.credit_account (seen_after applied e.credit_account.id) nothing (moved_by p.transfer.amount e))
      (subst (λ (o : Option Event). NoneApplies (settling_lines o e)) here can.settling)
      (lines_when (front ++ applied) e can (seen_after applied e.debit_account.id)
      (seen_after applied e.credit_account.id) p.transfer.amount before
      (λ _. sym (ap amount_held here) ∙ (known (front ++ applied) e can).1))

  follows_based : is_based applied e ≡ true
  unfolding is_based
  follows_based =
      and_from (is_new applied e) (is_none (first_line (based_rules applied e)))
      (and_from (nat_lt (last_of applied e.debit_account.id) e.timestamp)
      (nat_lt (last_of applied e.credit_account.id) e.timestamp) (later e.debit_account.id)
      (later e.credit_account.id))
      (ap (λ (o : Option Refusal). is_none o)
      (no_first_line (based_rules applied e) (none_applies_here (open_one applied e) settled_is)))

all_based : (front applied rest : List Event) → is_accepted (front ++ applied) ≡ true
    → follows_on (front ++ applied) rest ≡ true → fold next_based applied rest ≡ applied ++ rest
all_based front applied [] accepted follow = sym (append-nil applied)
all_based front applied (e ∷ rest) accepted follow =
    let first = first_follows (front ++ applied) e rest follow in
    let more = append_assoc front applied (e ∷ []) in
    ap (λ b. fold next_based (if b then applied ++ e ∷ [] else applied) rest)
    (follows_based front applied e accepted first.0)
    ∙ all_based front (applied ++ e ∷ []) rest
    (subst (λ (es : List Event). is_accepted es ≡ true) more
    (accepted_push (front ++ applied) e rest accepted follow))
    (subst (λ (es : List Event). follows_on es rest ≡ true) more first.1)
    ∙ append_assoc applied (e ∷ []) rest

pub late_streams_are_applied : LateStreamsAreApplied
late_streams_are_applied h start count legal =
    let front = take start (events h) in
    let rest = drop start (events h) in
    let whole = subst (λ (es : List Event). is_accepted es ≡ true) (sym (take-append-drop start (events h)))
    (accepted_events h legal) in
    let parts = parts_follow [] front rest whole in
    let some = parts_follow front (take count rest) (drop count rest)
    (subst (λ (es : List Event). follows_on front es ≡ true) (sym (take-append-drop count rest)) parts.1) in
    all_based front [] (take count rest)
    (subst (λ (es : List Event). is_accepted es ≡ true) (sym (append-nil front)) parts.0)
    (subst (λ (es : List Event). follows_on es (take count rest) ≡ true) (sym (append-nil front)) some.0)
