-- An event is applied if each earlier event of its accounts was applied, and no later one.
use Rattle.std.proofs.Common.{◌≡◌, ℕ, ◌+◌, ◌<◌, Bool, true, false, not, List, [], ◌∷◌, ◌++◌, Option, Some, None, is_none, append_assoc, refl, sym, ap, ap₂, ◌∙◌, subst, inl, inr, arith}
use Rattle.std.specs.Prelude.{◌⊎◌, ◌==◌, ◌&&◌, nat_lt, Contains, filter, fold, sum_by, if◌then◌else◌, option_map, unwrap_or}
use Rattle.std.specs.List.{AllByRecursion}
use Rattle.std.proofs.lemmas.Bool.{and_from, and_parts, cases_Bool, eq-eqb, eqb-true, false_from_ne_true, false≢true, lt-ltb, not-false, not_from_false, or_left, or_parts, or_right}
use Rattle.std.proofs.lemmas.List.Elements.{Contains-append_cases, Contains-append_left, Contains-append_right}
use Rattle.cdc_types.specs.declared.events.Event.{Event}
use Rattle.cdc_types.specs.Lines.{first_line}
use Rattle.cdc_types.specs.Timestamps.{RiseFrom}
use Rattle.cdc_ledger.specs.Events.{events}
use Rattle.cdc_ledger.specs.Kinds.{settles}
use Rattle.cdc_ledger.proofs.StoredLaws.{find_all}
use Rattle.cdc_audit.specs.declared.refusals.Refusal.{Refusal}
use Rattle.cdc_audit.specs.Audits.{is_accepted}
use Rattle.cdc_audit.specs.Checks.{account_lines, nothing}
use Rattle.cdc_audit.specs.Known.{balances_after, is_settled, open_event, pending_event, settled_id}
use Rattle.cdc_audit.specs.Rules.{held, posted, released, settled_event}
use Rattle.cdc_audit.specs.Settling.{has_fields_of, settling_lines}
use Rattle.cdc_audit_laws.proofs.Following.{CanFollow, NoneApplies, no_first_line, none_of_both}
use Rattle.cdc_audit_laws.proofs.Streams.{accepted_events_rise}
use Rattle.cdc_checked.specs.Checked.{account_rules, amounts_by, checked, is_applicable, is_new, last_of, names, next_checked, open_in, open_one, open_then, pending_lines, sums_lines}
use Rattle.cdc_checked_laws.proofs.Applicable.{names_debit}
use Rattle.cdc_checked_laws.specs.Laws.{TheNextEventIsApplied, has_event_at, is_missed, missed}
use Rattle.cdc_checked_laws.proofs.Missed.{accepted_events, checked_holds}
use Rattle.cdc_checked_laws.proofs.Kept.{Holds}
use Rattle.cdc_checked_laws.proofs.Members.{Parts, above, cons_cases, each_from, each_has, first_there, has_own, none_there, parts_at, same_time}
use Rattle.cdc_checked_laws.proofs.Prefix.{event_at, is_left}
use Rattle.cdc_checked_laws.proofs.Released.{amount_same, event_follows, found, is_pending}
use Rattle.cdc_checked_laws.proofs.Steps.{AreSame, BalancesAdd, IsStep, balances_add-nil, balances_add_on, follow_step}
use Rattle.cdc_checked_laws.proofs.Whole.{balanced, known_open}
use Rattle.cdc_checked_laws.proofs.Weights.{sum_before, sum_by_both, sum_by_filter}

-- ---- what stays open

-- an event that stores the one pending transfer of an id stays open if nothing settles it
stays_open : (id : ℕ) (es : List Event) (o : Option Event) (x : Event) → is_pending id x ≡ true
    → AllByRecursion (λ y. is_pending id y ≡ true → y ≡ x) es
    → AllByRecursion (λ y. (settles y.kind && (settled_id y == id)) ≡ false) es
    → (o ≡ Some x) ⊎ Contains es x → fold (open_then id) o es ≡ Some x
stays_open id [] o x is one none (inl now) = now
stays_open id [] o x is one none (inr there) = absurd (none_there x there)
stays_open id (y ∷ es) o x is one none where_is =
    elim (cases_Bool (is_pending id y)) [
      | inl held ↦
          stays_open id es (open_then id o y) x is one.1 none.1
          (inl (ap (λ b. if b then Some y else (if settles y.kind && (settled_id y == id) then None else o)) held
          ∙ ap Some (one.0 held)))
      | inr other ↦
          stays_open id es (open_then id o y) x is one.1 none.1 (next other where_is)
    ]
  where
    same : is_pending id y ≡ false → open_then id o y ≡ o
    same other = ap₂ (λ a b. if a then Some y else (if b then None else o)) other none.0

    next : is_pending id y ≡ false → (o ≡ Some x) ⊎ Contains (y ∷ es) x
        → (open_then id o y ≡ Some x) ⊎ Contains es x
    next other (inl now) = inl (same other ∙ now)
    next other (inr there) =
        elim (cons_cases y es x there) [
          | inl first ↦ absurd (false≢true (sym other ∙ ap (is_pending id) first ∙ is))
          | inr later ↦ inr later
        ]

-- an event of a list settles, so one does
settled_there : (es : List Event) (e : Event) (id : ℕ) → Contains es e
    → (settles e.kind && (settled_id e == id)) ≡ true → is_settled es id ≡ true
settled_there [] e id there is = absurd (none_there e there)
settled_there (x ∷ es) e id there is =
    elim (cons_cases x es e there) [
      | inl first ↦
          or_left (settles x.kind && (settled_id x == id)) (is_settled es id)
          (ap (λ (y : Event). settles y.kind && (settled_id y == id)) first ∙ is)
      | inr later ↦
          or_right (settles x.kind && (settled_id x == id)) (is_settled es id) (settled_there es e id later is)
    ]

first_of_five : (a b c d f : Bool) → (a && b && c && d && f) ≡ true → a ≡ true
first_of_five a b c d f is =
    let four = (and_parts (a && b && c && d) f is).0 in
    let three = (and_parts (a && b && c) d four).0 in
    let two = (and_parts (a && b) c three).0 in (and_parts a b two).0

-- a settling event has the accounts of its pending transfer
pub settles_own : (past : List Event) (e x : Event) → CanFollow past e → settles e.kind ≡ true
    → pending_event past (settled_id e) ≡ Some x → names e.debit_account.id x ≡ true
settles_own past e x can is x_is =
    let unsettled : is_settled past (settled_id e) ≡ false =
    sym (ap (λ b. b && is_settled past (settled_id e)) is) ∙ can.unsettled in
    let settled : settled_event past e ≡ Some x =
    ap (λ b. if b then open_event past (settled_id e) else None) is
    ∙ ap₂ (λ b (o : Option Event). if b then None else o) unsettled x_is in
    let lines : NoneApplies (settling_lines (Some x) e) =
    subst (λ (o : Option Event). NoneApplies (settling_lines o e)) settled can.settling in
    let fields : has_fields_of x e ≡ true = not-false (has_fields_of x e) lines.0 in
    let debit : (e.debit_account.id == x.debit_account.id) ≡ true = first_of_five _ _ _ _ _ fields in
    or_left (x.debit_account.id == e.debit_account.id) (x.credit_account.id == e.debit_account.id)
    (eq-eqb x.debit_account.id e.debit_account.id (sym (eqb-true e.debit_account.id x.debit_account.id debit)))

-- what is before an event was missed, or applied
parted : (n l h : Bool) (m : ℕ) → (n ≡ false → m ≡ 0) → (n ≡ true → h ≡ true → l ≡ true)
    → (if l then m else 0) ≡ (if n && (l && not h) then m else 0) + (if h then m else 0)
parted false l h m other early = rw (other refl) (zeros l h)
  where
    zeros : (l h : Bool) → (if l then 0 else 0) ≡ 0 + (if h then 0 else 0)
    zeros true true = omega arith
    zeros true false = omega arith
    zeros false true = omega arith
    zeros false false = omega arith
parted true true true m other early = omega arith
parted true false true m other early = absurd (false≢true (early refl refl))
parted true true false m other early = omega arith
parted true false false m other early = omega arith

-- nothing that passes is left of an empty list
none_passes : (p : Event → Bool) (es : List Event) (x : Event) → filter p es ≡ [] → Contains es x → p x ≡ false
none_passes p es x none there =
    false_from_ne_true (p x) (λ is.
    none_there x (subst (λ (ys : List Event). Contains ys x) none (is_left p es x there is)))

module _ (all applied : List Event) (e : Event) (accepted : is_accepted all ≡ true) (held_all : Holds all applied)
    (there : Contains all e) where
  pub rise : RiseFrom 0 all
  rise = accepted_events_rise all accepted

  abbrev pub parts : Parts all e
  parts = parts_at all e there

  pub follows : (is_accepted parts.front ≡ true) × CanFollow parts.front e
  follows =
      event_follows parts.front e parts.back (subst (λ (es : List Event). is_accepted es ≡ true) parts.whole accepted)

  pub front_inside : AllByRecursion (Contains all) parts.front
  front_inside =
      each_from (Contains all) parts.front (λ x x_there.
      subst (λ (es : List Event). Contains es x) (sym parts.whole)
      (Contains-append_left parts.front (e ∷ parts.back) x x_there))

  pub front_step : IsStep all parts.front e
  front_step = follow_step all parts.front e accepted front_inside follows.1

  front_sums : (id : ℕ) → BalancesAdd all parts.front id
  front_sums id = balances_add_on all [] parts.front id accepted tt front_inside (balances_add-nil all id) follows.0

  -- if nothing of an account was missed, what was applied of it is what came before
  module _ (id : ℕ) (new : last_of applied id < e.timestamp) (whole : missed all applied id e.timestamp ≡ []) where
    split : (w : Event → ℕ) → ((x : Event) → names id x ≡ false → w x ≡ 0) → sum_by w parts.front ≡ sum_by w applied
    split w other =
        let before : sum_by (λ x. if nat_lt x.timestamp e.timestamp then w x else 0) all ≡ sum_by w parts.front =
        ap (λ (es : List Event). sum_by (λ x. if nat_lt x.timestamp e.timestamp then w x else 0) es) parts.whole
        ∙ sum_before 0 parts.front e parts.back w (subst (RiseFrom 0) parts.whole rise) in
        let one = sum_by_filter w (is_missed applied id e.timestamp) all in
        let nothing : sum_by w (filter (is_missed applied id e.timestamp) all) ≡ 0 = ap (sum_by w) whole in
        let two = held_all.weights w in
        let both : sum_by (λ x. if nat_lt x.timestamp e.timestamp then w x else 0) all
        ≡ sum_by (λ x. if is_missed applied id e.timestamp x then w x else 0) all
        + sum_by (λ x. if has_event_at applied x.timestamp then w x else 0) all =
        sum_by_both (λ x. if nat_lt x.timestamp e.timestamp then w x else 0)
        (λ x. if is_missed applied id e.timestamp x then w x else 0)
        (λ x. if has_event_at applied x.timestamp then w x else 0) all
        (each_from (λ x. (if nat_lt x.timestamp e.timestamp then w x else 0)
        ≡ (if is_missed applied id e.timestamp x then w x else 0)
        + (if has_event_at applied x.timestamp then w x else 0)) all (λ x x_there.
        parted (names id x) (nat_lt x.timestamp e.timestamp) (has_event_at applied x.timestamp) (w x) (other x)
        (λ named_x old.
        let last = held_all.last x x_there old id named_x in
        lt-ltb x.timestamp e.timestamp (omega (arith, new, last))))) in
        omega (arith, before, one, two, both, nothing)

    not_debit : (w : Event → ℕ) (x : Event) → names id x ≡ false → (if x.debit_account.id == id then w x else 0) ≡ 0
    not_debit w x other =
        ap (λ b. if b then w x else 0) (or_parts (x.debit_account.id == id) (x.credit_account.id == id) other).0

    not_credit : (w : Event → ℕ) (x : Event) → names id x ≡ false → (if x.credit_account.id == id then w x else 0) ≡ 0
    not_credit w x other =
        ap (λ b. if b then w x else 0) (or_parts (x.debit_account.id == id) (x.credit_account.id == id) other).1

    pub same_balances : AreSame (balances_after applied id) (balances_after parts.front id)
    same_balances =
        let one = held_all.sums id in
        let two = front_sums id in
        let dp = split (λ x. if x.debit_account.id == id then posted x else 0) (not_debit posted) in
        let cp = split (λ x. if x.credit_account.id == id then posted x else 0) (not_credit posted) in
        let dh = split (λ x. if x.debit_account.id == id then held x else 0) (not_debit held) in
        let ch = split (λ x. if x.credit_account.id == id then held x else 0) (not_credit held) in
        let dr = split (λ x. if x.debit_account.id == id then released all x else 0) (not_debit (released all)) in
        let cr = split (λ x. if x.credit_account.id == id then released all x else 0) (not_credit (released all)) in
        record {
          debits_pending = omega (arith, dh, dr, one.debits_pending, two.debits_pending);
          debits_posted = omega (arith, dp, one.debits_posted, two.debits_posted);
          credits_pending = omega (arith, ch, cr, one.credits_pending, two.credits_pending);
          credits_posted = omega (arith, cp, one.credits_posted, two.credits_posted);
        }

    -- an event of the account before it was applied
    pub was_applied : (x : Event) → Contains parts.front x → names id x ≡ true → Contains applied x
    was_applied x x_front named =
        let x_known = each_has (Contains all) parts.front x front_inside x_front in
        let less : x.timestamp < e.timestamp = before x x_front in
        let kept = none_passes (is_missed applied id e.timestamp) all x whole x_known in
        let at : has_event_at applied x.timestamp ≡ true =
        elim (cases_Bool (has_event_at applied x.timestamp)) [
          | inl is ↦ is
          | inr missing ↦ absurd (false≢true (sym kept
              ∙ and_from (names id x) (nat_lt x.timestamp e.timestamp && not (has_event_at applied x.timestamp)) named
              (and_from (nat_lt x.timestamp e.timestamp) (not (has_event_at applied x.timestamp))
              (lt-ltb x.timestamp e.timestamp less) (not_from_false (has_event_at applied x.timestamp) missing))))
        ] in
        let other = event_at applied x.timestamp at in
        let other_known = each_has (Contains all) applied other.event held_all.inside other.there in
        subst (Contains applied) (same_time 0 all other.event x rise other_known x_known other.time) other.there
      where
        before : (x : Event) → Contains parts.front x → x.timestamp < e.timestamp
        before x x_there = earlier 0 parts.front (subst (RiseFrom 0) parts.whole rise) x_there
          where
            earlier : (t : ℕ) (front : List Event) → RiseFrom t (front ++ e ∷ parts.back) → Contains front x
                → x.timestamp < e.timestamp
            earlier t [] up here = absurd (none_there x here)
            earlier t (y ∷ front) up here =
                let more = above y.timestamp (front ++ e ∷ parts.back) e up.1
                (Contains-append_right front (e ∷ parts.back) e (first_there e parts.back)) in
                elim (cons_cases y front x here) [
                  | inl is ↦ let same = ap (λ (z : Event). z.timestamp) is in omega (arith, more, same)
                  | inr later ↦ earlier y.timestamp front up.1 later
                ]

-- ---- an event of which nothing before was missed

module _ (all applied : List Event) (e : Event) (accepted : is_accepted all ≡ true) (held_all : Holds all applied)
    (there : Contains all e) (debit_new : last_of applied e.debit_account.id < e.timestamp)
    (credit_new : last_of applied e.credit_account.id < e.timestamp)
    (debit_whole : missed all applied e.debit_account.id e.timestamp ≡ [])
    (credit_whole : missed all applied e.credit_account.id e.timestamp ≡ []) where
  abbrev around : Parts all e
  around = parts all applied e accepted held_all there

  can : CanFollow around.front e
  can = (follows all applied e accepted held_all there).1

  -- it wasn't applied
  not_applied : Contains applied e → ⊥
  not_applied is =
      let last = held_all.last e there (has_own applied e is) e.debit_account.id (names_debit e) in
      omega (arith, last, debit_new)

  -- no applied event settles what it settles
  none_settles : (y : Event) → Contains applied y → settles e.kind ≡ true
      → (settles y.kind && (settled_id y == settled_id e)) ≡ false
  none_settles y y_applied settling =
      false_from_ne_true (settles y.kind && (settled_id y == settled_id e)) (λ is.
      elim (Contains-append_cases around.front (e ∷ around.back) y (subst (λ (es : List Event). Contains es y)
      around.whole (each_has (Contains all) applied y held_all.inside y_applied))) [
        | inl before ↦
            false≢true (sym can.unsettled
            ∙ and_from (settles e.kind) (is_settled around.front (settled_id e)) settling
            (settled_there around.front y (settled_id e) before is))
        | inr after ↦ elim (cons_cases e around.back y after) [
          | inl same ↦ not_applied (subst (Contains applied) (sym same) y_applied)
          | inr behind ↦ later y is behind
        ]
      ])
    where
      later : (y : Event) → (settles y.kind && (settled_id y == settled_id e)) ≡ true → Contains around.back y → ⊥
      later y is behind =
          let rest = parts_at around.back y behind in
          let both = and_parts (settles y.kind) (settled_id y == settled_id e) is in
          let same : settled_id y ≡ settled_id e = eqb-true (settled_id y) (settled_id e) both.1 in
          let split : all ≡ (around.front ++ e ∷ rest.front) ++ y ∷ rest.back =
          around.whole ∙ ap (λ (es : List Event). around.front ++ e ∷ es) rest.whole
          ∙ sym (append_assoc around.front (e ∷ rest.front) (y ∷ rest.back)) in
          let follows_y = (event_follows (around.front ++ e ∷ rest.front) y rest.back
          (subst (λ (es : List Event). is_accepted es ≡ true) split accepted)).1 in
          let own : (settles e.kind && (settled_id e == settled_id y)) ≡ true =
          and_from (settles e.kind) (settled_id e == settled_id y) settling
          (eq-eqb (settled_id e) (settled_id y) (sym same)) in
          false≢true (sym follows_y.unsettled
          ∙ and_from (settles y.kind) (is_settled (around.front ++ e ∷ rest.front) (settled_id y)) both.0
          (settled_there (around.front ++ e ∷ rest.front) e (settled_id y)
          (Contains-append_right around.front (e ∷ rest.front) e (first_there e rest.front)) own))

  -- what it settles is open among what was applied
  open_here : (x : Event) → settles e.kind ≡ true → pending_event around.front (settled_id e) ≡ Some x
      → names e.debit_account.id x ≡ true → open_in applied (settled_id e) ≡ Some x
  open_here x settling x_is named =
      let in_front = find_all (is_pending (settled_id e)) (Contains around.front) around.front x
      (each_from (Contains around.front) around.front (λ y y_there. y_there)) x_is in
      let x_known = each_has (Contains all) around.front x (front_inside all applied e accepted held_all there)
      in_front.1 in
      let x_applied = was_applied all applied e accepted held_all there e.debit_account.id debit_new debit_whole x
      in_front.1 named in
      stays_open (settled_id e) applied None x in_front.0
      (each_from (λ y. is_pending (settled_id e) y ≡ true → y ≡ x) applied (λ y y_applied y_is.
      ap (λ (o : Option Event). unwrap_or o y)
      (sym (found all y (settled_id e) accepted (each_has (Contains all) applied y held_all.inside y_applied) y_is)
      ∙ found all x (settled_id e) accepted x_known in_front.0)))
      (each_from (λ y. (settles y.kind && (settled_id y == settled_id e)) ≡ false) applied (λ y y_applied.
      none_settles y y_applied settling)) (inr x_applied)

  same_open : open_one applied e ≡ settled_event around.front e
  same_open = by (settles e.kind) refl (pending_event around.front (settled_id e)) refl
    where
      by : (b : Bool) → settles e.kind ≡ b → (o : Option Event) → pending_event around.front (settled_id e) ≡ o
          → open_one applied e ≡ settled_event around.front e
      by false is o o_is =
          ap (λ b. if b then open_in applied (settled_id e) else None) is
          ∙ sym (ap (λ b. if b then open_event around.front (settled_id e) else None) is)
      by true is None o_is =
          absurd (false≢true (sym can.pending
          ∙ ap₂ (λ b (o : Option Event). b && is_none (option_map (λ (x : Event). x.transfer.amount) o)) is o_is))
      by true is (Some x) o_is =
          let unsettled : is_settled around.front (settled_id e) ≡ false =
          sym (ap (λ b. b && is_settled around.front (settled_id e)) is) ∙ can.unsettled in
          let settled : settled_event around.front e ≡ Some x =
          ap (λ b. if b then open_event around.front (settled_id e) else None) is
          ∙ ap₂ (λ b (o : Option Event). if b then None else o) unsettled o_is in
          let named = settles_own around.front e x can is o_is in
          ap (λ b. if b then open_in applied (settled_id e) else None) is ∙ open_here x is o_is named ∙ sym settled

  -- so it is applied
  pub is_redelivered : is_applicable applied e ≡ true
  unfolding is_applicable
  is_redelivered =
      let d = same_balances all applied e accepted held_all there e.debit_account.id debit_new debit_whole in
      let c = same_balances all applied e accepted held_all there e.credit_account.id credit_new credit_whole in
      let step = front_step all applied e accepted held_all there in
      let known = known_open (settles e.kind) (is_settled around.front (settled_id e))
      (pending_event around.front (settled_id e)) can.pending can.unsettled in
      let pending : Option Event = open_one applied e in
      let one : (settles e.kind && is_none pending) ≡ false =
      ap (λ (o : Option Event). settles e.kind && is_none o) same_open ∙ known.0 in
      let amount = amount_same all applied e accepted held_all.inside one in
      let settling : NoneApplies (settling_lines pending e) =
      subst (λ (o : Option Event). NoneApplies (settling_lines o e)) (sym same_open) can.settling in
      let none : NoneApplies (account_rules applied e) =
      none_of_both (pending_lines pending e)
      (sums_lines pending (balances_after applied e.debit_account.id) (balances_after applied e.credit_account.id) e)
      (one, settling)
      (none_of_both
      (account_lines e.debit_account (balances_after applied e.debit_account.id) (amounts_by pending e) nothing)
      (account_lines e.credit_account (balances_after applied e.credit_account.id) nothing (amounts_by pending e)) (
        balanced _ _ _ _ (omega (arith, amount, d.debits_pending, step.debited.debits_pending)),
        (
          balanced _ _ _ _ (omega (arith, d.debits_posted, step.debited.debits_posted)),
          (
            balanced _ _ _ _ (omega (arith, d.credits_pending, step.debited.credits_pending)),
            (balanced _ _ _ _ (omega (arith, d.credits_posted, step.debited.credits_posted)), tt),
          ),
        ),
      ) (
        balanced _ _ _ _ (omega (arith, c.debits_pending, step.credited.debits_pending)),
        (
          balanced _ _ _ _ (omega (arith, c.debits_posted, step.credited.debits_posted)),
          (
            balanced _ _ _ _ (omega (arith, amount, c.credits_pending, step.credited.credits_pending)),
            (balanced _ _ _ _ (omega (arith, c.credits_posted, step.credited.credits_posted)), tt),
          ),
        ),
      )) in
      and_from (is_new applied e) (is_none (first_line (account_rules applied e)))
      (and_from (nat_lt (last_of applied e.debit_account.id) e.timestamp)
      (nat_lt (last_of applied e.credit_account.id) e.timestamp)
      (lt-ltb (last_of applied e.debit_account.id) e.timestamp debit_new)
      (lt-ltb (last_of applied e.credit_account.id) e.timestamp credit_new))
      (ap (λ (o : Option Refusal). is_none o) (no_first_line (account_rules applied e) none))

fold_push : {S X : Type 0} (f : S → X → S) (s : S) (xs : List X) (x : X) → fold f s (xs ++ x ∷ []) ≡ f (fold f s xs) x
fold_push f s [] x = refl
fold_push f s (y ∷ xs) x = fold_push f (f s y) xs x

pub the_next_event_is_applied : TheNextEventIsApplied
the_next_event_is_applied h received e legal inside there debit credit =
    fold_push next_checked [] received e
    ∙ ap (λ b. if b then checked received ++ e ∷ [] else checked received)
    (is_redelivered (events h) (checked received) e (accepted_events h legal) (checked_holds h received legal inside)
    there debit.later credit.later debit.whole credit.whole)
