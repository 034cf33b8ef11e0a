-- Of each account the applied events that moved posted money are the first ones of the ledger that did.
use Rattle.std.proofs.Common.{◌≡◌, ◌≢◌, ℕ, ◌<◌, Bool, true, false, not, List, [], ◌∷◌, refl, sym, ap, ap₂, ◌∙◌, subst, inl, inr, arith}
use Rattle.std.specs.Prelude.{◌==◌, ◌&&◌, nat_lt, Contains, filter, sum_by, if◌then◌else◌}
use Rattle.std.proofs.lemmas.Bool.{and_from, and_parts, cases_Bool, eq-eqb, eqb-true, false≢true, lt-ltb, not-true, not_from_false, or_cases}
use Rattle.std.proofs.lemmas.List.Elements.{All-contains, All-contains_itself, All-filter, filter_passes}
use Rattle.std.proofs.lemmas.List.Sums.{sum_by-cons}
use Rattle.cdc_types.specs.declared.events.Event.{Event}
use Rattle.cdc_types.specs.Timestamps.{RiseFrom}
use Rattle.cdc_types.proofs.Rising.{RiseFrom-filter}
use Rattle.cdc_ledger.specs.Events.{events}
use Rattle.cdc_message.specs.Replays.{IsPrefix}
use Rattle.cdc_audit.specs.Audits.{is_accepted}
use Rattle.cdc_audit.specs.Rules.{posted}
use Rattle.cdc_audit_laws.proofs.Streams.{accepted_events_rise}
use Rattle.cdc_checked.specs.Checked.{checked, names}
use Rattle.cdc_checked_laws.specs.Laws.{CheckedMovementsAreAPrefix, has_event_at, is_missed, missed, moves_of}
use Rattle.cdc_checked_laws.proofs.Kept.{Holds}
use Rattle.cdc_checked_laws.proofs.Members.{above, cons_cases, each_has, first_there, has_own, later_there, none_there, same_time}
use Rattle.cdc_checked_laws.proofs.Missed.{accepted_events, checked_holds}
use Rattle.cdc_checked_laws.proofs.Steps.{names_side}

-- ---- filters

pub was_there : {X : Type 0} (p : X → Bool) (xs : List X) (x : X) → Contains (filter p xs) x → Contains xs x
was_there p xs x there =
    All-contains (Contains xs) (filter p xs) x (All-filter p (Contains xs) xs (All-contains_itself xs)) there

pub passes : {X : Type 0} (p : X → Bool) (xs : List X) (x : X) → Contains (filter p xs) x → p x ≡ true
passes p xs x there = All-contains (λ y. p y ≡ true) (filter p xs) x (filter_passes p xs) there

pub is_left : {X : Type 0} (p : X → Bool) (xs : List X) (x : X) → Contains xs x → p x ≡ true → Contains (filter p xs) x
is_left p [] x there pass = absurd (none_there x there)
is_left {X} p (y ∷ xs) x there pass =
    elim (cons_cases y xs x there) [
      | inl is ↦
          let kept : filter p (y ∷ xs) ≡ y ∷ filter p xs =
          ap (λ (b : Bool). if b then y ∷ filter p xs else filter p xs) (ap p is ∙ pass) in
          rw kept (0, omega arith, is)
      | inr later ↦ by (p y) (is_left p xs x later pass)
    ]
  where
    by : (b : Bool) → Contains (filter p xs) x → Contains (if b then y ∷ filter p xs else filter p xs) x
    by true rest = later_there y (filter p xs) x rest
    by false rest = rest

-- two tests, one after another
filter_both : {X : Type 0} (p q : X → Bool) (xs : List X) → filter (λ x. p x && q x) xs ≡ filter q (filter p xs)
filter_both p q [] = refl
filter_both {X} p q (x ∷ xs) = by (p x) (q x) refl (filter_both p q xs)
  where
    by : (a b : Bool) → q x ≡ b → filter (λ y. p y && q y) xs ≡ filter q (filter p xs)
        → (if a && b then x ∷ filter (λ y. p y && q y) xs else filter (λ y. p y && q y) xs)
        ≡ filter q (if a then x ∷ filter p xs else filter p xs)
    by true true is rest =
        ap (λ ys. x ∷ ys) rest ∙ sym (ap (λ c. if c then x ∷ filter q (filter p xs) else filter q (filter p xs)) is)
    by true false is rest =
        rest ∙ sym (ap (λ c. if c then x ∷ filter q (filter p xs) else filter q (filter p xs)) is)
    by false b is rest = rest

-- where a sum is 0, nothing adds to it
pub adds_nothing : {X : Type 0} (w : X → ℕ) (xs : List X) (x : X) → sum_by w xs ≡ 0 → Contains xs x → w x ≡ 0
adds_nothing w [] x none there = absurd (none_there x there)
adds_nothing w (y ∷ xs) x none there =
    let sum = sum_by-cons w y xs in
    elim (cons_cases y xs x there) [
      | inl is ↦ ap w (sym is) ∙ omega (arith, sum, none)
      | inr later ↦ adds_nothing w xs x (omega (arith, sum, none)) later
    ]

-- an event that has this timestamp
pub record EventAt (es : List Event) (t : ℕ) : Type 0 where
  pub event : Event
  pub there : Contains es event
  pub time : event.timestamp ≡ t

pub event_at : (es : List Event) (t : ℕ) → has_event_at es t ≡ true → EventAt es t
event_at [] t is = absurd (false≢true is)
event_at (x ∷ es) t is =
    elim (or_cases (x.timestamp == t) (has_event_at es t) is) [
      | inl here ↦ record { event = x; there = first_there x es; time = eqb-true x.timestamp t here }
      | inr later ↦
          let rest = event_at es t later in
          record { event = rest.event; there = later_there x es rest.event rest.there; time = rest.time }
    ]

-- ---- prefixes

-- of two rising lists one is a prefix of the other one, if it has only elements of it, and all that come before these
pub prefix_of : (s t : ℕ) (xs ys : List Event) → RiseFrom s xs → RiseFrom t ys
    → ((x : Event) → Contains xs x → Contains ys x)
    → ((x y : Event) → Contains xs x → Contains ys y → y.timestamp < x.timestamp → Contains xs y) → IsPrefix xs ys
prefix_of s t [] ys rise_xs rise_ys inside closed = record { rest = ys; whole = refl }
prefix_of s t (x ∷ xs) [] rise_xs rise_ys inside closed = absurd (none_there x (inside x (first_there x xs)))
prefix_of s t (x ∷ xs) (y ∷ ys) rise_xs rise_ys inside closed =
    let rest : IsPrefix xs ys = prefix_of x.timestamp y.timestamp xs ys rise_xs.1 rise_ys.1 rest_inside rest_closed in
    record { rest = rest.rest; whole = ap₂ (λ z zs. z ∷ zs) (sym first) rest.whole }
  where
    -- the first ones are the same
    first : y ≡ x
    first =
        elim (cons_cases y ys x (inside x (first_there x xs))) [
          | inl is ↦ is
          | inr later ↦
              let less = above y.timestamp ys x rise_ys.1 later in
              elim (cons_cases x xs y (closed x y (first_there x xs) (first_there y ys) less)) [
                | inl is ↦ sym is
                | inr behind ↦
                    let more = above x.timestamp xs y rise_xs.1 behind in absurd (omega (arith, less, more))
              ]
        ]

    rest_inside : (z : Event) → Contains xs z → Contains ys z
    rest_inside z there =
        elim (cons_cases y ys z (inside z (later_there x xs z there))) [
          | inl is ↦
              let more = above x.timestamp xs z rise_xs.1 there in
              let same = ap (λ (e : Event). e.timestamp) (sym first ∙ is) in absurd (omega (arith, more, same))
          | inr later ↦ later
        ]

    rest_closed : (z u : Event) → Contains xs z → Contains ys u → u.timestamp < z.timestamp → Contains xs u
    rest_closed z u z_there u_there less =
        elim (cons_cases x xs u (closed z u (later_there x xs z z_there) (later_there y ys u u_there) less)) [
          | inl is ↦
              let more = above y.timestamp ys u rise_ys.1 u_there in
              let same = ap (λ (e : Event). e.timestamp) (first ∙ is) in absurd (omega (arith, more, same))
          | inr later ↦ later
        ]

-- ---- what was applied

module _ (all applied : List Event) (id : ℕ) (accepted : is_accepted all ≡ true) (holds : Holds all applied) where
  rise : RiseFrom 0 all
  rise = accepted_events_rise all accepted

  -- what moved money before an applied event of the account was applied
  closed : (x y : Event) → Contains (filter (moves_of id) applied) x → Contains (filter (moves_of id) all) y
      → y.timestamp < x.timestamp → Contains (filter (moves_of id) applied) y
  closed x y x_there y_there less =
      is_left (moves_of id) applied y (elim (cases_Bool (has_event_at applied y.timestamp)) [
        | inl at ↦
            let other = event_at applied y.timestamp at in
            let other_known = each_has (Contains all) applied other.event holds.inside other.there in
            subst (Contains applied) (same_time 0 all other.event y rise other_known y_known other.time) other.there
        | inr missing ↦
            let lost : is_missed applied id x.timestamp y ≡ true =
            and_from (names id y) (nat_lt y.timestamp x.timestamp && not (has_event_at applied y.timestamp))
            y_parts.0 (and_from (nat_lt y.timestamp x.timestamp) (not (has_event_at applied y.timestamp))
            (lt-ltb y.timestamp x.timestamp less) (not_from_false (has_event_at applied y.timestamp) missing)) in
            let y_missed = is_left (is_missed applied id x.timestamp) all y y_known lost in
            let nothing =
            holds.nothing x (each_has (Contains all) applied x holds.inside x_applied) (has_own applied x x_applied) id
            (and_parts (names id x) (not (posted x == 0)) (passes (moves_of id) applied x x_there)).0 in
            let debit = adds_nothing (λ e. if e.debit_account.id == id then posted e else 0)
            (missed all applied id x.timestamp) y nothing.debits y_missed in
            let credit = adds_nothing (λ e. if e.credit_account.id == id then posted e else 0)
            (missed all applied id x.timestamp) y nothing.credits y_missed in
            absurd (moved (elim (names_side id y y_parts.0) [
              | inl is ↦ sym (ap (λ b. if b then posted y else 0) (eq-eqb y.debit_account.id id is)) ∙ debit
              | inr is ↦ sym (ap (λ b. if b then posted y else 0) (eq-eqb y.credit_account.id id is)) ∙ credit
            ]))
      ]) y_moves
    where
      y_known : Contains all y
      y_known = was_there (moves_of id) all y y_there

      y_moves : moves_of id y ≡ true
      y_moves = passes (moves_of id) all y y_there

      y_parts : (names id y ≡ true) × (not (posted y == 0) ≡ true)
      y_parts = and_parts (names id y) (not (posted y == 0)) y_moves

      moved : posted y ≢ 0
      moved none = false≢true (sym (not-true (posted y == 0) y_parts.1) ∙ eq-eqb (posted y) 0 none)

      x_applied : Contains applied x
      x_applied = was_there (moves_of id) applied x x_there

  pub movements_are_a_prefix : IsPrefix (filter (moves_of id) applied) (filter (moves_of id) all)
  movements_are_a_prefix =
      prefix_of 0 0 (filter (moves_of id) applied) (filter (moves_of id) all)
      (subst (RiseFrom 0) (sym (filter_both (names id) (λ e. not (posted e == 0)) applied))
      (RiseFrom-filter (λ e. not (posted e == 0)) 0 (filter (names id) applied) (holds.rises id)))
      (RiseFrom-filter (moves_of id) 0 all rise)
      (λ x there. is_left (moves_of id) all x
      (each_has (Contains all) applied x holds.inside (was_there (moves_of id) applied x there))
      (passes (moves_of id) applied x there)) closed

pub checked_movements_are_a_prefix : CheckedMovementsAreAPrefix
checked_movements_are_a_prefix h received id legal inside =
    movements_are_a_prefix (events h) (checked received) id (accepted_events h legal)
    (checked_holds h received legal inside)
