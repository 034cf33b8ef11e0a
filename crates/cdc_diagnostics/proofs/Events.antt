-- How an event is found in a log by its timestamp, and how many are no later than one.
use Rattle.cdc_diagnostics.proofs.Words.{Bool, Event, List, None, Option, Some, [], ap, arith, cond, drop, event_at, events_after, false, inl, inr, left_out, length, length-drop, nat_eq, nat_le, nat_lt, ne_eqb, not, refl, slice_get, suc, sym, true, zero, ℕ, ◌-◌, ◌<◌, ◌∙◌, ◌∷◌, ◌≡◌, ◌≤◌, ◌⊎◌}
use Rattle.std.proofs.lemmas.Bool.Decides.{nat_tests}
use Rattle.std.proofs.lemmas.List.Sums.{length-filter}
use Rattle.std.proofs.lemmas.List.Filters.{length-filter_both}
use Rattle.cdc_types.specs.Timestamps.{last_timestamp_from, RiseFrom}

-- ---- the event of a timestamp

-- an event of another timestamp isn't it
pub event_at-other : (t : ℕ) (e : Event) (es : List Event) → nat_eq e.timestamp t ≡ false
    → event_at t (e ∷ es) ≡ event_at t es
event_at-other t e es other = ap (λ b. cond b (Some e) (event_at t es)) other

-- the first event of that timestamp is it
pub event_at-same : (t : ℕ) (e : Event) (es : List Event) → nat_eq e.timestamp t ≡ true
    → event_at t (e ∷ es) ≡ Some e
event_at-same t e es same = ap (λ b. cond b (Some e) (event_at t es)) same

-- a list that rises from a timestamp has no event of it, or of one before it
pub event_at-before : (from t : ℕ) (es : List Event) → RiseFrom from es → t ≤ from → event_at t es ≡ None
event_at-before from t [] rising before = refl
event_at-before from t (e ∷ es) rising before =
    event_at-other t e es (ne_eqb e.timestamp t (λ same. absurd (omega (arith, rising.0))))
    ∙ event_at-before e.timestamp t es rising.1 (omega (arith, rising.0))

-- nor has it one of a timestamp after its last
pub event_at-after : (from t : ℕ) (es : List Event) → RiseFrom from es → last_timestamp_from from es < t
    → event_at t es ≡ None
event_at-after from t [] rising after = refl
event_at-after from t (e ∷ es) rising after =
    let last : e.timestamp ≤ last_timestamp_from e.timestamp es = last-above e.timestamp es rising.1 in
    event_at-other t e es (ne_eqb e.timestamp t (λ same. absurd (omega arith)))
    ∙ event_at-after e.timestamp t es rising.1 after
  where
    last-above : (from : ℕ) (es : List Event) → RiseFrom from es → from ≤ last_timestamp_from from es
    last-above from [] rising = omega arith
    last-above from (e ∷ es) rising = omega (arith, rising.0, last-above e.timestamp es rising.1)

-- the first event of a list, if it has this timestamp
abbrev pub first_at : ℕ → List Event → Option Event
first_at t [] = None
first_at t (e ∷ es) = cond (nat_eq e.timestamp t) (Some e) None

-- the first event is the one of its timestamp, or there is none
pub first_at-found : (t : ℕ) (e : Event) (es : List Event) (b : Bool) → nat_eq e.timestamp t ≡ b
    → event_at t es ≡ None → cond b (Some e) None ≡ cond b (Some e) (event_at t es)
first_at-found t e es true same none = refl
first_at-found t e es false same none = sym none

-- a timestamp that is above 0 and isn't later than the one before t isn't t
pub not_at : (from n t : ℕ) → from < n → nat_lt (t - 1) n ≡ false → nat_eq n t ≡ false
not_at from n t above early = grind (arith, nat_tests)

-- a timestamp that is later than the one before t isn't earlier than t
pub not_earlier : (n t : ℕ) → nat_lt (t - 1) n ≡ true → t ≤ n
not_earlier n t later = grind (arith, nat_tests)

-- in a rising list the event of a timestamp is the first of those later than the timestamp before it
pub first_at-later : (from t : ℕ) (es : List Event) → RiseFrom from es
    → first_at t (events_after (t - 1) es) ≡ event_at t es
first_at-later from t [] rising = refl
first_at-later from t (e ∷ es) rising =
    let rest : first_at t (events_after (t - 1) es) ≡ event_at t es = first_at-later e.timestamp t es rising.1 in
    elim (lt_or_not (nat_lt (t - 1) e.timestamp)) [
      | inl later ↦
          ap (λ b. first_at t (cond b (e ∷ events_after (t - 1) es) (events_after (t - 1) es))) later
          ∙ first_at-found t e es (nat_eq e.timestamp t) refl
          (event_at-before e.timestamp t es rising.1 (not_earlier e.timestamp t later))
      | inr early ↦
          ap (λ b. first_at t (cond b (e ∷ events_after (t - 1) es) (events_after (t - 1) es))) early
          ∙ (rest ∙ sym (event_at-other t e es (not_at from e.timestamp t rising.0 early)))
    ]
  where
    lt_or_not : (b : Bool) → (b ≡ true) ⊎ (b ≡ false)
    lt_or_not true = inl refl
    lt_or_not false = inr refl

-- an event, if it has this timestamp
abbrev pub checked : ℕ → Option Event → Option Event
checked t None = None
checked t (Some e) = cond (nat_eq e.timestamp t) (Some e) None

-- the first of what is left from a place is what stands there
pub first_at-drop : (t place : ℕ) (es : List Event) → first_at t (drop place es) ≡ checked t (slice_get es place)
first_at-drop t zero [] = refl
first_at-drop t (suc place) [] = refl
first_at-drop t zero (x ∷ es) = refl
first_at-drop t (suc place) (x ∷ es) = first_at-drop t place es

-- so the event of a timestamp stands at the first place after the timestamp before it, or nowhere
pub event_at-place : (t before place : ℕ) (es : List Event) (found : Option Event) → RiseFrom 0 es → before ≡ t - 1
    → drop place es ≡ events_after before es → found ≡ slice_get es place → checked t found ≡ event_at t es
event_at-place t before place es found rising is parts here =
    ap (checked t) here ∙ (sym (first_at-drop t place es) ∙ (ap (first_at t) parts
    ∙ (ap (λ n. first_at t (events_after n es)) is ∙ first_at-later 0 t es rising)))

-- ---- the events that aren't later

-- the place from which on events are later than a timestamp is the number of those that aren't
pub left_out-place : (t place : ℕ) (es : List Event) → place ≤ length es → drop place es ≡ events_after t es
    → place ≡ left_out t es
left_out-place t place es within parts =
    let both = length-filter_both (λ (e : Event). nat_le e.timestamp t) (λ (e : Event). nat_lt t e.timestamp)
    (λ e. other e.timestamp) es in
    let early = length-filter (λ (e : Event). nat_le e.timestamp t) es in
    let left = sym (length-drop place es) ∙ ap length parts in
    omega (arith, both, early, left)
  where
    other : (n : ℕ) → nat_lt t n ≡ not (nat_le n t)
    other n = grind (arith, nat_tests)
