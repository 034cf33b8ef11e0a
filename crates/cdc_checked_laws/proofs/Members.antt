-- Elements of lists, and of rising ones.
use Rattle.std.proofs.Common.{◌≡◌, ℕ, ◌<◌, Bool, true, false, List, [], ◌∷◌, ◌++◌, refl, sym, ap, ap₂, ◌∙◌, inl, inr, arith}
use Rattle.std.specs.Prelude.{◌⊎◌, ◌==◌, ◌||◌, Contains, filter, if◌then◌else◌}
use Rattle.std.specs.List.{AllByRecursion}
use Rattle.std.proofs.lemmas.Bool.{eq-eqb, or_left, or_right}
use Rattle.std.proofs.lemmas.List.Elements.{All-contains, Contains-append_cases, Contains-append_left, Contains-append_right, Contains-push, Contains-push_cases}
use Rattle.std.proofs.lemmas.List.Folds.{list_any-append}
use Rattle.cdc_types.specs.declared.events.Event.{Event}
use Rattle.cdc_types.specs.Timestamps.{RiseFrom}
use Rattle.cdc_types.proofs.Rising.{RiseFrom-above}
use Rattle.cdc_checked_laws.specs.Laws.{has_event_at}

-- ---- elements

pub none_there : {X : Type 0} (x : X) → Contains [] x → ⊥
none_there x there = omega (arith, there.1)

-- the first one, or one of the others
pub cons_cases : {X : Type 0} (x : X) (xs : List X) (y : X) → Contains (x ∷ xs) y → (x ≡ y) ⊎ Contains xs y
cons_cases x xs y there =
    elim (Contains-append_cases (x ∷ []) xs y there) [
      | inl here ↦
          elim (Contains-push_cases [] x y here) [ inl nowhere ↦ absurd (none_there y nowhere) | inr is ↦ inl is ]
      | inr later ↦ inr later
    ]

pub first_there : {X : Type 0} (x : X) (xs : List X) → Contains (x ∷ xs) x
first_there x xs = Contains-append_left (x ∷ []) xs x (Contains-push [] x)

pub later_there : {X : Type 0} (x : X) (xs : List X) (y : X) → Contains xs y → Contains (x ∷ xs) y
later_there x xs y there = Contains-append_right (x ∷ []) xs y there

-- what holds of each element
pub each_has : {X : Type 0} (P : X → Type 0) (xs : List X) (x : X) → AllByRecursion P xs → Contains xs x → P x
each_has P [] x all there = absurd (none_there x there)
each_has P (y ∷ xs) x all there =
    elim (cons_cases y xs x there) [
      | inl is ↦ rw is at all.0
      | inr later ↦ each_has P xs x all.1 later
    ]

pub each_from : {X : Type 0} (P : X → Type 0) (xs : List X) → ((x : X) → Contains xs x → P x) → AllByRecursion P xs
each_from P [] all = tt
each_from P (y ∷ xs) all =
    (all y (first_there y xs), each_from P xs (λ x there. all x (later_there y xs x there)))

-- a list in two parts around an element
pub record Parts {X : Type 0} (xs : List X) (x : X) : Type 0 where
  pub front : List X
  pub back : List X
  pub whole : xs ≡ front ++ x ∷ back

pub parts_at : {X : Type 0} (xs : List X) (x : X) → Contains xs x → Parts xs x
parts_at [] x there = absurd (none_there x there)
parts_at (y ∷ xs) x there =
    elim (cons_cases y xs x there) [
      | inl is ↦ record { front = []; back = xs; whole = ap (λ z. z ∷ xs) is }
      | inr later ↦
          let rest = parts_at xs x later in
          record { front = y ∷ rest.front; back = rest.back; whole = ap (λ zs. y ∷ zs) rest.whole }
    ]

-- ---- events by their timestamps

-- an element is above
pub above : (t : ℕ) (es : List Event) (e : Event) → RiseFrom t es → Contains es e → t < e.timestamp
above t es e rise there = All-contains (λ x. t < x.timestamp) es e (RiseFrom-above t es rise) there

-- rising events with the same timestamp are one
pub same_time : (t : ℕ) (es : List Event) (e f : Event) → RiseFrom t es → Contains es e → Contains es f
    → e.timestamp ≡ f.timestamp → e ≡ f
same_time t [] e f rise e_there f_there same = absurd (none_there e e_there)
same_time t (x ∷ es) e f rise e_there f_there same =
    elim (cons_cases x es e e_there) [
      | inl e_is ↦ elim (cons_cases x es f f_there) [
        | inl f_is ↦ sym e_is ∙ f_is
        | inr f_later ↦
            let more = above x.timestamp es f rise.1 f_later in
            let equal = ap (λ (y : Event). y.timestamp) e_is in absurd (omega (arith, more, equal, same))
      ]
      | inr e_later ↦ elim (cons_cases x es f f_there) [
        | inl f_is ↦
            let more = above x.timestamp es e rise.1 e_later in
            let equal = ap (λ (y : Event). y.timestamp) f_is in absurd (omega (arith, more, equal, same))
        | inr f_later ↦ same_time x.timestamp es e f rise.1 e_later f_later same
      ]
    ]

-- one more event
pub has_event_at-push : (es : List Event) (e : Event) (t : ℕ)
    → has_event_at (es ++ e ∷ []) t ≡ (has_event_at es t || (e.timestamp == t))
has_event_at-push es e t =
    list_any-append (λ x. x.timestamp == t) es (e ∷ [])
    ∙ ap (λ b. has_event_at es t || b) (or_false (e.timestamp == t))
  where
    or_false : (b : Bool) → (b || false) ≡ b
    or_false true = refl
    or_false false = refl

-- each event has its own timestamp
pub has_own : (es : List Event) (e : Event) → Contains es e → has_event_at es e.timestamp ≡ true
has_own [] e there = absurd (none_there e there)
has_own (x ∷ es) e there =
    elim (cons_cases x es e there) [
      | inl is ↦
          or_left (x.timestamp == e.timestamp) (has_event_at es e.timestamp)
          (eq-eqb x.timestamp e.timestamp (ap (λ (y : Event). y.timestamp) is))
      | inr later ↦ or_right (x.timestamp == e.timestamp) (has_event_at es e.timestamp) (has_own es e later)
    ]

-- tests that agree on each element keep the same
pub filter_same : {X : Type 0} (p q : X → Bool) (xs : List X) → AllByRecursion (λ x. p x ≡ q x) xs
    → filter p xs ≡ filter q xs
filter_same p q [] all = refl
filter_same {X} p q (x ∷ xs) all =
    ap₂ (λ (b : Bool) (ys : List X). if b then x ∷ ys else ys) all.0 (filter_same p q xs all.1)
