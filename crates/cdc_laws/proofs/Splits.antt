-- A rising list of events, cut at a timestamp.
use Rattle.std.proofs.Common.{◌≡◌, ℕ, ◌<◌, ◌≤◌, cond, List, [], ◌∷◌, ◌++◌, refl, sym, ap, ap₂, ◌∙◌, inl, inr, append_assoc, append-nil, arith}
use Rattle.std.specs.Prelude.{nat_lt}
use Rattle.std.specs.List.{AllByRecursion}
use Rattle.std.proofs.lemmas.Bool.{cases_lt, le-ltb, lt-ltb}
use Rattle.std.proofs.lemmas.List.Elements.{filter-append}
use Rattle.cdc_ledger.proofs.Elements.{AllByRecursion-weaker, AllByRecursion_push}
use Rattle.cdc_log.specs.Log.{RiseFrom, events_after}
use Rattle.cdc_types.specs.Timestamps.{last_timestamp_from}
use Rattle.cdc_types.specs.declared.events.Event.{Event}
use Rattle.cdc_laws.proofs.Rising.{RiseFrom-earlier, all_later}

-- the events of the front are up to the timestamp t, and those of the back are later and rise
pub record SplitsAt (es : List Event) (t : ℕ) (front back : List Event) : Type 0 where
  pub whole : es ≡ front ++ back
  pub low : AllByRecursion (λ e. e.timestamp ≤ t) front
  pub rise : RiseFrom t back

-- if all are later, all stay
pub events_after-all : (t : ℕ) (es : List Event) → AllByRecursion (λ e. t < e.timestamp) es → events_after t es ≡ es
events_after-all t [] later = refl
events_after-all t (e ∷ es) later =
    ap₂ (λ b more. cond b (e ∷ more) more) (lt-ltb t e.timestamp later.0) (events_after-all t es later.1)

-- if none is, none does
pub events_after-none : (t : ℕ) (es : List Event) → AllByRecursion (λ e. e.timestamp ≤ t) es → events_after t es ≡ []
events_after-none t [] low = refl
events_after-none t (e ∷ es) low =
    ap₂ (λ b more. cond b (e ∷ more) more) (le-ltb t e.timestamp low.0) (events_after-none t es low.1)

-- the events after a timestamp, among those after an earlier one, are all events after it
pub events_after-later : (s t : ℕ) → s ≤ t → (es : List Event) → events_after t (events_after s es) ≡ events_after t es
events_after-later s t early [] = refl
events_after-later s t early (e ∷ es) =
    elim (cases_lt s e.timestamp) [
      | inl late ↦
          rw (lt-ltb s e.timestamp late)
          (ap (λ more. cond (nat_lt t e.timestamp) (e ∷ more) more) (events_after-later s t early es))
      | inr low ↦
          rw (le-ltb s e.timestamp low, le-ltb t e.timestamp (omega (arith, early, low)))
          (events_after-later s t early es)
    ]

-- what follows a cut is what is later than its timestamp
pub events_after-split : (es : List Event) (t : ℕ) (front back : List Event) → SplitsAt es t front back
    → events_after t es ≡ back
events_after-split es t front back cut =
    ap (events_after t) cut.whole
    ∙ filter-append (λ (e : Event). nat_lt t e.timestamp) front back
    ∙ ap₂ (λ xs ys. xs ++ ys) (events_after-none t front cut.low) (events_after-all t back (all_later t back cut.rise))

-- every rising list can be cut at every timestamp
pub split_at : (t s : ℕ) (es : List Event) → RiseFrom s es
    → (front : List Event) × SplitsAt es t front (events_after t es)
split_at t s [] rise = ([], record { whole = refl; low = tt; rise = tt })
split_at t s (e ∷ es) rise =
    elim (cases_lt t e.timestamp) [
      | inl later ↦
          let low = RiseFrom-earlier t e.timestamp es (omega (arith, later)) rise.1 in
          rw (lt-ltb t e.timestamp later, events_after-all t es (all_later t es low))
          ([], record { whole = refl; low = tt; rise = (later, rise.1) })
      | inr early ↦
          let rest = split_at t e.timestamp es rise.1 in
          rw (le-ltb t e.timestamp early) (
            e ∷ rest.0,
            record {
              whole = ap (λ more. e ∷ more) rest.1.whole;
              low = (early, rest.1.low);
              rise = rest.1.rise;
            },
          )
    ]

-- the cut one event later
pub SplitsAt-next : (es : List Event) (t : ℕ) (front : List Event) (e : Event) (back : List Event)
    → SplitsAt es t front (e ∷ back) → SplitsAt es e.timestamp (front ++ e ∷ []) back
SplitsAt-next es t front e back cut = record {
  whole = cut.whole ∙ sym (append_assoc front (e ∷ []) back);
  low = AllByRecursion_push (λ x. x.timestamp ≤ e.timestamp) front e
      (AllByRecursion-weaker _ (λ x. x.timestamp ≤ e.timestamp) (λ x low. omega (arith, cut.rise.0)) front cut.low)
      (omega arith);
  rise = cut.rise.1;
}

-- the cut some events later
pub SplitsAt-later : (es : List Event) (t : ℕ) (front xs ys : List Event) → SplitsAt es t front (xs ++ ys)
    → SplitsAt es (last_timestamp_from t xs) (front ++ xs) ys
SplitsAt-later es t front [] ys cut = rw (append-nil front) cut
SplitsAt-later es t front (x ∷ xs) ys cut =
    rw (append_assoc front (x ∷ []) xs) at
    (SplitsAt-later es x.timestamp (front ++ x ∷ []) xs ys (SplitsAt-next es t front x (xs ++ ys) cut))
