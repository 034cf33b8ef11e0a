-- Laws of a list of events and its last timestamp, for lists that rise and for any list.
use Rattle.std.proofs.Common.{◌≡◌, ℕ, suc, zero, ◌-◌, ◌<◌, ◌≤◌, Bool, true, false, List, [], ◌∷◌, ◌++◌, length, filter, refl, arith, sub-one}
use Rattle.std.specs.Prelude.{Some, slice_get, All, if◌then◌else◌}
use Rattle.cdc_types.specs.declared.events.Event.{Event}
use Rattle.cdc_types.specs.Timestamps.{last_timestamp_from, last_timestamp, RiseFrom}

-- a push makes its event the last one
pub last_timestamp_from-push : (t : ℕ) (es : List Event) (e : Event)
    → last_timestamp_from t (es ++ e ∷ []) ≡ e.timestamp
last_timestamp_from-push t [] e = refl
last_timestamp_from-push t (x ∷ es) e = last_timestamp_from-push x.timestamp es e

-- the last timestamp of a list is the timestamp of the event at its last index
last_timestamp_from-cons : (t : ℕ) (x : Event) (es : List Event) (e : Event) → slice_get (x ∷ es) (length es) ≡ Some e
    → last_timestamp_from t (x ∷ es) ≡ e.timestamp
last_timestamp_from-cons t x [] e found = cc
last_timestamp_from-cons t x (y ∷ es) e found = last_timestamp_from-cons x.timestamp y es e found

-- so the last timestamp of a list can be read at its last place
pub last_timestamp_from-slice_get : (es : List Event) (e : Event) → slice_get es (length es - 1) ≡ Some e
    → last_timestamp es ≡ e.timestamp
last_timestamp_from-slice_get [] e found = cc
last_timestamp_from-slice_get (x ∷ es) e found = last_timestamp_from-cons 0 x es e (rw sub-one at found)

-- a later event keeps the list rising
pub RiseFrom-push : (t : ℕ) (es : List Event) (e : Event) → RiseFrom t es → last_timestamp_from t es < e.timestamp
    → RiseFrom t (es ++ e ∷ [])
RiseFrom-push t [] e rising later = (later, tt)
RiseFrom-push t (x ∷ es) e rising later = (rising.0, RiseFrom-push x.timestamp es e rising.1 later)

-- a list that rises from a timestamp rises from any earlier one
pub RiseFrom-earlier : (s t : ℕ) (es : List Event) → s ≤ t → RiseFrom t es → RiseFrom s es
RiseFrom-earlier s t [] before rising = tt
RiseFrom-earlier s t (e ∷ es) before rising = (omega (arith, rising.0), rising.1)

-- a rising list still rises after some of its events are filtered out
pub RiseFrom-filter : (p : Event → Bool) (t : ℕ) (es : List Event) → RiseFrom t es → RiseFrom t (filter p es)
RiseFrom-filter p t [] rising = tt
RiseFrom-filter p t (e ∷ es) rising = kept_or_not (p e) (RiseFrom-filter p e.timestamp es rising.1)
  where
    kept_or_not : (b : Bool) → RiseFrom e.timestamp (filter p es)
        → RiseFrom t (if b then e ∷ filter p es else filter p es)
    kept_or_not true rest = (rising.0, rest)
    kept_or_not false rest = RiseFrom-earlier t e.timestamp (filter p es) (omega (arith, rising.0)) rest

-- every event of a rising list is later than the timestamp that the list rises from
pub RiseFrom-above : (t : ℕ) (es : List Event) → RiseFrom t es → All (λ e. t < e.timestamp) es
RiseFrom-above t [] rising k d below = absurd (omega arith)
RiseFrom-above t (e ∷ es) rising zero d below = rising.0
RiseFrom-above t (e ∷ es) rising (suc k) d below =
    omega (arith, rising.0, RiseFrom-above e.timestamp es rising.1 k d (omega arith))
