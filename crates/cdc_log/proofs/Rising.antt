-- A rising list of events, and its part that is later than a timestamp.
use Rattle.std.proofs.Common.{◌≡◌, ℕ, suc, ◌<◌, List, [], ◌∷◌, refl, arith, zero, true, false, cond, nat_lt, nat_le, drop, sym, ap, ◌∙◌}
use Rattle.std.specs.List.Sorted.{IsNonDecreasingBy, IsPartitionPoint}
use Rattle.std.proofs.lemmas.Bool.Decides.{nat_tests}
use Rattle.std.proofs.lemmas.List.Elements.{All-get_or}
use Rattle.cdc_types.specs.declared.events.Event.{Event}
use Rattle.cdc_types.specs.Timestamps.{RiseFrom}
use Rattle.cdc_types.proofs.Rising.{RiseFrom-above}
use Rattle.cdc_log.specs.Log.{events_after}

-- the timestamps of a rising list don't fall
pub IsNonDecreasingBy-rising : (t : ℕ) (es : List Event) → RiseFrom t es → IsNonDecreasingBy (λ e. e.timestamp) es
IsNonDecreasingBy-rising t [] rising i j d below within = absurd (omega arith)
IsNonDecreasingBy-rising t (x ∷ es) rising zero zero d below within = omega arith
IsNonDecreasingBy-rising t (x ∷ es) rising zero (suc j) d below within =
    let all_later = RiseFrom-above x.timestamp es rising.1 in
    let later = All-get_or (λ e. x.timestamp < e.timestamp) es j d (omega arith) all_later in
    omega arith
IsNonDecreasingBy-rising t (x ∷ es) rising (suc i) zero d below within = absurd (omega arith)
IsNonDecreasingBy-rising t (x ∷ es) rising (suc i) (suc j) d below within =
    IsNonDecreasingBy-rising x.timestamp es rising.1 i j d (omega arith) (omega arith)

-- a timestamp that isn't up to another is later than it
not_up_to : (n t : ℕ) → nat_le n t ≡ false → nat_lt t n ≡ true
not_up_to n t later = grind (arith, nat_tests)

-- conversely, a timestamp up to another isn't later than it
not_later : (n t : ℕ) → nat_le n t ≡ true → nat_lt t n ≡ false
not_later n t up_to = grind (arith, nat_tests)

-- from a place before which no event is later than t, and from which on all are, they are all that are
pub drop-events_after : (t : ℕ) (es : List Event) (place : ℕ)
    → IsPartitionPoint (λ e. nat_le e.timestamp t ≡ true) (λ e. nat_le e.timestamp t ≡ false) es place
    → drop place es ≡ events_after t es
drop-events_after t [] zero parts = refl
drop-events_after t [] (suc place) parts = refl
drop-events_after t (x ∷ es) zero parts =
    let here : nat_lt t x.timestamp ≡ true = not_up_to x.timestamp t (parts.1 0 x (omega arith) (omega arith)) in
    let rest : drop 0 es ≡ events_after t es =
    drop-events_after t es zero
    (λ k d low high. absurd (omega arith), λ k d low high. parts.1 (suc k) d (omega arith) (omega arith)) in
    ap (λ later. x ∷ later) rest ∙ sym (ap (λ b. cond b (x ∷ events_after t es) (events_after t es)) here)
drop-events_after t (x ∷ es) (suc place) parts =
    let here : nat_lt t x.timestamp ≡ false = not_later x.timestamp t (parts.0 0 x (omega arith) (omega arith)) in
    let rest : drop place es ≡ events_after t es =
    drop-events_after t es place (
      λ k d low high. parts.0 (suc k) d (omega arith) (omega arith),
      λ k d low high. parts.1 (suc k) d (omega arith) (omega arith),
    ) in
    rest ∙ sym (ap (λ b. cond b (x ∷ events_after t es) (events_after t es)) here)
