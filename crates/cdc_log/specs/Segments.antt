-- The segments that a log keeps its events in, of which no clause of a public call speaks.
use Rattle.std.specs.Prelude.{◌≡◌, ℕ, ◌-◌, ◌*◌, ◌^◌, ◌≤◌, Bool, false, nat_le, min, List, [], ◌∷◌, length}
use Rattle.std.specs.List.{flat_map}
use Rattle.cdc_types.specs.declared.events.Event.{Event}
use Rattle.cdc_types.specs.Timestamps.{RiseFrom}

-- the events of all segments
abbrev pub joined : List (List Event) → List Event
joined segments = flat_map (λ s. s) segments

-- so many events fill the segments one after another: each has 1,024 while there are as many left, the next one has the
-- rest, and later ones have none
abbrev pub AreFilled : ℕ → List (List Event) → Type 0
AreFilled n [] = n ≡ 0
AreFilled n (s ∷ segments) = (length s ≡ min n 1024) × AreFilled (n - 1024) segments

-- there is a first event, and it is no later than the timestamp t
abbrev pub begins_by : ℕ → List Event → Bool
begins_by t [] = false
begins_by t (e ∷ events) = nat_le e.timestamp t

-- the segments have so many events, which rise, and room for no more than can be counted
pub record IsKept (segments : List (List Event)) (count : ℕ) : Type 0 where
  pub filled : AreFilled count segments
  pub rising : RiseFrom 0 (joined segments)
  pub countable : 1024 * length segments ≤ 2 ^ 63
