-- The faults that a run is to meet.
use Rattle.std.specs.Prelude.{◌≡◌, ◌==◌, ◌&&◌, ℕ, ◌≤◌, nat_le, Option, Some, None, List, [], All, Contains, filter, map}
use Rattle.cdc_plans.specs.declared.faults.Faults.{Faults}

-- it has none
pub record HasNoFaults (faults : Faults) : Type 0 where
  pub confirms : faults.lose_confirm.items ≡ []
  pub publishes : faults.lose_publish.items ≡ []
  pub restarts : faults.restart_after.items ≡ []
  pub repeats : faults.repeat.items ≡ []
  pub closes : faults.close.items ≡ []

-- the numbers from 1 up that are given for a subscriber
abbrev pub closes_of : ℕ → List (ℕ × ℕ) → List ℕ
closes_of subscriber closes = map (λ c. c.1) (filter (λ c. (c.0 == subscriber) && nat_le 1 c.1) closes)

-- the least of some numbers, if there is one
abbrev pub IsLeast : List ℕ → Option ℕ → Type 0
IsLeast numbers (Some n) = Contains numbers n × All (λ m. n ≤ m) numbers
IsLeast numbers None = numbers ≡ []

-- the least number from 1 up that is given for a subscriber, if one is
abbrev pub IsLeastClose : ℕ → List (ℕ × ℕ) → Option ℕ → Type 0
IsLeastClose subscriber closes least = IsLeast (closes_of subscriber closes) least
