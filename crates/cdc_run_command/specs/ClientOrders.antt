-- An order of clients, together with each client's share.
use Rattle.std.specs.Prelude.{◌≡◌, ◌==◌, ℕ, ◌+◌, ◌≤◌, List, Some, All, filter, length, slice_get}

-- how often this client occurs in an order
abbrev pub times_in : ℕ → List ℕ → ℕ
times_in client order = length (filter (λ c. c == client) order)

-- an order of clients, in which each occurs as often as its share has elements
pub record IsOrderOf {X : Type 0} (order : List ℕ) (shares : List (List X)) : Type 0 where
  pub known : All (λ client. (1 ≤ client) × (client ≤ length shares)) order
  pub each : (place : ℕ) (share : List X) → slice_get shares place ≡ Some share
      → length share ≡ times_in (place + 1) order
