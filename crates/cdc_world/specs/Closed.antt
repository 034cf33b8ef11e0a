-- What no step changes.
use Rattle.std.specs.Prelude.{◌≡◌, ℕ, true, Some}
use Rattle.cdc_world.specs.Worlds.{Subscription, WorldState, numbered}

-- a subscriber is the same one after a step: its binding stays, and so does all that it received once it is closed
pub record Stays (before after : Subscription) : Type 0 where
  pub binding : after.binding ≡ before.binding
  pub closed : before.reception.closed ≡ true → after.reception ≡ before.reception

-- each subscriber stays, under its number
abbrev pub AllStay : WorldState → WorldState → Type 0
AllStay w w' =
    (i : ℕ) (before : Subscription) → numbered w.subscriptions i ≡ Some before
    → (after : Subscription) × (numbered w'.subscriptions i ≡ Some after) × Stays before after
