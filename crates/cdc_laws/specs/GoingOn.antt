-- A ledger's history that goes on.
use Rattle.std.specs.Prelude.{◌≡◌, ◌<◌, ◌≤◌, true, List, [], ◌++◌}
use Rattle.std.specs.List.{AllByRecursion}
use Rattle.cdc_ledger.specs.Events.{events}
use Rattle.cdc_ledger.specs.History.{History}
use Rattle.cdc_types.specs.declared.events.Event.{Event}

-- g goes on from h: it has the events of h and later ones; if h is closed, it has no later ones, and g is closed too
pub record GoesOn (h g : History) : Type 0 where
  pub new : List Event
  pub whole : events g ≡ events h ++ new
  pub later : AllByRecursion (λ e. h.last < e.timestamp) new
  pub last : h.last ≤ g.last
  pub shut : h.closed ≡ true → (g.closed ≡ true) × (new ≡ [])
