-- What a connector is answered when it asks for events: readings of a ledger that goes on.
use Rattle.std.specs.Prelude.{◌≡◌, ℕ, ◌&&◌, nat_le, Bool, List, [], ◌∷◌, length, take}
use Rattle.cdc_ledger.specs.Events.{events}
use Rattle.cdc_ledger.specs.History.{History}
use Rattle.cdc_ledger.specs.Sound.{IsSound}
use Rattle.cdc_laws.specs.Connectors.{ConnectorState, KeepsTo}
use Rattle.cdc_laws.specs.GoingOn.{GoesOn}
use Rattle.cdc_log.specs.Log.{events_after}
use Rattle.cdc_publisher.specs.declared.session.Poll.{Poll}
use Rattle.cdc_types.specs.declared.events.Event.{Event}

-- none of the ledger's events follow those that are read after this timestamp, up to this number, and none will
abbrev pub none_follow : History → Poll → Bool
none_follow h poll = h.closed && nat_le (length (events_after poll.after (events h))) poll.limit

-- an answer to a poll: the timestamp and the greatest number of events that were asked for, the events, and whether
-- none can follow them
pub record Reading : Type 0 where
  pub after : ℕ
  pub limit : ℕ
  pub events : List Event
  pub complete : Bool

-- it is of this history: the first events after the timestamp, up to that number; and none can follow if the ledger
-- is closed and these are all
pub record IsOf (h : History) (r : Reading) : Type 0 where
  pub events_are : r.events ≡ take r.limit (events_after r.after (events h))
  pub complete_is : r.complete ≡ none_follow h (record { after = r.after; limit = r.limit })

-- a ledger that was read, and has come to this history: each of the readings, latest first, is of a history that went
-- on to that of the next one, and the last of them to this
abbrev pub AreReadings : List Reading → History → Type 0
AreReadings [] h = IsSound h
AreReadings (r ∷ earlier) h = IsSound h × ((g : History) × (IsOf g r × AreReadings earlier g × GoesOn g h))

-- a connector that had these answers keeps to every history of which they are readings: it doesn't know which one
abbrev pub KeepsToReadings : List Reading → ConnectorState → Type 0
KeepsToReadings readings c = (h : History) → AreReadings readings h → KeepsTo h c
