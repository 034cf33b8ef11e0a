-- The session of a packet, which a law of the broker's actor cites too; and what was taken of a history's events,
-- which only proofs cite.
use Rattle.std.specs.Prelude.{ℕ, ◌≤◌, List, Contains}
use Rattle.cdc_ledger.specs.Events.{events}
use Rattle.cdc_ledger.specs.History.{History}
use Rattle.cdc_log.specs.Log.{events_after}
use Rattle.cdc_message.specs.declared.items.Item.{Item}
use Rattle.cdc_message.specs.declared.items.Item.TheVariants.{Event as OfEvent}
use Rattle.cdc_message.specs.declared.packets.Packet.{Packet}
use Rattle.cdc_message.specs.declared.packets.Packet.TheVariants.{Connect, Publish}
use Rattle.cdc_types.specs.declared.events.Event.{Event}

-- the session of a packet
abbrev pub session_of : Packet → ℕ
session_of (Connect session) = session
session_of (Publish session tag item) = session

-- every event of the history after the start and up to this timestamp was taken
abbrev pub HasTakenUpTo : History → ℕ → List Item → ℕ → Type 0
HasTakenUpTo h start taken t =
    (event : Event) → Contains (events_after start (events h)) event → event.timestamp ≤ t
    → Contains taken (OfEvent event)
