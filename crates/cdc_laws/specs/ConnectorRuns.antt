-- What a connector sends: sessions one after another, and when one may begin after another.
use Rattle.std.specs.Prelude.{◌≡◌, ◌⊎◌, ℕ, ◌+◌, ◌<◌, ◌≤◌, Some, List, [], ◌∷◌, ◌++◌, Contains, slice_get}
use Rattle.cdc_ledger.specs.History.{History}
use Rattle.cdc_laws.specs.Line.{line_after}
use Rattle.cdc_message.specs.declared.items.Item.{Item}
use Rattle.cdc_message.specs.declared.items.Item.TheVariants.{Event as OfEvent, EndMark}
use Rattle.cdc_message.specs.declared.packets.Answer.TheVariants.{Confirmed}
use Rattle.cdc_message.specs.declared.packets.Confirm.{Confirm}
use Rattle.cdc_message.specs.declared.packets.Packet.{Packet}
use Rattle.cdc_message.specs.declared.packets.Packet.TheVariants.{Connect, Publish}
use Rattle.cdc_message.specs.Replays.{IsPrefix}
use Rattle.cdc_types.specs.declared.events.Event.{Event}

-- a session as it shows: its number, the timestamp after which it begins, and the items that it has published, in
-- order
pub record Shown : Type 0 where
  pub number : ℕ
  pub base : ℕ
  pub items : List Item

-- items published by a session, under tags from this one on
abbrev pub publishes_from : ℕ → ℕ → List Item → List Packet
publishes_from session tag [] = []
publishes_from session tag (item ∷ items) = Publish session tag item ∷ publishes_from session (tag + 1) items

-- the packets of a session: it connects, and then publishes its items under the tags 1, 2 and so on
abbrev pub packets_of : Shown → List Packet
packets_of s = Connect s.number ∷ publishes_from s.number 1 s.items

-- the packets of sessions one after another; the list has the latest of them first
abbrev pub sent_by : List Shown → List Packet
sent_by [] = []
sent_by (s ∷ earlier) = sent_by earlier ++ packets_of s

-- among the confirms is one of this tag of this session
abbrev pub IsConfirmed : List Confirm → ℕ → ℕ → Type 0
IsConfirmed confirms session tag = Contains confirms (record { session = session; answer = Confirmed tag })

-- among the confirms is one of each of the first so many tags of this session
abbrev pub AreConfirmed : List Confirm → ℕ → ℕ → Type 0
AreConfirmed confirms session count = (tag : ℕ) → 0 < tag → tag ≤ count → IsConfirmed confirms session tag

-- a session is confirmed up to a timestamp: it is that of an event that the session has published, and the confirms
-- have every tag of the session up to the event's
pub record IsConfirmedTo (confirms : List Confirm) (s : Shown) (time : ℕ) : Type 0 where
  pub place : ℕ
  pub event : Event
  pub published : slice_get s.items place ≡ Some (OfEvent event)
  pub at : event.timestamp ≡ time
  pub confirmed : AreConfirmed confirms s.number (place + 1)

-- a session may begin after a timestamp, given the sessions before it: after the start, after the timestamp after
-- which an earlier session begins, or after one up to which an earlier session is confirmed
abbrev pub IsBase : ℕ → List Confirm → List Shown → ℕ → Type 0
IsBase start confirms earlier time =
    (time ≡ start) ⊎ ((s : Shown) × Contains earlier s × ((s.base ≡ time) ⊎ IsConfirmedTo confirms s time))

-- a session may come after these: its number is above theirs; it begins after such a timestamp; what it has published
-- is what there is to publish after that, in order and without a gap; and the end mark only once every tag before it
-- was confirmed
pub record MayFollow (h : History) (start : ℕ) (confirms : List Confirm) (earlier : List Shown) (s : Shown)
    : Type 0 where
  pub above : (other : Shown) → Contains earlier other → other.number < s.number
  pub base : IsBase start confirms earlier s.base
  pub items : IsPrefix s.items (line_after h s.base)
  pub end : (place : ℕ) → slice_get s.items place ≡ Some EndMark → AreConfirmed confirms s.number place

-- each session may come after those before it; the list has the latest of them first
abbrev pub AreSessions : History → ℕ → List Confirm → List Shown → Type 0
AreSessions h start confirms [] = Unit {0}
AreSessions h start confirms (s ∷ earlier) = MayFollow h start confirms earlier s × AreSessions h start confirms earlier

-- a connector has sent these packets and received these confirms, for what the ledger of this history has to publish
-- after the start: they are the packets of such sessions
pub record IsConnectorRun (h : History) (start : ℕ) (sent : List Packet) (confirms : List Confirm) : Type 0 where
  pub sessions : List Shown
  pub makes : sent_by sessions ≡ sent
  pub each : AreSessions h start confirms sessions
