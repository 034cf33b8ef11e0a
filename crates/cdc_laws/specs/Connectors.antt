-- What holds at all times for a connector, given the history of the ledger that it reads.
use Rattle.std.specs.Prelude.{◌≡◌, ◌⊎◌, ℕ, ◌<◌, ◌≤◌, true, Option, Some, None, List, [], ◌∷◌, ◌++◌, Contains, length, take}
use Rattle.std.specs.Option.{option_map}
use Rattle.cdc_ledger.specs.Events.{events}
use Rattle.cdc_ledger.specs.History.{History}
use Rattle.cdc_laws.specs.ConnectorRuns.{AreConfirmed, AreSessions, IsBase, IsConfirmed, Shown, sent_by}
use Rattle.cdc_laws.specs.Line.{emitted}
use Rattle.cdc_log.specs.Log.{events_after}
use Rattle.cdc_message.specs.declared.packets.Confirm.{Confirm}
use Rattle.cdc_message.specs.declared.packets.Packet.{Packet}
use Rattle.cdc_message.specs.Replays.{IsPrefix}
use Rattle.cdc_publisher.specs.Records.{Saved}
use Rattle.cdc_publisher.specs.Courses.{Course, after_answer, is_confirmed, tags_sent}

-- a connector: what its store holds; its session, or none if it is down; the packets that it has sent; and the
-- confirms that it has received
pub record ConnectorState : Type 0 where
  pub held : Option Saved
  pub session : Option Course
  pub sent : List Packet
  pub confirms : List Confirm

-- the number of the last session that was saved, or 0
abbrev pub held_number : Option Saved → ℕ
held_number None = 0
held_number (Some saved) = saved.session

-- the timestamp up to which every event after the start is known to be confirmed, or 0
abbrev pub held_timestamp : Option Saved → ℕ
held_timestamp None = 0
held_timestamp (Some saved) = saved.timestamp

-- the start, the timestamp after which the first session began; 0 if no record is held
abbrev pub held_start : Option Saved → ℕ
held_start None = 0
held_start (Some saved) = saved.start

-- a session as it shows: what it was offered, and then the end mark, as far as it has sent them
abbrev pub shown_of : Course → Shown
shown_of course = record {
  number = course.number;
  base = course.base;
  items = take (tags_sent course) (emitted course.offered true);
}

-- a session is the last one: it has sent nothing yet, and may come after those that have; or it is the latest of them
abbrev pub StandsLast : ℕ → List Confirm → List Shown → Course → Type 0
StandsLast start confirms sessions course =
    ((course.sent ≡ 0) × IsBase start confirms sessions course.base
    × ((s : Shown) → Contains sessions s → s.number < course.number))
    ⊎ ((0 < course.sent) × ((earlier : List Shown) × (sessions ≡ shown_of course ∷ earlier)))

-- a session has sent no more than it was offered; or no event can follow, each tag of an event was confirmed, and it
-- may have sent the end mark too
abbrev pub SendsInTurn : List Confirm → Course → Type 0
SendsInTurn confirms course =
    (tags_sent course ≤ length course.offered)
    ⊎ ((course.complete ≡ true) × AreConfirmed confirms course.number (length course.offered))

-- the session that runs has the number and the start that are held; it was offered the first events after its base
-- and, if none are to follow, all events of a closed ledger; the tags that were confirmed to it are of packets that
-- it has sent, and are among the confirms; and it is the last of all sessions
pub record IsLive (h : History) (start : ℕ) (confirms : List Confirm) (sessions : List Shown) (number : ℕ)
    (course : Course) : Type 0 where
  pub its : course.number ≡ number
  pub starts : course.start ≡ start
  pub offered : IsPrefix course.offered (events_after course.base (events h))
  pub complete : course.complete ≡ true → (h.closed ≡ true) × (course.offered ≡ events_after course.base (events h))
  pub confirmed : (tag : ℕ) → is_confirmed course tag ≡ true
      → (tag ≤ tags_sent course) × IsConfirmed confirms course.number tag
  pub in_turn : SendsInTurn confirms course
  pub last : StandsLast start confirms sessions course

-- a connector keeps to a history: its packets are those of sessions that may follow one another, with numbers up to
-- the one that is held; if nothing is held, it has sent no packet and runs no session; the next session may begin
-- after the timestamp that is held; and the same holds for the session that runs
pub record KeepsTo (h : History) (c : ConnectorState) : Type 0 where
  pub sessions : List Shown
  pub makes : sent_by sessions ≡ c.sent
  pub each : AreSessions h (held_start c.held) c.confirms sessions
  pub numbers : (s : Shown) → Contains sessions s → s.number ≤ held_number c.held
  pub none_yet : c.held ≡ None → (sessions ≡ []) × (c.session ≡ None)
  pub base : IsBase (held_start c.held) c.confirms sessions (held_timestamp c.held)
  pub live : (course : Course) → c.session ≡ Some course
      → IsLive h (held_start c.held) c.confirms sessions (held_number c.held) course

-- ---- its steps

-- the connector after one more confirm that came, for this session or an earlier one
abbrev pub after_confirm : Confirm → ConnectorState → ConnectorState
after_confirm confirm c = record {
  held = c.held;
  session = option_map (λ course. after_answer course confirm.session confirm.answer) c.session;
  sent = c.sent;
  confirms = c.confirms ++ confirm ∷ [];
}
