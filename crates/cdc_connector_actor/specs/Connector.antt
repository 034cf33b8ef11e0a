-- What a connector actor has sent to the ledger and to the broker, and what it has received from them.
pub mod Fails
pub mod Moves
pub mod SoFar
use Rattle.std.specs.Prelude.{◌≡◌, ◌==◌, ◌⊎◌, ℕ, zero, suc, ◌+◌, ◌-◌, ◌<◌, ◌≤◌, ◌&&◌, Bool, is_some, true, false, Option, Some, None, IfSome, List, [], ◌∷◌, ◌++◌, Contains, length, map, slice_get, unwrap_or, if◌then◌else◌}
use Rattle.std.specs.List.{AllByRecursion, filter, filter_map, list_any}
use Rattle.std.specs.Option.{option_map}
use Rattle.cdc_actor_work.specs.Packets.{packets_in}
use Rattle.cdc_laws.specs.Connectors.{ConnectorState, held_number, held_start, held_timestamp}
use Rattle.cdc_laws.specs.Readings.{KeepsToReadings}
use Rattle.cdc_links.specs.Links.{Incoming, Outgoing, Takes, of_sender}
use Rattle.cdc_message.specs.declared.items.Item.TheVariants.{Event as OfEvent}
use Rattle.cdc_message.specs.declared.packets.Answer.{Answer}
use Rattle.cdc_message.specs.declared.packets.Answer.TheVariants.{Connected, Confirmed, Ignored, Broken}
use Rattle.cdc_message.specs.declared.packets.Confirm.{Confirm}
use Rattle.cdc_message.specs.declared.packets.Packet.{Packet}
use Rattle.cdc_message.specs.declared.packets.Packet.TheVariants.{Connect, Publish}
use Rattle.cdc_progress.specs.Records.{Saved}
use Rattle.cdc_progress.specs.Stores.{Risks}
use Rattle.cdc_publisher.specs.Courses.{Course, after_answer, confirmed_timestamp, is_done, next_packet, next_poll}
use Rattle.cdc_publisher.specs.SessionState.{SessionState}
use Rattle.cdc_publisher.specs.Polls.{IsWanted}
use Rattle.cdc_publisher.specs.Stands.{SessionStands}
use Rattle.cdc_traffic.specs.Following.{FollowsToConnector, IsEmitted}
use Rattle.cdc_traffic.specs.Laws.{readings_of}
use Rattle.cdc_traffic.specs.declared.messages.ToBroker.{ToBroker}
use Rattle.cdc_traffic.specs.declared.messages.ToBroker.TheVariants as to_broker
use Rattle.cdc_traffic.specs.declared.messages.ToConnector.{ToConnector}
use Rattle.cdc_traffic.specs.declared.messages.ToConnector.TheVariants as to_connector
use Rattle.cdc_traffic.specs.declared.messages.ToLedger.{ToLedger}
use Rattle.cdc_traffic.specs.declared.messages.ToLedger.TheVariants as to_ledger
use Rattle.cdc_traffic.specs.declared.pasts.Past.{Past}
use Rattle.cdc_traffic.specs.declared.polls.Poll.{Poll}
use Rattle.cdc_types.specs.Windows.{IsWindow}
use Rattle.cdc_types.specs.declared.events.Event.{Event}

-- what a connector works with: its inbox; its endpoints of the links to the ledger and to the broker; the timestamp
-- that its first session is to start after, if one was given, until that session has begun; the timestamp that its
-- first session began after, once one has; what its store holds, whether it is honest, and why it may refuse; what
-- its session keeps, if one runs; how many polls that one has sent, and the open one; how many packets are without an
-- answer, and for how many events a session waits; after which publish packets it restarts, and how many it has sent;
-- and whether it has finished
pub record ConnectorCore : Type 0 where
  pub inbox : Incoming ToConnector (Option Past)
  pub polls : Outgoing ToLedger (Unit {0})
  pub packets : Outgoing ToBroker (Unit {0})
  pub start : Option ℕ
  pub first : Option ℕ
  pub held : Option Saved
  pub honest : Bool
  pub risks : Risks
  pub session : Option SessionState
  pub asked : ℕ
  pub poll : Option Poll
  pub unanswered : ℕ
  pub window : ℕ
  pub restarts : List ℕ
  pub published : ℕ
  pub finished : Bool

-- ---- what its messages contain

-- the polls among messages to the ledger, in order
abbrev pub poll_in : ToLedger → Option Poll
poll_in (to_ledger.Request request) = None
poll_in (to_ledger.Done client) = None
poll_in (to_ledger.Poll poll) = Some poll
poll_in to_ledger.Finish = None

abbrev pub polls_in : {N : Type 0} → List (ToLedger × N) → List Poll
polls_in sent = filter_map (λ each. poll_in each.0) sent

-- the confirms among messages to the connector, in order
abbrev pub confirm_in : ToConnector → Option Confirm
confirm_in (to_connector.PollReply reply) = None
confirm_in (to_connector.Confirm confirm) = Some confirm

abbrev pub confirms_in : {N : Type 0} → List (ToConnector × N) → List Confirm
confirms_in sent = filter_map (λ each. confirm_in each.0) sent

-- a packet publishes an item
abbrev pub is_publish : Packet → Bool
is_publish (Connect session) = false
is_publish (Publish session tag item) = true

-- the last message, once the connector has finished
abbrev pub finish_if : {M : Type 0} → M → Bool → List M
finish_if finish finished = if finished then finish ∷ [] else []

-- ---- its restarts

-- how many of the first so many publish packets the plan names
abbrev pub planned_up_to : List ℕ → ℕ → ℕ
planned_up_to plan zero = 0
planned_up_to plan (suc n) = planned_up_to plan n + (if list_any (λ other. other == suc n) plan then 1 else 0)

-- if the store is honest, the number of the session that it holds rises by one after each publish packet that the
-- plan names, and by this number besides
abbrev pub RisesBy : ℕ → ConnectorCore → ConnectorCore → Type 0
RisesBy n old new = old.honest ≡ true →
    held_number new.held + planned_up_to old.restarts old.published
    ≡ held_number old.held + planned_up_to new.restarts new.published + n

-- a packet's session
abbrev pub session_of : Packet → ℕ
session_of (Connect session) = session
session_of (Publish session tag item) = session

-- the last of some packets, if there is one
abbrev pub last_of : List Packet → Option Packet
last_of packets = slice_get packets (length packets - 1)

-- the plan names the last of these packets: it is a publish packet, and the plan has its number, which counts publish
-- packets from 1 over all sessions
abbrev pub is_planned : List ℕ → List Packet → Packet → Bool
is_planned plan sent last =
    is_publish last && list_any (λ number. number == length (filter is_publish sent)) plan

-- one of the confirms reports that a packet of this session, or its confirm, was lost
abbrev pub IsBroken : List Confirm → ℕ → Type 0
IsBroken confirms session = Contains confirms (record { session = session; answer = Broken })

-- a session may publish right after these packets: the last of them is its own, and the plan doesn't name it
pub record MayPublish (plan : List ℕ) (sent : List Packet) (session : ℕ) : Type 0 where
  pub last : Packet
  pub is_last : last_of sent ≡ Some last
  pub own : session_of last ≡ session
  pub unplanned : is_planned plan sent last ≡ false

-- a session may begin right after this last packet: the plan names the packet, or a packet or a confirm of its session
-- was lost. If the store is honest, the number of the session is greater, and each session in between lost one too
pub record MayRestart (plan : List ℕ) (honest : Bool) (confirms : List Confirm) (sent : List Packet) (session : ℕ)
    (last : Packet) : Type 0 where
  pub cause : (is_planned plan sent last ≡ true) ⊎ IsBroken confirms (session_of last)
  pub later : honest ≡ true → session_of last < session
  pub between : honest ≡ true → (other : ℕ) → session_of last < other → other < session → IsBroken confirms other

-- a session may connect right after these packets: it is the first one, or it may begin after the last of them
abbrev pub MayConnect : List ℕ → Bool → List Confirm → List Packet → ℕ → Type 0
MayConnect plan honest confirms sent session =
    (last : Packet) → last_of sent ≡ Some last → MayRestart plan honest confirms sent session last

abbrev pub MayBeSent : List ℕ → Bool → List Confirm → List Packet → Packet → Type 0
MayBeSent plan honest confirms sent (Connect session) = MayConnect plan honest confirms sent session
MayBeSent plan honest confirms sent (Publish session tag item) = MayPublish plan sent session

-- each packet may be sent right after those before it. So right after a publish packet that the plan names comes the
-- connect packet of a new session. A connect packet comes nowhere else, except first, or after a packet of a session
-- that lost a packet or a confirm
abbrev pub RestartsAsPlanned : List ℕ → Bool → List Confirm → List Packet → Type 0
RestartsAsPlanned plan honest confirms sent = (earlier : List Packet) (packet : Packet) (later : List Packet)
    → sent ≡ earlier ++ packet ∷ later → MayBeSent plan honest confirms earlier packet

-- the plan doesn't name the last of these packets, so no restart is due after them
abbrev pub IsUnplanned : List ℕ → List Packet → Type 0
IsUnplanned plan sent = (last : Packet) → last_of sent ≡ Some last → is_planned plan sent last ≡ false

-- a session is in turn: it has sent nothing and may connect, or it has connected and may publish
pub record IsInTurn (plan : List ℕ) (honest : Bool) (confirms : List Confirm) (sent : List Packet) (course : Course)
    : Type 0 where
  pub connects : course.sent ≡ 0 → MayConnect plan honest confirms sent course.number
  pub publishes : 0 < course.sent → MayPublish plan sent course.number

-- so has a connector restarted up to now, and so is its session in turn
abbrev pub HasRestarted : ConnectorCore → Type 0
HasRestarted c =
    RestartsAsPlanned c.restarts c.honest (confirms_in (of_sender 1 c.inbox.received)) (packets_in c.packets.sent)

abbrev pub IsTurnOf : ConnectorCore → Course → Type 0
IsTurnOf c course =
    IsInTurn c.restarts c.honest (confirms_in (of_sender 1 c.inbox.received)) (packets_in c.packets.sent) course

-- how many sessions a message ends: one, if it reports that a packet of the session that is held was lost
abbrev pub broken_by : Bool → Answer → ℕ
broken_by own Broken = if own then 1 else 0
broken_by own Connected = 0
broken_by own (Confirmed tag) = 0
broken_by own Ignored = 0

abbrev pub ended_by : ℕ → ToConnector → ℕ
ended_by number (to_connector.PollReply reply) = 0
ended_by number (to_connector.Confirm confirm) = broken_by (confirm.session == number) confirm.answer

-- the timestamp that is held once a message was taken by a session of this course: how far that has come with a confirm
-- that moves it; what was held before any other message
abbrev pub timestamp_after : ℕ → ℕ → ℕ → ℕ
timestamp_after held before after = if after == before then held else after

abbrev pub saved_by : ℕ → Course → ToConnector → ℕ
saved_by held course (to_connector.PollReply reply) = held
saved_by held course (to_connector.Confirm confirm) =
    timestamp_after held (confirmed_timestamp course)
    (confirmed_timestamp (after_answer course confirm.session confirm.answer))

-- a message is a reply to another poll than the open one
abbrev pub IsUnasked : Option Poll → ToConnector → Type 0
IsUnasked asked (to_connector.PollReply reply) = asked ≡ Some reply.poll → ⊥
IsUnasked asked (to_connector.Confirm confirm) = ⊥

-- ---- its session

-- where a run begins: the timestamp that its first session begins after, and the start, up to which nothing is
-- published
pub record Origin : Type 0 where
  pub after : ℕ
  pub start : ℕ

-- the origin as the first session starts, from what is held and from the timestamp to start after, if one was given
abbrev pub first_origin : Option ℕ → Option Saved → Origin
first_origin at None = record { after = unwrap_or at 0; start = unwrap_or at 0 }
first_origin at (Some saved) = record { after = saved.timestamp; start = saved.start }

-- and the origin of a connector at any time: what is held later has the same start
abbrev pub origin_of : ConnectorCore → Origin
origin_of c = record {
  after = unwrap_or c.first (first_origin c.start c.held).after;
  start = (first_origin c.start c.held).start;
}

-- the first session begins right after the start: the store holds nothing, or a timestamp that is its start
abbrev pub IsAtStart : Origin → Type 0
IsAtStart origin = origin.after ≡ origin.start

-- the base of the first session is known once a session runs, and not before
abbrev pub IsFirstIn : Option ℕ → Option Course → Type 0
IsFirstIn first None = first ≡ None
IsFirstIn first (Some course) = (time : ℕ) × (first ≡ Some time)

-- a session has a number from 1 up, which is the one that is held, and the start that is held, and each event that it
-- was offered is one of a history that batches and a close make
pub record IsRunning (saved : Option Saved) (course : Course) : Type 0 where
  pub number : 0 < course.number
  pub held : held_number saved ≡ course.number
  pub start : held_start saved ≡ course.start
  pub emitted : (event : Event) → Contains course.offered event → IsEmitted (OfEvent event)

-- the same of a session that runs, if one does
abbrev pub IsRunningIn : Option Saved → Option Course → Type 0
IsRunningIn held None = Unit {0}
IsRunningIn held (Some course) = IsRunning held course

-- what a session wants, as its poll of this number
abbrev pub poll_for : Option Course → ℕ → Option Poll
poll_for None number = None
poll_for (Some course) number = option_map
    (λ wanted. record { session = course.number; number = number; after = wanted.after; limit = wanted.limit })
    (next_poll course)

-- a poll is this session's of this number, and asks for what it wants: for no more than that, since a confirm makes
-- room for more while the poll is open
pub record IsPollOf (course : Course) (asked : ℕ) (poll : Poll) : Type 0 where
  pub session : poll.session ≡ course.number
  pub number : poll.number ≡ asked
  pub wanted : IsWanted course (record { after = poll.after; limit = poll.limit })

-- the same of a session that runs, if one does
abbrev pub IsPollIn : Option Course → ℕ → Poll → Type 0
IsPollIn None asked poll = ⊥
IsPollIn (Some course) asked poll = IsPollOf course asked poll

-- ---- what a connector actor keeps

-- the numbers of its endpoints and of the senders to it, and its window
pub record IsWired (senders to_ledger to_broker window : ℕ) : Type 0 where
  pub two : senders ≡ 2
  pub polls : to_ledger ≡ 0
  pub packets : to_broker ≡ 0
  pub fits : IsWindow window

-- it has sent polls to the ledger and packets to the broker, so many publish packets among them, and then, once it has
-- finished, that it is done
pub record HasSent (polls : List (ToLedger × Unit {0})) (packets : List (ToBroker × Unit {0})) (published : ℕ)
    (finished : Bool) : Type 0 where
  pub asked : map (λ m. m.0) polls ≡ map to_ledger.Poll (polls_in polls) ++ finish_if to_ledger.Finish finished
  pub sent : map (λ m. m.0) packets ≡ map to_broker.Packet (packets_in packets) ++ finish_if to_broker.Finish finished
  pub counted : published ≡ length (filter is_publish (packets_in packets))

-- of its packets so many have no confirm yet, at most one more than events that a session waits for
pub record AreUnanswered (sent received unanswered window : ℕ) : Type 0 where
  pub exact : unanswered + received ≡ sent
  pub room : unanswered ≤ window + 1

-- the connector state that it represents, if its session is of this course
abbrev pub connector_of : ConnectorCore → Option Course → ConnectorState
connector_of c course = record {
  held = c.held;
  session = course;
  sent = packets_in c.packets.sent;
  confirms = confirms_in (of_sender 1 c.inbox.received);
}

-- at any time: if its store is honest and the run began at its start, it keeps to every history of which the replies
-- to polls that it has received are readings. An open poll is the latest of its session, for what that wants. A session
-- runs only over an honest store. It has restarted as planned
pub record IsPublishing (c : ConnectorCore) (course : Option Course) : Type 0 where
  pub wired : IsWired c.inbox.senders c.polls.number c.packets.number c.window
  pub dispatched : HasSent c.polls.sent c.packets.sent c.published c.finished
  pub answers : AreUnanswered (length (packets_in c.packets.sent))
      (length (confirms_in (of_sender 1 c.inbox.received))) c.unanswered c.window
  pub stands : SessionStands c.session course
  pub runs : IsRunningIn c.held course
  pub first : IsFirstIn c.first course
  pub honest : IfSome course (λ _. c.honest ≡ true)
  pub poll : (poll : Poll) → c.poll ≡ Some poll → IsPollIn course c.asked poll
  pub restarted : HasRestarted c
  pub keeps : c.honest ≡ true → IsAtStart (origin_of c)
      → KeepsToReadings (readings_of (of_sender 0 c.inbox.received)) (connector_of c course)

-- between two turns nothing is left to send. Before the first one nothing was sent or received. After it a session
-- runs. A poll is open exactly if the session wants events. The session has no packet to send, or there is no room
-- for one, and no restart is due. The connector has finished exactly if the end mark of its session was confirmed and
-- every packet has its confirm
pub record HasFollowed (c : ConnectorCore) (course : Course) : Type 0 where
  pub asked : is_some c.poll ≡ is_some (next_poll course)
  pub sent : (next_packet course ≡ None) ⊎ (c.unanswered ≡ c.window + 1)
  pub turn : IsTurnOf c course
  pub finished : c.finished ≡ (is_done course && (c.unanswered == 0))

pub record IsSilent (c : ConnectorCore) : Type 0 where
  pub received : c.inbox.received ≡ []
  pub polls : c.polls.sent ≡ []
  pub packets : c.packets.sent ≡ []
  pub working : c.finished ≡ false

abbrev pub IsAtRest : ConnectorCore → Option Course → Type 0
IsAtRest c None = IsSilent c
IsAtRest c (Some course) = HasFollowed c course

-- so between two turns, for some course of its session
pub record IsConnectorActor (c : ConnectorCore) : Type 0 where
  pub course : Option Course
  pub publishing : IsPublishing c course
  pub rest : IsAtRest c course

-- ---- a turn

-- every turn keeps these: the links of its endpoints, whether its store is honest, why that may refuse, the origin of
-- a run over an honest one, its window and its plan of restarts
pub record IsOfSame (old new : ConnectorCore) : Type 0 where
  pub polls : new.polls.link ≡ old.polls.link
  pub packets : new.packets.link ≡ old.packets.link
  pub honest : new.honest ≡ old.honest
  pub risks : new.risks ≡ old.risks
  pub origin : old.honest ≡ true → origin_of new ≡ origin_of old
  pub window : new.window ≡ old.window
  pub restarts : new.restarts ≡ old.restarts

-- the first turn receives nothing, and begins one session besides those that the plan has
pub record IsFirstTurn (old new : ConnectorCore) : Type 0 where
  pub inbox : new.inbox ≡ old.inbox
  pub sessions : RisesBy 1 old new
  pub same : IsOfSame old new

-- one message was received and taken. It begins a session besides those that the plan has if it reports that a packet
-- of the session that is held, or its confirm, was lost. Progress is saved after a confirm that moves how far the
-- session has come, and after no other message. A reply to another poll than the open one changes nothing else
pub record HasTaken (old : ConnectorCore) (message : ToConnector) (new : ConnectorCore) : Type 0 where
  pub takes : Takes FollowsToConnector old.inbox message new.inbox
  pub sessions : RisesBy (ended_by (held_number old.held) message) old new
  pub course : Course
  pub stood : SessionStands old.session (Some course)
  pub saves : old.honest ≡ true
      → held_timestamp new.held ≡ saved_by (held_timestamp old.held) course message
  pub unasked : IsUnasked old.poll message → new ≡ record old { inbox = new.inbox }
  pub same : IsOfSame old new

-- these messages were, one after another
abbrev pub HasTakenAll : ConnectorCore → List ToConnector → ConnectorCore → Type 0
HasTakenAll old [] new = new ≡ old
HasTakenAll old (message ∷ later) new = (mid : ConnectorCore) × HasTaken old message mid × HasTakenAll mid later new

-- nothing was received or saved. No session has begun besides those that the plan has
pub record HasSentOn (old new : ConnectorCore) : Type 0 where
  pub inbox : new.inbox ≡ old.inbox
  pub sessions : RisesBy 0 old new
  pub saves : old.honest ≡ true → held_timestamp new.held ≡ held_timestamp old.held
  pub same : IsOfSame old new

-- a later one takes messages, one at least, and then sends what follows. After replies to other polls than the open one
-- nothing does
pub record IsLaterTurn (old new : ConnectorCore) : Type 0 where
  pub messages : List ToConnector
  pub some : 0 < length messages
  pub taken : ConnectorCore
  pub takes : HasTakenAll old messages taken
  pub follows : HasSentOn taken new
  pub unasked : AllByRecursion (IsUnasked old.poll) messages → new ≡ taken

-- a turn in which no session runs is the first
abbrev pub IsWorkingTurn : Option SessionState → ConnectorCore → ConnectorCore → Type 0
IsWorkingTurn None old new = IsFirstTurn old new
IsWorkingTurn (Some kept) old new = IsLaterTurn old new

-- ---- what is left of it

-- what is left of a connector that has finished: its endpoints, and what its store holds
pub record ArePartsOf (c : ConnectorCore) (inbox : Incoming ToConnector (Option Past))
    (polls : Outgoing ToLedger (Unit {0})) (packets : Outgoing ToBroker (Unit {0})) (saved : Option Saved)
    : Type 0 where
  pub received : inbox ≡ c.inbox
  pub asked : polls ≡ c.polls
  pub sent : packets ≡ c.packets
  pub holds : saved ≡ c.held

-- a connector that has finished. Its last session is done, each of its packets has its confirm, and its last messages
-- follow its polls and its packets. The start of the run is held. Its store is honest, and if the run began at its
-- start, it keeps to every history of which the replies that it has received are readings. It has restarted right
-- after each publish packet that its plan names, so the last packet is none of them
pub record IsDone (c : ConnectorCore) : Type 0 where
  pub course : Course
  pub done : is_done course ≡ true
  pub answered : length (confirms_in (of_sender 1 c.inbox.received)) ≡ length (packets_in c.packets.sent)
  pub asked : map (λ m. m.0) c.polls.sent
      ≡ map to_ledger.Poll (polls_in c.polls.sent) ++ to_ledger.Finish ∷ []
  pub sent : map (λ m. m.0) c.packets.sent
      ≡ map to_broker.Packet (packets_in c.packets.sent) ++ to_broker.Finish ∷ []
  pub start : held_start c.held ≡ (origin_of c).start
  pub restarted : HasRestarted c
  pub last : IsUnplanned c.restarts (packets_in c.packets.sent)
  pub honest : c.honest ≡ true
  pub keeps : c.honest ≡ true → IsAtStart (origin_of c)
      → KeepsToReadings (readings_of (of_sender 0 c.inbox.received)) (connector_of c (Some course))

abbrev pub FinishedConnectorsAreDone : Type 0
FinishedConnectorsAreDone = (c : ConnectorCore) → IsConnectorActor c → c.finished ≡ true → IsDone c

-- ---- its first state

-- nothing has been sent yet, over a store that holds this and may refuse for these reasons. The first session is to
-- start after this timestamp, if there is one
abbrev pub first_connector : Incoming ToConnector (Option Past) → Outgoing ToLedger (Unit {0})
    → Outgoing ToBroker (Unit {0}) → Option Saved → Bool → Risks → Option ℕ → ℕ → List ℕ → ConnectorCore
first_connector inbox polls packets held honest risks start window restarts = record {
  inbox = inbox;
  polls = polls;
  packets = packets;
  start = start;
  first = None;
  held = held;
  honest = honest;
  risks = risks;
  session = None;
  asked = 0;
  poll = None;
  unanswered = 0;
  window = window;
  restarts = restarts;
  published = 0;
  finished = false;
}
