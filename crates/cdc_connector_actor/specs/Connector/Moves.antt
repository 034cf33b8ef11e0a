-- What the parts of a connector's turn do. Private contracts and proofs alone cite this file.
use Rattle.std.specs.Prelude.{◌≡◌, ◌==◌, ◌⊎◌, ℕ, ◌+◌, ◌<◌, ◌≤◌, Bool, true, false, Option, Some, None, Ok, List, length, cond, unwrap_or, if◌then◌else◌}
use Rattle.std.specs.List.{AllByRecursion}
use Rattle.cdc_connector_actor.specs.Connector.{HasFollowed, HasTakenAll, IsFirstTurn, IsOfSame, IsPublishing, IsTurnOf, IsUnasked, ConnectorCore, RisesBy, ended_by, is_publish, origin_of, poll_for, saved_by}
use Rattle.cdc_publisher.specs.Stands.{SessionStands}
use Rattle.cdc_laws.specs.Connectors.{held_number, held_timestamp}
use Rattle.cdc_links.specs.Links.{Takes, with_sent as with_message}
use Rattle.cdc_message.specs.declared.packets.Answer.{Answer}
use Rattle.cdc_message.specs.declared.packets.Answer.TheVariants.{Connected, Confirmed, Ignored, Broken}
use Rattle.cdc_message.specs.declared.packets.Confirm.{Confirm}
use Rattle.cdc_message.specs.declared.packets.Packet.{Packet}
use Rattle.cdc_progress.specs.Records.{Saved}
use Rattle.cdc_publisher.specs.Courses.{Course, after_answer, begun, confirmed_timestamp, new_course, next_packet, progress_of, with_offer, with_sent}
use Rattle.cdc_publisher.specs.SessionState.{SessionState}
use Rattle.cdc_publisher.specs.SessionState.{poll_of}
use Rattle.cdc_publisher.specs.declared.session.Poll.{Poll as Wanted}
use Rattle.cdc_traffic.specs.Following.{FollowsToConnector}
use Rattle.cdc_traffic.specs.declared.messages.ToBroker.TheVariants as to_broker
use Rattle.cdc_traffic.specs.declared.messages.ToConnector.{ToConnector}
use Rattle.cdc_traffic.specs.declared.messages.ToLedger.TheVariants as to_ledger
use Rattle.cdc_traffic.specs.declared.polls.Poll.{Poll}
use Rattle.cdc_traffic.specs.declared.polls.PollReply.{PollReply}

-- a session runs, for some course, and is in turn, and the connector hasn't finished
pub record IsSending (c : ConnectorCore) : Type 0 where
  pub course : Course
  pub publishing : IsPublishing c (Some course)
  pub turn : IsTurnOf c course
  pub working : c.finished ≡ false

-- nothing but its session, its store and what it has sent is another one
pub record GoesOn (old new : ConnectorCore) : Type 0 where
  pub inbox : new.inbox ≡ old.inbox
  pub polls : new.polls.link ≡ old.polls.link
  pub packets : new.packets.link ≡ old.packets.link
  pub honest : new.honest ≡ old.honest
  pub risks : new.risks ≡ old.risks
  pub origin : old.honest ≡ true → origin_of new ≡ origin_of old
  pub window : new.window ≡ old.window
  pub restarts : new.restarts ≡ old.restarts

-- the number that is held rises, and the timestamp stays, once a number is held
pub record KeepsTimestamp (old new : ConnectorCore) : Type 0 where
  pub number : old.honest ≡ true → held_number old.held ≤ held_number new.held
  pub time : old.honest ≡ true → 0 < held_number old.held → held_timestamp new.held ≡ held_timestamp old.held

-- the next session has started after what the store gave, or if that was nothing, after the given timestamp. Its
-- number is held now, by a store that is honest. No later session is given a timestamp
pub record IsBegun (old new : ConnectorCore) : Type 0 where
  pub loaded : Option Saved
  pub saved : Saved
  pub honest : old.honest ≡ true
  pub given : old.honest ≡ true → loaded ≡ old.held
  pub begins : begun loaded old.start ≡ Ok saved
  pub stands : SessionStands new.session (Some (new_course saved old.window))
  pub after : new ≡ record old {
    start = None;
    first = Some (unwrap_or old.first saved.timestamp);
    held = Some saved;
    session = new.session;
    asked = 0;
    poll = None;
  }

-- ---- what is sent

-- how many publish packets this one is
abbrev pub publish_count : Packet → ℕ
publish_count packet = cond (is_publish packet) 1 0

-- a session has sent its next packet, if there is one
abbrev pub IsPacketSent : ConnectorCore → Course → Option Packet → Bool → ConnectorCore → Type 0
IsPacketSent old course None sent new =
    (sent ≡ false) × SessionStands new.session (Some course) × (new ≡ record old { session = new.session })
IsPacketSent old course (Some packet) sent new =
    (sent ≡ true)
    × SessionStands new.session (Some (with_sent (Some packet) course))
    × (new ≡ record old {
      session = new.session;
      packets = with_message old.packets (to_broker.Packet packet, tt);
      unanswered = old.unanswered + 1;
      published = old.published + publish_count packet;
    })

-- a packet was sent, if there was one, and the connector has restarted if it has to
pub record IsSentNext (old : ConnectorCore) (sent : Bool) (new : ConnectorCore) : Type 0 where
  pub sends : IsSending new
  pub none : sent ≡ false → next_packet sends.course ≡ None
  pub one : sent ≡ true → new.unanswered ≡ old.unanswered + 1
  pub goes_on : GoesOn old new
  pub sessions : RisesBy 0 old new
  pub time : KeepsTimestamp old new

-- packets were sent as long as there was one, and room for it
pub record AreSent (old new : ConnectorCore) : Type 0 where
  pub sends : IsSending new
  pub all : (next_packet sends.course ≡ None) ⊎ (new.unanswered ≡ new.window + 1)
  pub goes_on : GoesOn old new
  pub sessions : RisesBy 0 old new
  pub time : KeepsTimestamp old new

-- with this poll more, which is open then
abbrev pub with_poll : Option Poll → ConnectorCore → ConnectorCore
with_poll None c = c
with_poll (Some poll) c = record c {
  polls = with_message c.polls (to_ledger.Poll poll, tt);
  asked = c.asked + 1;
  poll = Some poll;
}

-- with the poll for what its session of this course wants, if none is open
abbrev pub asked_if : Option Poll → Course → ConnectorCore → ConnectorCore
asked_if (Some poll) course c = c
asked_if None course c = with_poll (poll_for (Some course) (c.asked + 1)) c

-- finished, if this is true
abbrev pub finished_if : Bool → ConnectorCore → ConnectorCore
finished_if done c =
    if done then record c {
      polls = with_message c.polls (to_ledger.Finish, tt);
      packets = with_message c.packets (to_broker.Finish, tt);
      finished = true;
    } else c

-- all that follows was sent
pub record IsFollowed (old new : ConnectorCore) : Type 0 where
  pub course : Course
  pub publishing : IsPublishing new (Some course)
  pub followed : HasFollowed new course
  pub goes_on : GoesOn old new
  pub sessions : RisesBy 0 old new
  pub time : KeepsTimestamp old new

-- ---- what is received

-- the events that a session wants, if one runs
abbrev pub wanted_by : Option SessionState → Option Wanted
wanted_by None = None
wanted_by (Some kept) = poll_of kept

-- a reply to the open poll was offered to the session, or it is to another one, and nothing has changed
abbrev pub IsReplyTaken : ConnectorCore → PollReply → Bool → ConnectorCore → Type 0
IsReplyTaken old reply true new =
    (old.poll ≡ Some reply.poll)
    × ((course : Course) → SessionStands old.session (Some course)
    → SessionStands new.session (Some (with_offer reply.events reply.complete course)))
    × (new ≡ record old { session = new.session; poll = None })
IsReplyTaken old reply false new = (old.poll ≡ Some reply.poll → ⊥) × (new ≡ old)

-- what is held after a confirm: how far the session has come then, if its timestamp has changed
abbrev pub held_after : Option Saved → Course → Course → Option Saved
held_after held before after =
    if confirmed_timestamp after == confirmed_timestamp before then held else Some (progress_of after)

-- the next session has started, if the packet was of the session that runs
abbrev pub IsBrokenOff : Bool → ConnectorCore → ConnectorCore → Type 0
IsBrokenOff true old new = IsBegun old new
IsBrokenOff false old new = new ≡ old

-- a session takes the broker's answer to a packet of the session of this number
abbrev pub IsAnswerTaken : ConnectorCore → Course → ℕ → Answer → ConnectorCore → Type 0
IsAnswerTaken old course session (Confirmed tag) new =
    SessionStands new.session (Some (after_answer course session (Confirmed tag)))
    × (new ≡ record old {
      held = held_after old.held course (after_answer course session (Confirmed tag));
      session = new.session;
    })
IsAnswerTaken old course session Connected new = new ≡ old
IsAnswerTaken old course session Ignored new = new ≡ old
IsAnswerTaken old course session Broken new =
    IsBrokenOff (session == course.number) old new

-- a confirm was taken: one packet fewer is without an answer, and the session takes it
pub record IsConfirmTaken (old : ConnectorCore) (course : Course) (confirm : Confirm) (new : ConnectorCore)
    : Type 0 where
  pub unanswered : ℕ
  pub less : old.unanswered ≡ unanswered + 1
  pub taken : IsAnswerTaken (record old { unanswered = unanswered }) course confirm.session confirm.answer new

-- a message was received, and isn't taken yet
pub record HasCome (old : ConnectorCore) (message : ToConnector) (new : ConnectorCore) : Type 0 where
  pub sends : IsSending old
  pub takes : Takes FollowsToConnector old.inbox message new.inbox
  pub after : new ≡ record old { inbox = new.inbox }

-- a message was received and taken. If it had no effect, nothing else has changed
pub record IsReplyReceived (old : ConnectorCore) (course : Course) (moved : Bool) (new : ConnectorCore) : Type 0 where
  pub message : ToConnector
  pub takes : Takes FollowsToConnector old.inbox message new.inbox
  pub next : Course
  pub publishing : IsPublishing new (Some next)
  pub turn : IsTurnOf old course → IsTurnOf new next
  pub working : new.finished ≡ old.finished
  pub sessions : RisesBy (ended_by (held_number old.held) message) old new
  pub saves : old.honest ≡ true
      → held_timestamp new.held ≡ saved_by (held_timestamp old.held) course message
  pub same : IsOfSame old new
  pub unasked : IsUnasked old.poll message → moved ≡ false
  pub still : moved ≡ false → (next ≡ course) × (new ≡ record old { inbox = new.inbox })

-- no message was received, or one was, and was taken
abbrev pub IsReceivedIf : ConnectorCore → Course → Option Bool → ConnectorCore → Type 0
IsReceivedIf old course None new = new ≡ old
IsReceivedIf old course (Some moved) new = IsReplyReceived old course moved new

-- messages were received and taken, one at least. If none had an effect, nothing else has changed
pub record AreReceived (old : ConnectorCore) (course : Course) (moved : Bool) (new : ConnectorCore) : Type 0 where
  pub messages : List ToConnector
  pub some : 0 < length messages
  pub takes : HasTakenAll old messages new
  pub next : Course
  pub publishing : IsPublishing new (Some next)
  pub turn : IsTurnOf new next
  pub working : new.finished ≡ old.finished
  pub unasked : AllByRecursion (IsUnasked old.poll) messages → moved ≡ false
  pub still : moved ≡ false → (next ≡ course) × (new ≡ record old { inbox = new.inbox })

-- of a turn that goes on from a session, before anything follows: messages were received
pub record IsReceived (old : ConnectorCore) (moved : Bool) (new : ConnectorCore) : Type 0 where
  pub messages : List ToConnector
  pub some : 0 < length messages
  pub takes : HasTakenAll old messages new
  pub unasked : AllByRecursion (IsUnasked old.poll) messages → moved ≡ false

-- the first session has begun, or messages were received
abbrev pub IsBegunOrReceived : Option SessionState → ConnectorCore → Bool → ConnectorCore → Type 0
IsBegunOrReceived None old moved new = IsFirstTurn old new
IsBegunOrReceived (Some kept) old moved new = IsReceived old moved new

-- so a session runs, and if nothing may follow, everything is as it was between two turns
pub record IsAdvanced (old : ConnectorCore) (moved : Bool) (new : ConnectorCore) : Type 0 where
  pub next : Course
  pub publishing : IsPublishing new (Some next)
  pub turn : IsTurnOf new next
  pub working : new.finished ≡ false
  pub moves : IsBegunOrReceived old.session old moved new
  pub still : moved ≡ false → HasFollowed new next
