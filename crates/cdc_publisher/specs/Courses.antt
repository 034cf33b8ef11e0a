-- The course of a session: what it was offered, what it has sent of that, and what was confirmed (TigerBeetle, Change
-- Data Capture; RabbitMQ, Publisher Confirms, for tags).
use Rattle.std.specs.Prelude.{ℕ, zero, suc, ◌+◌, ◌-◌, ◌==◌, ◌&&◌, not, nat_lt, nat_le, Bool, true, false, Option, Some, None, Result, Ok, Err, List, [], ◌∷◌, ◌++◌, length, drop, filter, slice_get, unwrap_or, if◌then◌else◌}
use Rattle.std.specs.List.{list_all, list_any}
use Rattle.cdc_types.specs.declared.bounds.TheConstants.Limits.{SESSION}
use Rattle.cdc_types.specs.declared.events.Event.{Event}
use Rattle.cdc_message.specs.declared.items.Item.TheVariants.{Event as OfEvent, EndMark}
use Rattle.cdc_message.specs.declared.packets.Answer.{Answer}
use Rattle.cdc_message.specs.declared.packets.Answer.TheVariants.{Connected, Confirmed, Ignored, Broken}
use Rattle.cdc_message.specs.declared.packets.Packet.{Packet}
use Rattle.cdc_message.specs.declared.packets.Packet.TheVariants.{Connect, Publish}
use Rattle.cdc_types.specs.Timestamps.{last_timestamp_from}
use Rattle.cdc_progress.specs.Records.{Saved, saved_from}
use Rattle.cdc_publisher.specs.declared.errors.StartError.{StartError}
use Rattle.cdc_publisher.specs.declared.errors.StartError.TheVariants.{SessionsExhausted, StartNotAllowed}
use Rattle.cdc_publisher.specs.declared.session.Poll.{Poll}

-- a session's course: its number; the start, the timestamp after which the first session began; the timestamp after
-- which this one begins; its window, how many events may wait for their confirms at a time; the events that it was
-- offered, in order; whether none follow them; how many packets it has sent; and the tags that were confirmed to it
pub record Course : Type 0 where
  pub number : ℕ
  pub start : ℕ
  pub base : ℕ
  pub window : ℕ
  pub offered : List Event
  pub complete : Bool
  pub sent : ℕ
  pub confirmed : List ℕ

-- a session that has done nothing yet
abbrev pub new_course : Saved → ℕ → Course
new_course saved window = record {
  number = saved.session;
  start = saved.start;
  base = saved.timestamp;
  window = window;
  offered = [];
  complete = false;
  sent = 0;
  confirmed = [];
}

-- the greatest number of a session
abbrev pub last_session : ℕ
last_session = SESSION

-- what is saved when the first session starts, after this timestamp or, if none is asked for, after 0: everything up
-- to there counts as confirmed
abbrev pub first_saved : Option ℕ → Saved
first_saved at = saved_from (unwrap_or at 0) 1 (unwrap_or at 0)

-- what is saved when a later session starts: the next number, with the same timestamp and start; there has to be a
-- further number
abbrev pub next_saved : Saved → Result Saved StartError
next_saved held =
    if held.session == last_session then Err SessionsExhausted
    else Ok (record held { session = held.session + 1 })

-- what is saved when a session starts with this record held, or why none starts: a timestamp to start after may be
-- asked for only if no record is held
abbrev pub begun : Option Saved → Option ℕ → Result Saved StartError
begun None at = Ok (first_saved at)
begun (Some held) (Some time) = Err StartNotAllowed
begun (Some held) None = next_saved held

-- the tags that were sent: the first packet has none, and the others have those from 1 on
abbrev pub tags_sent : Course → ℕ
tags_sent course = course.sent - 1

-- a tag was sent
abbrev pub is_sent : Course → ℕ → Bool
is_sent course tag = nat_lt 0 tag && nat_le tag (tags_sent course)

-- a tag was confirmed
abbrev pub is_confirmed : Course → ℕ → Bool
is_confirmed course tag = list_any (λ other. other == tag) course.confirmed

-- n numbers from this one on
abbrev pub numbers_from : ℕ → ℕ → List ℕ
numbers_from first zero = []
numbers_from first (suc n) = first ∷ numbers_from (first + 1) n

-- the tags that were sent and aren't confirmed
abbrev pub unconfirmed : Course → List ℕ
unconfirmed course = filter (λ tag. not (is_confirmed course tag)) (numbers_from 1 (tags_sent course))

-- the events that were offered and aren't sent, in order
abbrev pub unsent : Course → List Event
unsent course = drop (tags_sent course) course.offered

-- every event that was offered is sent
abbrev pub all_sent : Course → Bool
all_sent course = nat_le (length course.offered) (tags_sent course)

-- the events that are wanted: none while an event is unsent, while as many as may wait are unconfirmed, or once the
-- session is complete; otherwise those after the last event offered, up to the number that may wait in addition
abbrev pub next_poll : Course → Option Poll
next_poll course =
    if all_sent course && nat_lt (length (unconfirmed course)) course.window && not course.complete
    then Some (record {
      after = last_timestamp_from course.base course.offered;
      limit = course.window - length (unconfirmed course);
    })
    else None

-- the session after it was offered these events
abbrev pub with_offer : List Event → Bool → Course → Course
with_offer events complete course = record course { offered = course.offered ++ events; complete = complete }

-- every event is sent and confirmed, and no other one follows
abbrev pub may_end : Course → Bool
may_end course =
    course.complete && list_all (is_confirmed course) (numbers_from 1 (length course.offered))

-- the end mark, under the tag after those of the events; it is sent once, when it may be
abbrev pub end_packet : Course → Option Packet
end_packet course =
    if may_end course && (tags_sent course == length course.offered)
    then Some (Publish course.number course.sent EndMark)
    else None

-- the packet of an event under the next tag or, without an event, the end mark, if it may be sent
abbrev pub publish_packet : Course → Option Event → Option Packet
publish_packet course (Some event) = Some (Publish course.number course.sent (OfEvent event))
publish_packet course None = end_packet course

-- what is sent next: first the connect, then the oldest unsent event, and last the end mark
abbrev pub next_packet : Course → Option Packet
next_packet course =
    if course.sent == 0 then Some (Connect course.number)
    else publish_packet course (slice_get course.offered (tags_sent course))

-- there is a packet, and it has an event, for whose message memory may run out
abbrev pub has_event : Option Packet → Bool
has_event None = false
has_event (Some (Connect session)) = false
has_event (Some (Publish session tag EndMark)) = false
has_event (Some (Publish session tag (OfEvent event))) = true

-- the session after it has sent one more packet, if there was one
abbrev pub with_sent : Option Packet → Course → Course
with_sent None course = course
with_sent (Some packet) course = record course { sent = course.sent + 1 }

-- the end mark was sent: there are more tags than events
abbrev pub has_ended : Course → Bool
has_ended course = nat_lt (length course.offered) (tags_sent course)

-- a confirm counts if it is for this session and for a tag that was sent and isn't confirmed
abbrev pub takes_confirm : Course → ℕ → ℕ → Bool
takes_confirm course session tag =
    (session == course.number) && (is_sent course tag && not (is_confirmed course tag))

-- the session after a confirm
abbrev pub with_confirm : ℕ → ℕ → Course → Course
with_confirm session tag course =
    if takes_confirm course session tag then record course { confirmed = course.confirmed ++ tag ∷ [] } else course

-- the session after the broker's answer to a packet of the session of this number
abbrev pub after_answer : Course → ℕ → Answer → Course
after_answer course session (Confirmed tag) = with_confirm session tag course
after_answer course session Connected = course
after_answer course session Ignored = course
after_answer course session Broken = course

-- the timestamp of the last event before the first unconfirmed one, or the given timestamp if there is none; the
-- events have tags from the given one on
abbrev pub confirmed_from : Course → ℕ → ℕ → List Event → ℕ
confirmed_from course time tag [] = time
confirmed_from course time tag (event ∷ events) =
    if is_confirmed course tag then confirmed_from course event.timestamp (tag + 1) events else time

-- the timestamp of the last event such that it and each earlier one is confirmed, or the base
abbrev pub confirmed_timestamp : Course → ℕ
confirmed_timestamp course = confirmed_from course course.base 1 course.offered

-- what is saved of a session
abbrev pub progress_of : Course → Saved
progress_of course = saved_from course.start course.number (confirmed_timestamp course)

-- the end mark is confirmed
abbrev pub is_done : Course → Bool
is_done course = course.complete && is_confirmed course (length course.offered + 1)
