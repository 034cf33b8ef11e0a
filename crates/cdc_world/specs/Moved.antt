-- What a step moves: what it sends, takes, loses, offers or saves. An event is named by its timestamp, a packet by its
-- number, its session and its tag, a delivery by its position.
use Rattle.std.specs.Prelude.{◌≡◌, ℕ, ◌-◌, true, false, Option, Some, None, Result, Ok, Err, length, slice_get}
use Rattle.std.specs.Option.{option_and_then, option_map, option_or}
use Rattle.cdc_broker.specs.Packets.{current_session, expected_tag}
use Rattle.cdc_message.specs.declared.items.Delivery.{Delivery}
use Rattle.cdc_message.specs.declared.items.Item.{Item}
use Rattle.cdc_message.specs.declared.items.Item.TheVariants as item
use Rattle.cdc_message.specs.declared.packets.Answer.{Answer as BrokerAnswer}
use Rattle.cdc_message.specs.declared.packets.Answer.TheVariants.{Connected, Confirmed, Ignored, Broken}
use Rattle.cdc_message.specs.declared.packets.Confirm.{Confirm}
use Rattle.cdc_message.specs.declared.packets.Packet.{Packet}
use Rattle.cdc_message.specs.declared.packets.Packet.TheVariants as packet
use Rattle.cdc_publisher.specs.Courses.{Course, confirmed_timestamp, unsent}
use Rattle.cdc_types.specs.Timestamps.{last_timestamp_from}
use Rattle.cdc_types.specs.declared.events.Event.{Event}
use Rattle.cdc_types.specs.declared.steps.Step.{Step}
use Rattle.cdc_types.specs.declared.steps.Step.TheVariants.{Start, StartAt, Crash, Poll, Publish, Arrive, Answer, Save, Send, Rewind, Break, Take, Ack}
use Rattle.cdc_world.specs.declared.moved.ItemName.{ItemName}
use Rattle.cdc_world.specs.declared.moved.ItemName.TheVariants as named
use Rattle.cdc_world.specs.declared.moved.Moved.{Moved}
use Rattle.cdc_world.specs.declared.moved.Moved.TheVariants.{SessionStarted, SessionLost, EventsOffered, PacketSent, PacketTaken, PacketIgnored, ConfirmReceived, ProgressSaved, DeliverySent, QueueRewound, FlightLost, DeliveryTaken, Acknowledged}
use Rattle.cdc_world.specs.declared.moved.PacketName.{PacketName}
use Rattle.cdc_world.specs.declared.moved.PacketName.TheVariants as name
use Rattle.cdc_world.specs.declared.steps.Did.{Did}
use Rattle.cdc_world.specs.declared.steps.Did.TheVariants.{Submitted, Arrived, Counted, Took, Done}
use Rattle.cdc_world.specs.declared.steps.StepError.{StepError}
use Rattle.cdc_world.specs.Worlds.{Subscription, WorldState, numbered}

-- ---- names

-- an item by name: an event by its timestamp
abbrev pub item_name : Item → ItemName
item_name (item.Event event) = named.Event event.timestamp
item_name item.EndMark = named.EndMark

-- a packet by name
abbrev pub packet_name : Packet → PacketName
packet_name (packet.Connect session) = name.Connect session
packet_name (packet.Publish session tag item) = name.Publish session tag (item_name item)

-- ---- the connector

-- a session that has just started
abbrev pub session_started : Course → Moved
session_started course = SessionStarted course.number course.base

-- a session that is lost
abbrev pub session_lost : Course → Moved
session_lost course = SessionLost course.number

-- the events that a session was offered and hasn't sent; it asks for events only if it has sent all
abbrev pub events_offered : Course → Moved
events_offered course = EventsOffered
    (length (unsent course))
    (option_map (λ (event : Event). event.timestamp) (slice_get (unsent course) 0))
    (last_timestamp_from course.base course.offered)
    course.complete

-- what a session has just saved
abbrev pub progress_saved : Course → Moved
progress_saved course = ProgressSaved course.number (confirmed_timestamp course)

-- a confirm of a session and a tag that another session received, or the same; the broker makes no other answer here
abbrev pub answer_moved : ℕ → ℕ → BrokerAnswer → Option Moved
answer_moved session running (Confirmed tag) = Some (ConfirmReceived session tag running)
answer_moved session running Connected = None
answer_moved session running Ignored = None
answer_moved session running Broken = None

-- a confirm that a session received
abbrev pub confirm_answered : Course → Confirm → Option Moved
confirm_answered course confirm = answer_moved confirm.session course.number confirm.answer

-- the packet that was sent last, under its number
abbrev pub packet_sent : WorldState → Option Moved
packet_sent w =
    option_map (λ p. PacketSent (length w.packets) (packet_name p)) (numbered w.packets (length w.packets))

-- ---- the broker

-- a packet that came to the broker: taken, or ignored under the connection and the tag that are as they were
abbrev pub packet_arrived : WorldState → Did → Packet → Option Moved
packet_arrived w (Arrived true) p = Some (PacketTaken (packet_name p))
packet_arrived w (Arrived false) p =
    Some (PacketIgnored (packet_name p) (current_session w.accepted) (expected_tag w.accepted))
packet_arrived w (Submitted results) p = None
packet_arrived w (Counted counted) p = None
packet_arrived w (Took taking) p = None
packet_arrived w Done p = None

-- ---- the subscribers and their queues

-- a delivery that a queue sent
abbrev pub delivery_sent : Delivery → Moved
delivery_sent d = DeliverySent d.position (item_name d.item)

-- a delivery that a subscriber took
abbrev pub delivery_taken : Delivery → Moved
delivery_taken d = DeliveryTaken d.position (item_name d.item)

-- the delivery that was sent last of those in flight
abbrev pub last_sent : Subscription → Option Moved
last_sent s = option_map delivery_sent (slice_get s.flight (length s.flight - 1))

-- the first of those in flight
abbrev pub first_taken : Subscription → Option Moved
first_taken s = option_map delivery_taken (slice_get s.flight 0)

-- all that is in flight
abbrev pub flight_lost : Subscription → Moved
flight_lost s = FlightLost (length s.flight) s.cursor.acked

-- a queue that has rewound
abbrev pub queue_rewound : Subscription → Moved
queue_rewound s = QueueRewound s.cursor.acked

-- positions that are acknowledged
abbrev pub acknowledged : Subscription → Moved
acknowledged s = Acknowledged s.cursor.acked

-- ---- all steps

-- what a step takes away: only the world before it shows that
abbrev pub leaving : WorldState → Step → Option Moved
leaving w Crash = option_map session_lost w.session
leaving w (Break i) = option_map flight_lost (numbered w.subscriptions i)
leaving w (Take i) = option_and_then first_taken (numbered w.subscriptions i)
leaving w _ = None

-- what a step that was done so brought: the world after it shows that
abbrev pub brought : WorldState → Step → Did → Option Moved
brought w Start did = option_map session_started w.session
brought w (StartAt timestamp) did = option_map session_started w.session
brought w Poll did = option_map events_offered w.session
brought w Publish did = packet_sent w
brought w (Arrive k) did = option_and_then (packet_arrived w did) (numbered w.packets k)
brought w (Answer k) did =
    option_and_then (λ course. option_and_then (confirm_answered course) (numbered w.confirms k)) w.session
brought w Save did = option_map progress_saved w.session
brought w (Send i) did = option_and_then last_sent (numbered w.subscriptions i)
brought w (Rewind i) did = option_map queue_rewound (numbered w.subscriptions i)
brought w (Ack i k) did = option_map acknowledged (numbered w.subscriptions i)
brought w _ did = None

-- what a step with this answer moved, from one world to the other; nothing if it is a batch or a close
abbrev pub moved : WorldState → Step → Did → WorldState → Option Moved
moved w step did w' = option_or (leaving w step) (brought w' step did)

-- the answer to a step, without what it moved
abbrev pub did_of : Result (Did × Option Moved) StepError → Result Did StepError
did_of (Ok done) = Ok done.0
did_of (Err why) = Err why

-- a step that leads from one world to the other reports what it moved; one that is refused reports nothing
abbrev pub ReportsMoved : WorldState → Step → Result (Did × Option Moved) StepError → WorldState → Type 0
ReportsMoved w step (Ok done) w' = done.1 ≡ moved w step done.0 w'
ReportsMoved w step (Err why) w' = Unit {0}
