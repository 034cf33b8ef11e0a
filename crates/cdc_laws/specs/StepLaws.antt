-- What each step of a connector, a broker, a queue and a subscriber keeps.
use Rattle.std.specs.Prelude.{◌≡◌, ℕ, ◌-◌, ◌<◌, true, false, Option, Some, None, Ok, List, [], ◌∷◌, ◌++◌, Contains, length}
use Rattle.cdc_broker.specs.Broker.{BrokerState, after_packet, empty_broker, queue_of, takes_packet, with_queue}
use Rattle.cdc_broker.specs.Queues.{QueueState, acknowledged, empty_queue, is_unknown, next_delivery, queued, rewound_queue, with_delivery}
use Rattle.cdc_ledger.specs.History.{History}
use Rattle.cdc_ledger.specs.Sound.{IsSound}
use Rattle.cdc_laws.specs.Arrivals.{taken_of}
use Rattle.cdc_laws.specs.Brokers.{HasArrived, HasDelivered}
use Rattle.cdc_laws.specs.ConnectorRuns.{IsConnectorRun}
use Rattle.cdc_laws.specs.Connectors.{ConnectorState, KeepsTo, after_confirm, held_start, held_timestamp}
use Rattle.cdc_laws.specs.GoingOn.{GoesOn}
use Rattle.cdc_laws.specs.Receiving.{HasTaken}
use Rattle.cdc_laws.specs.Readings.{IsOf, KeepsToReadings, Reading}
use Rattle.cdc_match.specs.Arguments.{Arguments}
use Rattle.cdc_message.specs.declared.items.Delivery.{Delivery}
use Rattle.cdc_message.specs.declared.items.Item.{Item}
use Rattle.cdc_message.specs.declared.packets.Answer.TheVariants.{Confirmed}
use Rattle.cdc_message.specs.declared.packets.Confirm.{Confirm}
use Rattle.cdc_message.specs.declared.packets.Packet.{Packet}
use Rattle.cdc_message.specs.declared.packets.Packet.TheVariants.{Publish}
use Rattle.cdc_publisher.specs.Records.{Saved}
use Rattle.cdc_publisher.specs.Courses.{Course, begun, new_course, next_packet, progress_of, with_offer, with_sent}
use Rattle.cdc_subscriber.specs.Reception.{Reception, next, nothing}
use Rattle.cdc_types.specs.Timestamps.{last_timestamp_from}

-- ---- a connector

-- it begins over a store that holds nothing, or a timestamp that is its start
abbrev pub ConnectorsBegin : Type 0
ConnectorsBegin = (h : History) (held : Option Saved) → held_timestamp held ≡ held_start held
    → KeepsTo h (record { held = held; session = None; sent = []; confirms = [] })

-- the ledger goes on
abbrev pub ConnectorsGoOn : Type 0
ConnectorsGoOn = (h g : History) (c : ConnectorState) → GoesOn h g → KeepsTo h c → KeepsTo g c

-- its session stops, for whatever reason
abbrev pub SessionsEnd : Type 0
SessionsEnd = (h : History) (c : ConnectorState) → KeepsTo h c → KeepsTo h (record c { session = None })

-- a session starts under a number that is held then; if nothing was held before, it may start after a timestamp that
-- was asked for
abbrev pub SessionsStart : Type 0
SessionsStart = (h : History) (c : ConnectorState) (at : Option ℕ) (saved : Saved) (window : ℕ) → KeepsTo h c
    → begun c.held at ≡ Ok saved
    → KeepsTo h (record c { held = Some saved; session = Some (new_course saved window) })

-- none starts, though its number is held, as after a save that failed
abbrev pub SessionsHalfStart : Type 0
SessionsHalfStart = (h : History) (c : ConnectorState) (at : Option ℕ) (saved : Saved) → KeepsTo h c
    → begun c.held at ≡ Ok saved
    → KeepsTo h (record c { held = Some saved; session = None })

-- its session is offered what a reading of the ledger has after the last event that it was offered
abbrev pub SessionsAreOffered : Type 0
SessionsAreOffered = (h : History) (c : ConnectorState) (course : Course) (r : Reading) → IsSound h → KeepsTo h c
    → c.session ≡ Some course → IsOf h r → r.after ≡ last_timestamp_from course.base course.offered
    → KeepsTo h (record c { session = Some (with_offer r.events r.complete course) })

-- it sends its next packet
abbrev pub PacketsAreSent : Type 0
PacketsAreSent = (h : History) (c : ConnectorState) (course : Course) (packet : Packet) → KeepsTo h c
    → c.session ≡ Some course → next_packet course ≡ Some packet
    → KeepsTo h (record c { session = Some (with_sent (Some packet) course); sent = c.sent ++ packet ∷ [] })

-- a confirm comes, for this session or an earlier one, or while none runs
abbrev pub ConfirmsCome : Type 0
ConfirmsCome = (h : History) (c : ConnectorState) (confirm : Confirm) → KeepsTo h c
    → KeepsTo h (after_confirm confirm c)

-- it saves how far it has come
abbrev pub ProgressIsSaved : Type 0
ProgressIsSaved = (h : History) (c : ConnectorState) (course : Course) → KeepsTo h c → c.session ≡ Some course
    → KeepsTo h (record c { held = Some (progress_of course) })

-- what it has sent and received is a connector run
abbrev pub ConnectorsMakeRuns : Type 0
ConnectorsMakeRuns = (h : History) (c : ConnectorState) → KeepsTo h c
    → IsConnectorRun h (held_start c.held) c.sent c.confirms

-- a connector that doesn't know the history keeps to what it reads of it, as its session is offered one more reading
abbrev pub ReadingsAreOffered : Type 0
ReadingsAreOffered = (readings : List Reading) (c : ConnectorState) (course : Course) (r : Reading)
    → KeepsToReadings readings c → c.session ≡ Some course
    → r.after ≡ last_timestamp_from course.base course.offered
    → KeepsToReadings (r ∷ readings) (record c { session = Some (with_offer r.events r.complete course) })

-- and as it leaves one alone
abbrev pub ReadingsAreLeft : Type 0
ReadingsAreLeft = (readings : List Reading) (c : ConnectorState) (r : Reading) → KeepsToReadings readings c
    → KeepsToReadings (r ∷ readings) c

-- ---- a broker

-- nothing has come to it
abbrev pub BrokersBegin : Type 0
BrokersBegin = (bindings : List Arguments) → HasArrived (empty_broker bindings) [] []

-- a packet comes that it takes
abbrev pub PacketsAreTaken : Type 0
PacketsAreTaken = (b : BrokerState) (arrived : List Packet) (confirms : List Confirm) (packet : Packet)
    → HasArrived b arrived confirms → takes_packet b packet ≡ true
    → HasArrived (after_packet b packet) (arrived ++ packet ∷ []) confirms

-- a packet comes that it ignores
abbrev pub PacketsAreIgnored : Type 0
PacketsAreIgnored = (b : BrokerState) (arrived : List Packet) (confirms : List Confirm) (packet : Packet)
    → HasArrived b arrived confirms → takes_packet b packet ≡ false
    → HasArrived b (arrived ++ packet ∷ []) confirms

-- it confirms a publish that it took
abbrev pub ConfirmsAreSent : Type 0
ConfirmsAreSent = (b : BrokerState) (arrived : List Packet) (confirms : List Confirm) (session tag : ℕ) (item : Item)
    → HasArrived b arrived confirms → Contains (taken_of arrived) (Publish session tag item)
    → HasArrived b arrived (confirms ++ record { session = session; answer = Confirmed tag } ∷ [])

-- one of its queues delivers, takes an acknowledgement, or rewinds
abbrev pub QueuesMove : Type 0
QueuesMove = (b : BrokerState) (arrived : List Packet) (confirms : List Confirm) (i : ℕ) (delivery : Option Delivery)
    (position : ℕ)
    → HasArrived b arrived confirms → i - 1 < length b.queues
    → HasArrived (with_queue i (with_delivery delivery (queue_of b i)) b) arrived confirms
    × HasArrived (with_queue i (acknowledged position (queue_of b i)) b) arrived confirms
    × HasArrived (with_queue i (rewound_queue (queue_of b i)) b) arrived confirms

-- ---- a queue

-- nothing has come to it
abbrev pub QueuesBegin : Type 0
QueuesBegin = (binding : Arguments) → HasDelivered (empty_queue binding) []

-- the broker accepts an item, which the binding takes or not
abbrev pub QueuesGrow : Type 0
QueuesGrow = (q : QueueState) (out : List Delivery) (item : Item) → HasDelivered q out
    → HasDelivered (queued item q) out

-- it delivers what is next
abbrev pub NextIsDelivered : Type 0
NextIsDelivered = (q : QueueState) (out : List Delivery) (d : Delivery) → HasDelivered q out
    → next_delivery q ≡ Some d → HasDelivered (with_delivery (Some d) q) (out ++ d ∷ [])

-- a position is acknowledged that was delivered
abbrev pub AcknowledgementsCome : Type 0
AcknowledgementsCome = (q : QueueState) (out : List Delivery) (position : ℕ) → HasDelivered q out
    → is_unknown q position ≡ false → HasDelivered (acknowledged position q) out

-- it rewinds to what isn't acknowledged
abbrev pub QueuesRewind : Type 0
QueuesRewind = (q : QueueState) (out : List Delivery) → HasDelivered q out → HasDelivered (rewound_queue q) out

-- ---- a subscriber

-- nothing has come to it
abbrev pub SubscribersBegin : Type 0
SubscribersBegin = HasTaken nothing []

-- it takes one more delivery, and receives it or not
abbrev pub DeliveriesAreTaken : Type 0
DeliveriesAreTaken = (reception : Reception) (taken : List Delivery) (d : Delivery) → HasTaken reception taken
    → HasTaken (next reception d.item) (taken ++ d ∷ [])

-- it closes
abbrev pub SubscribersClose : Type 0
SubscribersClose = (reception : Reception) (taken : List Delivery) → HasTaken reception taken
    → HasTaken (record reception { closed = true }) taken
