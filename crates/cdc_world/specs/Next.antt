-- What a step answers, and the world after it.
use Rattle.std.specs.Prelude.{◌≡◌, ◌⊎◌, ℕ, Bool, true, false, IsTrue, Option, Some, None, Result, Ok, Err, List, [], ◌∷◌, ◌++◌, take}
use Rattle.std.specs.Option.{option_map}
use Rattle.cdc_broker.specs.Cursors.{after_ack, after_delivery, delivery_at, rewound}
use Rattle.cdc_broker.specs.Packets.{is_taken}
use Rattle.cdc_ledger.specs.declared.errors.BatchError.{BatchError}
use Rattle.cdc_ledger.specs.Events.{events}
use Rattle.cdc_ledger.specs.History.{History}
use Rattle.cdc_ledger.specs.Submit.{submit}
use Rattle.cdc_laws.specs.Readings.{none_follow}
use Rattle.cdc_laws.specs.Log.{events_after}
use Rattle.cdc_match.specs.Arguments.{Arguments}
use Rattle.cdc_message.specs.declared.items.Delivery.{Delivery}
use Rattle.cdc_message.specs.declared.packets.Answer.{Answer as BrokerAnswer}
use Rattle.cdc_message.specs.declared.packets.Answer.TheVariants.{Connected, Confirmed, Ignored, Broken}
use Rattle.cdc_message.specs.declared.packets.Confirm.{Confirm}
use Rattle.cdc_message.specs.declared.packets.Packet.{Packet}
use Rattle.cdc_message.specs.declared.packets.Packet.TheVariants.{Connect, Publish}
use Rattle.cdc_progress.specs.StoreError.{StoreError}
use Rattle.cdc_progress.specs.StoreError.TheVariants as store
use Rattle.cdc_progress.specs.Records.{Saved}
use Rattle.cdc_progress.specs.Stores.{IsRisked, Risks}
use Rattle.cdc_publisher.specs.Courses.{Course, after_answer, begun, new_course, next_packet, progress_of, takes_confirm, next_poll, with_offer, with_sent}
use Rattle.cdc_publisher.specs.declared.errors.StartError.{StartError}
use Rattle.cdc_publisher.specs.declared.session.Poll.{Poll}
use Rattle.cdc_subscriber.specs.Answers.{answer_to}
use Rattle.cdc_subscriber.specs.Reception.{kept_of, next as next_reception}
use Rattle.cdc_types.specs.declared.batches.BatchResults.{BatchResults}
use Rattle.cdc_types.specs.declared.steps.Step.{Step}
use Rattle.cdc_types.specs.declared.steps.Step.TheVariants.{Submit, CloseLedger, Start, StartAt, Crash, Poll as PollStep, Publish as PublishStep, Arrive, Answer, Save, Send, Rewind, Break, Take, Ack, Close}
use Rattle.cdc_world.specs.declared.steps.Did.{Did}
use Rattle.cdc_world.specs.declared.steps.Did.TheVariants.{Submitted, Arrived, Counted, Took, Done}
use Rattle.cdc_world.specs.declared.steps.StepError.{StepError}
use Rattle.cdc_world.specs.declared.steps.StepError.TheVariants.{NotEnabled, Refused, Store, SessionsExhausted, OutOfMemory, StartNotAllowed}
use Rattle.cdc_world.specs.Refusals.{start_refusal}
use Rattle.cdc_world.specs.Worlds.{Subscription, WorldState, new_world, numbered, queue_in, with_numbered}

-- what a step does, if memory and the store allow it: its answer and the world after it, or why it isn't done
abbrev pub Outcome : Type 0
Outcome = Result (Did × WorldState) StepError

infixl 20 ◌>>=◌
-- goes on with what there is; a step for which there is nothing isn't enabled
abbrev pub ◌>>=◌ : {A : Type 0} → Option A → (A → Outcome) → Outcome
Some x >>= rest = rest x
None >>= rest = Err NotEnabled

-- a step that is done, and answered only with `Done`
abbrev pub success : WorldState → Outcome
success w = Ok (Done, w)

-- ---- the ledger

-- the ledger's answer to a batch
abbrev pub with_batch : WorldState → Result (BatchResults × History) BatchError → Outcome
with_batch w (Ok taken) = Ok (Submitted taken.0, record w { history = taken.1 })
with_batch w (Err why) = Err (Refused why)

-- the ledger closes
abbrev pub with_ledger_closed : WorldState → WorldState
with_ledger_closed w = record w { history = record w.history { closed = true } }

-- ---- the connector

-- a session starts once its number is saved, or it doesn't start
abbrev pub with_session : WorldState → Result Saved StartError → Outcome
with_session w (Ok saved) = success (record w { held = Some saved; session = Some (new_course saved w.window) })
with_session w (Err why) = Err (start_refusal why)

-- the same if the connector is down, after a timestamp that is asked for or not
abbrev pub with_start : WorldState → Option ℕ → Option Course → Outcome
with_start w at None = with_session w (begun w.held at)
with_start w at (Some course) = Err NotEnabled

-- the connector crashes: its session is gone
abbrev pub with_crash : WorldState → WorldState
with_crash w = record w { session = None }

-- the session is offered the events that it wants
abbrev pub with_poll : WorldState → Course → Poll → WorldState
with_poll w course poll = record w {
  session = Some (with_offer (take poll.limit (events_after poll.after (events w.history)))
      (none_follow w.history poll) course);
}

-- the session sends a packet
abbrev pub with_packet : WorldState → Course → Packet → WorldState
with_packet w course packet = record w {
  packets = w.packets ++ packet ∷ [];
  session = Some (with_sent (Some packet) course);
}

-- the broker's answer to a packet counts for a session if it confirms one of its tags
abbrev pub counts : Course → ℕ → BrokerAnswer → Bool
counts course session (Confirmed tag) = takes_confirm course session tag
counts course session Connected = false
counts course session Ignored = false
counts course session Broken = false

-- a confirm comes to the session
abbrev pub with_answer : WorldState → Course → Confirm → Outcome
with_answer w course confirm = Ok (
  Counted (counts course confirm.session confirm.answer),
  record w { session = Some (after_answer course confirm.session confirm.answer) },
)

-- the session saves its progress
abbrev pub with_progress : WorldState → Course → WorldState
with_progress w course = record w { held = Some (progress_of course) }

-- ---- the broker

-- the confirm of a packet that was taken; a connect has none here
abbrev pub confirms_of : Packet → List Confirm
confirms_of (Connect session) = []
confirms_of (Publish session tag item) = record { session = session; answer = Confirmed tag } ∷ []

-- a packet that the broker takes, or one that it ignores
abbrev pub with_arrival : WorldState → Packet → Bool → WorldState
with_arrival w packet true = record w {
  accepted = w.accepted ++ packet ∷ [];
  confirms = w.confirms ++ confirms_of packet;
}
with_arrival w packet false = w

-- a packet comes to the broker, which takes it or not
abbrev pub arrival : WorldState → Packet → Outcome
arrival w packet = Ok (Arrived (is_taken w.accepted packet), with_arrival w packet (is_taken w.accepted packet))

-- ---- the subscribers and their queues

-- the world with another subscription under this number
abbrev pub with_subscription : ℕ → Subscription → WorldState → WorldState
with_subscription i s w = record w { subscriptions = with_numbered i s w.subscriptions }

-- what the queue of a subscriber delivers next, if there is anything
abbrev pub next_delivery : WorldState → Subscription → Option Delivery
next_delivery w s = delivery_at s.cursor (queue_in w s)

-- a delivery goes on its way
abbrev pub with_delivery : Delivery → Subscription → Subscription
with_delivery delivery s = record s { flight = s.flight ++ delivery ∷ []; cursor = after_delivery s.cursor }

-- the queue rewinds to what isn't acknowledged
abbrev pub with_rewind : Subscription → Subscription
with_rewind s = record s { cursor = rewound s.cursor }

-- the same, and what was on its way is lost
abbrev pub with_break : Subscription → Subscription
with_break s = record s { flight = []; cursor = rewound s.cursor }

-- the first delivery on its way, and those after it
abbrev pub first_flight : List Delivery → Option (Delivery × List Delivery)
first_flight [] = None
first_flight (delivery ∷ rest) = Some (delivery, rest)

-- the subscriber takes a delivery, receives its item and acknowledges its position
abbrev pub with_taking : Delivery → List Delivery → Subscription → Subscription
with_taking delivery rest s = record s {
  taken = s.taken ++ delivery ∷ [];
  flight = rest;
  acks = s.acks ++ delivery.position ∷ [];
  reception = next_reception s.reception delivery.item;
}

-- the subscriber's answer to the first of the deliveries on its way
abbrev pub taking : WorldState → ℕ → Subscription → Delivery × List Delivery → Outcome
taking w i s first =
    Ok (Took (answer_to (kept_of s.reception) first.0.item), with_subscription i (with_taking first.0 first.1 s) w)

-- an acknowledgement comes to the queue
abbrev pub with_ack : ℕ → Subscription → Subscription
with_ack position s = record s { cursor = after_ack position s.cursor }

-- it counts, whichever it is
abbrev pub acknowledgement : WorldState → ℕ → Subscription → ℕ → Outcome
acknowledgement w i s position = Ok (Counted true, with_subscription i (with_ack position s) w)

-- the subscriber closes
abbrev pub with_close : Subscription → Subscription
with_close s = record s { reception = record s.reception { closed = true } }

-- ---- all steps

-- the step that starts a session after a timestamp that is asked for or not
abbrev pub start_after : Option ℕ → Step
start_after None = Start
start_after (Some time) = StartAt time

-- what a step answers and does
abbrev pub next : WorldState → Step → Outcome
next w (Submit batch) = with_batch w (submit w.history batch)
next w CloseLedger = success (with_ledger_closed w)
next w Start = with_start w None w.session
next w (StartAt time) = with_start w (Some time) w.session
next w Crash = w.session >>= (λ course. success (with_crash w))
next w PollStep = w.session >>= (λ course. next_poll course >>= (λ poll. success (with_poll w course poll)))
next w PublishStep = w.session >>= (λ course. next_packet course >>= (λ packet. success (with_packet w course packet)))
next w (Arrive k) = numbered w.packets k >>= arrival w
next w (Answer k) = w.session >>= (λ course. numbered w.confirms k >>= with_answer w course)
next w Save = w.session >>= (λ course. success (with_progress w course))
next w (Send i) = numbered w.subscriptions i
    >>= (λ s. next_delivery w s >>= (λ delivery. success (with_subscription i (with_delivery delivery s) w)))
next w (Rewind i) = numbered w.subscriptions i >>= (λ s. success (with_subscription i (with_rewind s) w))
next w (Break i) = numbered w.subscriptions i >>= (λ s. success (with_subscription i (with_break s) w))
next w (Take i) = numbered w.subscriptions i >>= (λ s. first_flight s.flight >>= taking w i s)
next w (Ack i k) = numbered w.subscriptions i >>= (λ s. numbered s.acks k >>= acknowledgement w i s)
next w (Close i) = numbered w.subscriptions i >>= (λ s. success (with_subscription i (with_close s) w))

-- ---- whatever is answered

-- what is saved, if a session may start
abbrev pub saved_in : Result Saved StartError → Option Saved
saved_in (Ok saved) = Some saved
saved_in (Err why) = None

-- what a step saves, if it is one that does
abbrev pub saves : WorldState → Step → Option Saved
saves w Start = saved_in (begun w.held None)
saves w (StartAt time) = saved_in (begun w.held (Some time))
saves w Save = option_map progress_of w.session
saves w _ = None

-- the step reads or writes the store
abbrev pub uses_store : Step → Bool
uses_store Start = true
uses_store (StartAt time) = true
uses_store Save = true
uses_store _ = false

-- the step can run out of memory
abbrev pub takes_memory : Step → Bool
takes_memory CloseLedger = false
takes_memory Crash = false
takes_memory (Answer k) = false
takes_memory (Rewind i) = false
takes_memory (Break i) = false
takes_memory (Ack i k) = false
takes_memory (Close i) = false
takes_memory _ = true

-- the step isn't refused by any of the actors, or only as a session doesn't start, which is found once the store has
-- loaded
abbrev pub IsTried : Outcome → Type 0
IsTried (Ok after) = Unit {0}
IsTried (Err SessionsExhausted) = Unit {0}
IsTried (Err StartNotAllowed) = Unit {0}
IsTried (Err _) = ⊥

-- the step reads the store
abbrev pub loads : Step → Bool
loads Start = true
loads (StartAt time) = true
loads _ = false

-- the world after a store failed: as it was, if it failed to load; as it was or with the new record held, if it
-- failed to save one; the store of a step that loads is honest, and so holds nothing but a record
abbrev pub AfterFailure : WorldState → Step → StoreError → WorldState → Type 0
AfterFailure w step store.ReadFault w' = IsTrue (loads step) × (w' ≡ w)
AfterFailure w step store.WriteFault w' =
    (saved : Saved) × (saves w step ≡ Some saved) × ((w' ≡ w) ⊎ (w' ≡ record w { held = Some saved }))
AfterFailure w step store.BadRecord w' = ⊥
AfterFailure w step store.OutOfMemory w' = ⊥

-- a step may be answered so, and leave this world: as `next` determines; or the store failed, an honest one if the
-- step loads; or memory ran out, which leaves the world as it was
abbrev pub Next : WorldState → Step → Result Did StepError → WorldState → Type 0
Next w step (Ok did) w' = next w step ≡ Ok (did, w')
Next w step (Err NotEnabled) w' = (next w step ≡ Err NotEnabled) × (w' ≡ w)
Next w step (Err (Refused why)) w' = (next w step ≡ Err (Refused why)) × (w' ≡ w)
Next w step (Err SessionsExhausted) w' = (next w step ≡ Err SessionsExhausted) × (w' ≡ w)
Next w step (Err StartNotAllowed) w' = (next w step ≡ Err StartNotAllowed) × (w' ≡ w)
Next w step (Err OutOfMemory) w' = IsTrue (takes_memory step) × (IsTried (next w step) × (w' ≡ w))
Next w step (Err (Store why)) w' =
    IsTrue (uses_store step) × (IsTried (next w step) × AfterFailure w step why w')

-- a step may be answered so over a store with these risks: the store fails only if it may. Memory may run out
-- whenever the step is tried: a start allocates before it uses the store
abbrev pub IsStepRisked : Risks → Result Did StepError → Type 0
IsStepRisked risks (Ok did) = Unit {0}
IsStepRisked risks (Err NotEnabled) = Unit {0}
IsStepRisked risks (Err (Refused why)) = Unit {0}
IsStepRisked risks (Err (Store why)) = IsRisked risks why
IsStepRisked risks (Err SessionsExhausted) = Unit {0}
IsStepRisked risks (Err OutOfMemory) = Unit {0}
IsStepRisked risks (Err StartNotAllowed) = Unit {0}

-- so a step may be answered over a store of these risks, and leave this world
abbrev pub NextOver : Risks → WorldState → Step → Result Did StepError → WorldState → Type 0
NextOver risks w step answer w' = Next w step answer w' × IsStepRisked risks answer

-- steps, with whatever answers, lead from one world to another
abbrev pub Leads : WorldState → List Step → WorldState → Type 0
Leads w [] w' = w' ≡ w
Leads w (step ∷ steps) w' =
    (answer : Result Did StepError) × (between : WorldState) × Next w step answer between × Leads between steps w'

-- nothing is held, or a record whose timestamp is its start
abbrev pub IsAtStart : Option Saved → Type 0
IsAtStart None = Unit {0}
IsAtStart (Some saved) = saved.timestamp ≡ saved.start

-- steps lead to this world from one in which nothing has happened, over a store that holds nothing, or a timestamp that
-- is its start
pub record IsReached (w : WorldState) : Type 0 where
  pub bindings : List Arguments
  pub window : ℕ
  pub held : Option Saved
  pub steps : List Step
  pub at_start : IsAtStart held
  pub leads : Leads (new_world bindings window held) steps w
