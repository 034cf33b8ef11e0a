-- What the actors of a world do in a step. Cited by private contracts alone.
use Rattle.std.specs.Prelude.{◌≡◌, ℕ, ◌-◌, ◌==◌, nat_lt, Bool, true, false, Option, Some, None, Result, Ok, Err, List, [], ◌∷◌, ◌++◌, if◌then◌else◌, length, replicate, take}
use Rattle.std.specs.declared.alloc.AllocError.{AllocError}
use Rattle.cdc_broker.specs.Broker.{BrokerState, after_packet, empty_broker, queue_of, takes_packet, with_queue}
use Rattle.cdc_broker.specs.Queues.{with_delivery}
use Rattle.cdc_ledger.specs.Events.{events}
use Rattle.cdc_ledger.specs.History.{History, empty_history}
use Rattle.cdc_laws.specs.Log.{events_after}
use Rattle.cdc_match.specs.Arguments.{Arguments}
use Rattle.cdc_message.specs.declared.items.Delivery.{Delivery}
use Rattle.cdc_message.specs.declared.packets.Confirm.{Confirm}
use Rattle.cdc_message.specs.declared.packets.Packet.{Packet}
use Rattle.cdc_publisher.specs.Courses.{Course, next_packet, next_poll, with_offer, with_sent}
use Rattle.cdc_publisher.specs.SessionState.{SessionState}
use Rattle.cdc_publisher.specs.Stands.{StandsFor}
use Rattle.cdc_publisher.specs.declared.session.Poll.{Poll}
use Rattle.cdc_subscriber.specs.Answers.{answer_to}
use Rattle.cdc_subscriber.specs.Reception.{Reception, kept_of, next as next_reception, nothing}
use Rattle.cdc_subscriber.specs.declared.subscriber.Taking.{Taking}
use Rattle.cdc_types.specs.declared.steps.Step.{Step}
use Rattle.cdc_world.specs.declared.steps.Did.{Did}
use Rattle.cdc_world.specs.declared.steps.StepError.{StepError}
use Rattle.cdc_world.specs.declared.steps.StepError.TheVariants.{NotEnabled, Refused, Store, SessionsExhausted, OutOfMemory, StartNotAllowed}
use Rattle.cdc_laws.specs.Readings.{none_follow}
use Rattle.cdc_world.specs.Next.{Next, confirms_of}
use Rattle.cdc_world.specs.Parts.{ActorParts, SubscriptionParts}
use Rattle.cdc_world.specs.Stands.{ActorsStand}
use Rattle.cdc_world.specs.Worlds.{WorldState}

-- a step isn't refused for the store's sake
abbrev pub IsNotOfStore : StepError → Type 0
IsNotOfStore (Store why) = ⊥
IsNotOfStore NotEnabled = Unit {0}
IsNotOfStore (Refused why) = Unit {0}
IsNotOfStore SessionsExhausted = Unit {0}
IsNotOfStore OutOfMemory = Unit {0}
IsNotOfStore StartNotAllowed = Unit {0}

-- nor is one that is done
abbrev pub IsOfActors : Result Did StepError → Type 0
IsOfActors (Ok did) = Unit {0}
IsOfActors (Err why) = IsNotOfStore why

-- the kept state of the actors changes like this by a step that leaves the store alone: whatever world it
-- represented, it now represents one that the step may leave, in which the store holds what it held
abbrev pub ActorsMove : ActorParts → Step → Result Did StepError → ActorParts → Type 0
ActorsMove a step answer a' =
    IsOfActors answer × ((w : WorldState) → ActorsStand a w
    → (w' : WorldState) × (ActorsStand a' w' × (Next w step answer w' × (w'.held ≡ w.held))))

-- what is kept of a subscription that nothing has come to
abbrev pub empty_subscription : SubscriptionParts
empty_subscription = record { kept = kept_of nothing; flight = []; acks = [] }

-- the kept state of actors that have done nothing, with a subscription for each of these bindings
abbrev pub empty_actors : List Arguments → ℕ → ActorParts
empty_actors bindings window = record {
  history = empty_history;
  window = window;
  session = None;
  packets = [];
  broker = empty_broker bindings;
  confirms = [];
  subscriptions = replicate (length bindings) empty_subscription;
}

-- a session that represents a course is offered the events of a ledger that it wants, if it wants any
abbrev pub OffersAt : History → SessionState → Course → Option Poll → Result (Unit {0}) StepError → SessionState
    → Type 0
OffersAt h kept course None answer kept' = (answer ≡ Err NotEnabled) × (kept' ≡ kept)
OffersAt h kept course (Some poll) (Ok _) kept' =
    StandsFor kept' (with_offer (take poll.limit (events_after poll.after (events h))) (none_follow h poll) course)
OffersAt h kept course (Some poll) (Err why) kept' = (why ≡ OutOfMemory) × (kept' ≡ kept)

-- the same, whatever course it represents
abbrev pub Offers : History → SessionState → Result (Unit {0}) StepError → SessionState → Type 0
Offers h kept answer kept' = (course : Course) → StandsFor kept course
    → OffersAt h kept course (next_poll course) answer kept'

-- a session that represents a course sends its next packet, if there is one, which is added after those that were
-- sent
abbrev pub SendsAt : SessionState → List Packet → Course → Option Packet → Result (Unit {0}) StepError → SessionState
    → List Packet
    → Type 0
SendsAt kept packets course None answer kept' packets' = (answer ≡ Err NotEnabled) × ((kept' ≡ kept)
    × (packets' ≡ packets))
SendsAt kept packets course (Some packet) (Ok _) kept' packets' =
    StandsFor kept' (with_sent (Some packet) course) × (packets' ≡ packets ++ packet ∷ [])
SendsAt kept packets course (Some packet) (Err why) kept' packets' =
    (why ≡ OutOfMemory) × ((kept' ≡ kept) × (packets' ≡ packets))

-- the same, whatever course it represents
abbrev pub Sends : SessionState → List Packet → Result (Unit {0}) StepError → SessionState → List Packet → Type 0
Sends kept packets answer kept' packets' =
    (course : Course) → StandsFor kept course → SendsAt kept packets course (next_packet course) answer kept' packets'

-- a packet comes to a broker, and is confirmed if it is taken and has a confirm; if memory runs out, nothing changes
abbrev pub ComesTo : BrokerState → List Confirm → Packet → Result Bool AllocError → BrokerState → List Confirm → Type 0
ComesTo b confirms packet (Ok true) b' confirms' =
    (takes_packet b packet ≡ true) × ((b' ≡ after_packet b packet) × (confirms' ≡ confirms ++ confirms_of packet))
ComesTo b confirms packet (Ok false) b' confirms' =
    (takes_packet b packet ≡ false) × ((b' ≡ b) × (confirms' ≡ confirms))
ComesTo b confirms packet (Err _) b' confirms' = (b' ≡ b) × (confirms' ≡ confirms)

-- a queue makes its next delivery, if there is one, which is added after those on their way to a subscriber
abbrev pub DeliversAt : ℕ → BrokerState → SubscriptionParts → Option Delivery → Result (Unit {0}) StepError
    → BrokerState
    → SubscriptionParts
    → Type 0
DeliversAt i b s None answer b' s' = (answer ≡ Err NotEnabled) × ((b' ≡ b) × (s' ≡ s))
DeliversAt i b s (Some delivery) (Ok _) b' s' =
    (b' ≡ with_queue i (with_delivery (Some delivery) (queue_of b i)) b)
    × (s' ≡ record s { flight = s.flight ++ delivery ∷ [] })
DeliversAt i b s (Some delivery) (Err why) b' s' = (why ≡ OutOfMemory) × ((b' ≡ b) × (s' ≡ s))

-- a subscriber has taken a delivery, and left these: it answers, acknowledges the position and receives the item
pub record HasTakenFirst (s : SubscriptionParts) (delivery : Delivery) (rest : List Delivery) (answer : Taking)
    (s' : SubscriptionParts) : Type 0 where
  pub answers : answer ≡ answer_to s.kept delivery.item
  pub flight : s'.flight ≡ rest
  pub acks : s'.acks ≡ s.acks ++ delivery.position ∷ []
  pub receives : (reception : Reception) → s.kept ≡ kept_of reception
      → s'.kept ≡ kept_of (next_reception reception delivery.item)

-- a subscriber takes the first of the deliveries on their way to it, if there is one
abbrev pub TakesAt : SubscriptionParts → List Delivery → Result Taking StepError → SubscriptionParts → Type 0
TakesAt s [] answer s' = (answer ≡ Err NotEnabled) × (s' ≡ s)
TakesAt s (delivery ∷ rest) (Ok taking) s' = HasTakenFirst s delivery rest taking s'
TakesAt s (delivery ∷ rest) (Err why) s' = (why ≡ OutOfMemory) × (s' ≡ s)

-- a subscriber closes, and nothing else changes
pub record HasClosed (s s' : SubscriptionParts) : Type 0 where
  pub flight : s'.flight ≡ s.flight
  pub acks : s'.acks ≡ s.acks
  pub closes : (reception : Reception) → s.kept ≡ kept_of reception
      → s'.kept ≡ kept_of (record reception { closed = true })

-- the place of a number, from 1 on, among so many
abbrev pub place_in : ℕ → ℕ → Option ℕ
place_in i count = if i == 0 then None else (if nat_lt (i - 1) count then Some (i - 1) else None)
