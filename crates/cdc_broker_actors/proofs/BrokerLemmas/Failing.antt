-- How far the broker actor has come when a part of its turn fails.
use Rattle.cdc_broker_actors.proofs.Words.{if◌then◌else◌, ◌++◌, ◌+◌, ◌-◌, ◌<◌, ◌∙◌, ◌∷◌, ◌≡◌, ◌≤◌, ◌⊎◌, Ack, AreStopping, Bool, Broken, BrokerCore, BrokerPlan, BrokerState, BrokersComeSoFar, Confirm, Consumer, Dealings, DeliversSoFar, Delivery, Err, FollowsToBroker, HasArrived, HasBecome, HasDelivered, HasFailed, HasReceived, HasReceivedAll, HasReceivedNext, HasSameLinks, HasTaken, IfErr, Incoming, IsBrokerCore, IsBrokerSoFar, IsConsumerServed, IsCutOff, IsServedSoFar, IsStuck, IsUnanswered, Lane, LinkId, List, None, Ok, Option, OutOfMemory, Outgoing, Packet, PeerGone, QueueState, Result, RunFault, Some, Takes, TakesMany, ToBroker, ToSubscriber, [], acked_if, acks_at, all_served, answer_after, ap, append-nil, ap₂, arith, coming_if, confirm_of, counted, dealings, dealings_of, deliveries_in, false, inl, inr, is_lost, lane_of, length, length-set, next_delivery, of_sender, of_sender-snoc_other, of_sender-snoc_own, packets_in, queue_of, reception, refl, same_Some, served_if, slice_get, slice_get_within, slice_set, subst, suc, sym, taken_of, takes_packet, true, with_coming, with_counted, with_delivery, with_lane, with_next, with_packet, with_queue, with_received, with_stop, zero, ℕ}
use Rattle.cdc_actor_work.specs.Faults.{IsTurnFault}
use Rattle.cdc_broker_actors.proofs.BrokerLemmas.Dealing.{packets_in-push}
use Rattle.cdc_broker_actors.proofs.BrokerLemmas.Receiving.{IsBrokerCore-packet, made_packet, served_one}
use Rattle.cdc_broker_actors.proofs.BrokerLemmas.Lanes.{DeliversOn, queue_of-with, with_queue-twice}
use Rattle.cdc_broker_actors.proofs.BrokerLemmas.Linked.{all_same, coming_same, lane_same, next_linked, next_same, same_links, then_same}
use Rattle.cdc_broker_actors.proofs.BrokerLemmas.Places.{HoldsOfAll, HoldsOfAll-set}
use Rattle.cdc_broker_actors.proofs.BrokerLemmas.Serving.{HasArrived-queue, HasSameItems, IsConsumerServed-stop, next_served, same_next}
use Rattle.cdc_broker_actors.proofs.BrokerLemmas.Subscribers.{stopped_up_to}
use Rattle.cdc_traffic.specs.declared.messages.ToBroker.TheVariants as to_broker

-- ---- what was sent to a subscriber

served_so_far : (finished : Bool) (prefetch acks : ℕ) (q : QueueState) (c : Consumer)
    → IsConsumerServed finished prefetch acks q c → IsServedSoFar q c
served_so_far finished prefetch acks q c is =
    record { broker = is.broker; stopped = finished; sent = is.sent; replay = is.delivered.replay }

-- whatever its queue has done besides
moved_so_far : (q q' : QueueState) (c c' : Consumer) → q'.items ≡ q.items → c'.link ≡ c.link → IsServedSoFar q c
    → IsServedSoFar q' c'
moved_so_far q q' c c' items link is =
    rw link (record { broker = is.broker; stopped = is.stopped; sent = is.sent; replay = rw items is.replay })

-- with its last message
stopped_so_far : (prefetch acks : ℕ) (q : QueueState) (c : Consumer) → IsConsumerServed false prefetch acks q c
    → IsServedSoFar q (with_stop c)
stopped_so_far prefetch acks q c is =
    served_so_far true prefetch acks q (with_stop c) (IsConsumerServed-stop prefetch acks q c is)

-- ---- at any time

-- all that an actor had received came to its broker, and was answered. Since then these packets were received at most,
-- which haven't come, and its queues and its subscribers have changed
abbrev so_far_with : (d : BrokerCore) → IsBrokerCore d → (inbox : Incoming ToBroker (Unit {0})) (publishes : ℕ)
    (b : BrokerState) (consumers : List Consumer) (uncome : List Packet) → inbox.senders ≡ length consumers + 1
    → length b.queues ≡ length consumers
    → packets_in (of_sender 0 inbox.received) ≡ packets_in (of_sender 0 d.inbox.received) ++ uncome
    → length uncome ≤ 1 → HasArrived b (dealings_of d).arrived (dealings_of d).confirms
    → HoldsOfAll (λ k q c. IsServedSoFar q c) b consumers
    → IsBrokerSoFar (record d { inbox = inbox; publishes = publishes; broker = b; consumers = consumers })
so_far_with d is inbox publishes b consumers uncome senders queues all few arrived served = record {
  senders = senders;
  own = is.own;
  queues = queues;
  come = packets_in (of_sender 0 d.inbox.received);
  uncome = uncome;
  all = all;
  confirms = (dealings_of d).confirms;
  unsent = [];
  answered = sym (append-nil (dealings_of d).confirms);
  at_most_one = omega (arith, few);
  arrived = arrived;
  confirmed = is.confirmed;
  served = served;
}

all_come : (d : BrokerCore)
    → packets_in (of_sender 0 d.inbox.received) ≡ packets_in (of_sender 0 d.inbox.received) ++ []
all_come d = sym (append-nil (packets_in (of_sender 0 d.inbox.received)))

none_yet : 0 ≤ 1
none_yet = omega arith

-- its subscribers are served whatever comes
served_as_yet : (d : BrokerCore) → IsBrokerCore d → HoldsOfAll (λ k q c. IsServedSoFar q c) d.broker d.consumers
served_as_yet d is place c found =
    served_so_far d.finished d.prefetch (acks_at d place) (queue_of d.broker (place + 1)) c (is.served place c found)

core_so_far : (d : BrokerCore) → IsBrokerCore d → IsBrokerSoFar d
core_so_far d is =
    so_far_with d is d.inbox d.publishes d.broker d.consumers [] is.senders is.queues (all_come d) none_yet is.arrived
    (served_as_yet d is)

pub brokers_come_so_far : BrokersComeSoFar
brokers_come_so_far d end = core_so_far d end.core

-- ---- delivery from a queue stops

-- what stays so of it while it is
pub record StillServed (number prefetch : ℕ) (first : BrokerState) (one : Consumer) (b : BrokerState) (c : Consumer)
    : Type 0 where
  pub same : HasSameItems (queue_of first number) (queue_of b number)
  pub link : c.link.link ≡ one.link.link
  pub served : (acks : ℕ) → IsConsumerServed false prefetch acks (queue_of first number) one
      → IsConsumerServed false prefetch acks (queue_of b number) c

pub still_first : (number prefetch : ℕ) (first : BrokerState) (one : Consumer)
    → StillServed number prefetch first one first one
still_first number prefetch first one =
    record { same = record { binding = refl; items = refl }; link = refl; served = λ acks is. is }

module _ (repeats : List (ℕ × ℕ)) (number prefetch : ℕ) (first : BrokerState) (one : Consumer)
    (b : BrokerState) (c : Consumer) (on : DeliversOn repeats number prefetch first one b c)
    (still : StillServed number prefetch first one b c) where
  pub still_next : (new : BrokerState) (after : Consumer)
      → HasBecome number (with_next repeats number (next_delivery (queue_of b number)) (lane_of b number c)) b new after
      → c.unacked < prefetch → StillServed number prefetch first one new after
  still_next new after became few =
      let next : Lane = with_next repeats number (next_delivery (queue_of b number)) (lane_of b number c) in
      let queue : queue_of new number ≡ next.queue =
      ap (λ (x : BrokerState). queue_of x number) became.broker ∙ queue_of-with b number next.queue on.inside in
      let kept = same_next repeats number (next_delivery (queue_of b number)) (lane_of b number c) in
      record {
        same = rw queue (record { binding = kept.binding ∙ still.same.binding; items = kept.items ∙ still.same.items });
        link = ap (λ (x : Consumer). x.link.link) became.consumer
            ∙ next_linked repeats number (next_delivery (queue_of b number)) (lane_of b number c)
            ∙ still.link;
        served = λ acks is.
            rw queue (rw became.consumer
            (next_served prefetch acks repeats number (next_delivery (queue_of b number)) (lane_of b number c) refl few
            (still.served acks is)));
      }

  given_items : (found : Option Delivery) → (with_delivery found (queue_of b number)).items ≡ (queue_of b number).items
  given_items None = refl
  given_items (Some d) = refl

  given_binding : (found : Option Delivery)
      → (with_delivery found (queue_of b number)).binding ≡ (queue_of b number).binding
  given_binding None = refl
  given_binding (Some d) = refl

  pub stuck_so : (fault : RunFault) (new : BrokerState) (after : Consumer) → DeliversSoFar number b c fault new after
      → IsStuck number prefetch first one fault new after
  stuck_so PeerGone new after (some, gone, link) =
      let queue : QueueState = with_delivery (next_delivery (queue_of b number)) (queue_of b number) in
      record {
        queue = queue;
        binding = given_binding (next_delivery (queue_of b number)) ∙ still.same.binding;
        items = given_items (next_delivery (queue_of b number)) ∙ still.same.items;
        broker = gone
            ∙ ap (λ (x : BrokerState). with_queue number queue x) on.broker
            ∙ with_queue-twice first number (queue_of b number) queue;
        link = ap (λ (l : Outgoing ToSubscriber (Unit {0})). l.link) link ∙ still.link;
        served = λ acks is.
            moved_so_far (queue_of b number) queue c after (given_items (next_delivery (queue_of b number))) link
            (served_so_far false prefetch acks (queue_of b number) c (still.served acks is));
        memory = λ short acks is. cc;
      }
  stuck_so OutOfMemory new after (same, same_one) = record {
    queue = queue_of b number;
    binding = still.same.binding;
    items = still.same.items;
    broker = same ∙ on.broker;
    link = ap (λ (x : Consumer). x.link.link) same_one ∙ still.link;
    served = λ acks is.
        moved_so_far (queue_of b number) (queue_of b number) c after refl (ap (λ (x : Consumer). x.link) same_one)
        (served_so_far false prefetch acks (queue_of b number) c (still.served acks is));
    memory = λ short acks is.
        rw same_one (still.served acks is).delivered;
  }
  stuck_so other new after delivers = absurd delivers

-- so the turn is cut off there
module _ (d : BrokerCore) (is : IsBrokerCore d) (goes : d.finished ≡ false) (place : ℕ) (c : Consumer)
    (found : slice_get d.consumers place ≡ Some c) where
  stuck_core : (fault : RunFault) (lane : Lane) → lane.queue.binding ≡ (queue_of d.broker (place + 1)).binding
      → lane.queue.items ≡ (queue_of d.broker (place + 1)).items → lane.consumer.link.link ≡ c.link.link
      → IsServedSoFar lane.queue lane.consumer
      → (fault ≡ OutOfMemory → HasDelivered lane.queue (deliveries_in lane.consumer.link.sent))
      → IsCutOff d fault (with_lane place lane d)
  stuck_core fault lane binding items link served memory =
      let inside : place < length d.consumers = slice_get_within d.consumers place c found in
      let queued : place < length d.broker.queues = omega (arith, is.queues, inside) in
      let queued' : place + 1 - 1 < length d.broker.queues = omega (arith, queued) in
      let P : ℕ → QueueState → Consumer → Type 0 = λ k q x. IsConsumerServed d.finished d.prefetch (acks_at d k) q x in
      let Q : ℕ → QueueState → Consumer → Type 0 = λ k q x. IsServedSoFar q x in
      let H : ℕ → QueueState → Consumer → Type 0 = λ k q x. HasDelivered q (deliveries_in x.link.sent) in
      let many = length-set d.consumers place lane.consumer in
      record {
        links = lane_same d place c lane found link binding;
        plan = refl;
        finished = refl;
        inbox = refl;
        so_far = so_far_with d is d.inbox d.publishes (with_queue (place + 1) lane.queue d.broker)
            (slice_set d.consumers place lane.consumer) [] (is.senders ∙ ap (λ (n : ℕ). n + 1) (sym many))
            (length-set d.broker.queues (place + 1 - 1) lane.queue ∙ is.queues ∙ sym many) (all_come d) none_yet
            (HasArrived-queue d.broker (dealings_of d).arrived (dealings_of d).confirms (place + 1) lane.queue queued'
            is.arrived (record { binding = binding; items = items }))
            (HoldsOfAll-set P Q d.broker d.consumers place lane.queue lane.consumer queued inside is.served
            (λ k q x other one. served_so_far d.finished d.prefetch (acks_at d k) q x one) served);
        memory = λ short. (
          refl,
          HoldsOfAll-set P H d.broker d.consumers place lane.queue lane.consumer queued inside is.served
              (λ k q x other one. one.delivered) (memory short),
        );
      }

  pub cut_stuck : (fault : RunFault) (b : BrokerState) (after : Consumer)
      → IsStuck (place + 1) d.prefetch d.broker c fault b after
      → IsCutOff d fault (record d { broker = b; consumers = slice_set d.consumers place after })
  cut_stuck fault b after stuck =
      rw stuck.broker
      (stuck_core fault (record { queue = stuck.queue; consumer = after }) stuck.binding stuck.items stuck.link
      (stuck.served (acks_at d place) (served_one d is goes place c found))
      (λ short. stuck.memory short (acks_at d place) (served_one d is goes place c found)))

-- after queues whose deliveries were all sent
pub record KeepsRest (old new : BrokerCore) : Type 0 where
  pub plan : new.plan ≡ old.plan
  pub finished : new.finished ≡ old.finished
  pub inbox : new.inbox ≡ old.inbox

coming_keeps : (lost takes : Bool) (packet : Packet) (d : BrokerCore)
    → KeepsRest d (coming_if lost takes packet (with_counted packet d))
coming_keeps true takes packet d = assumption
coming_keeps false true packet d = assumption
coming_keeps false false packet d = assumption

keeps_served : (d : BrokerCore) (place : ℕ) (found : Option Consumer) → KeepsRest d (served_if place found d)
keeps_served d place None = record { plan = refl; finished = refl; inbox = refl }
keeps_served d place (Some c) = record { plan = refl; finished = refl; inbox = refl }

pub all_keep : (n : ℕ) (d : BrokerCore) → KeepsRest d (all_served n d)
all_keep zero d = record { plan = refl; finished = refl; inbox = refl }
all_keep (suc n) d =
    let one = keeps_served (all_served n d) n (slice_get (all_served n d).consumers n) in
    let rest = all_keep n d in
    record { plan = one.plan ∙ rest.plan; finished = one.finished ∙ rest.finished; inbox = one.inbox ∙ rest.inbox }

pub cut_served : (n : ℕ) (old mid new : BrokerCore) (fault : RunFault) → mid ≡ all_served n old → IsCutOff mid fault new
    → IsCutOff old fault new
cut_served n old mid new fault is cut =
    let keep = all_keep n old in
    record {
      links = then_same old mid new (rw is (all_same n old)) cut.links;
      plan = cut.plan ∙ ap (λ (d : BrokerCore). d.plan) is ∙ keep.plan;
      finished = cut.finished ∙ ap (λ (d : BrokerCore). d.finished) is ∙ keep.finished;
      inbox = cut.inbox ∙ ap (λ (d : BrokerCore). d.inbox) is ∙ keep.inbox;
      so_far = cut.so_far;
      memory = cut.memory;
    }

-- ---- subscribers are sent their last message

stopping_later : (x c : Consumer) (old new : List Consumer) → x.link.link ≡ c.link.link → (x ≡ c) ⊎ (x ≡ with_stop c)
    → AreStopping old new → AreStopping (c ∷ old) (x ∷ new)
stopping_later x c old new link how rest = record {
  many = ap suc rest.many;
  links = ap₂ (λ (l : LinkId ToSubscriber) (ls : List (LinkId ToSubscriber)). l ∷ ls) link rest.links;
  each = at;
}
  where
    at : (place : ℕ) (y : Consumer) → slice_get (x ∷ new) place ≡ Some y
        → (before : Consumer) × ((slice_get (c ∷ old) place ≡ Some before) × ((y ≡ before) ⊎ (y ≡ with_stop before)))
    at zero y found =
        let same : x ≡ y = same_Some x y found in
        (c, (refl, rw same at how))
    at (suc place) y found = rest.each place y found

stopping_same : (old : List Consumer) → AreStopping old old
stopping_same old = record { many = refl; links = refl; each = λ place c found. (c, (found, inl refl)) }

stopping : (n : ℕ) (old : List Consumer) → AreStopping old (stopped_up_to n old)
stopping zero old = stopping_same old
stopping (suc n) [] = stopping_same []
stopping (suc n) (c ∷ old) = stopping_later (with_stop c) c old (stopped_up_to n old) refl (inr refl) (stopping n old)

pub stopping_so : (n : ℕ) (old new : List Consumer) → new ≡ stopped_up_to n old → AreStopping old new
stopping_so n old new is = rw is (stopping n old)

module _ (d : BrokerCore) (is : IsBrokerCore d) (goes : d.finished ≡ false) (new : List Consumer)
    (stopping : AreStopping d.consumers new) where
  stop_served : (place : ℕ) (c : Consumer) → slice_get new place ≡ Some c
      → IsServedSoFar (queue_of d.broker (place + 1)) c
  stop_served place c found =
      let from = stopping.each place c found in
      let one = served_one d is goes place from.0 from.1.0 in
      elim from.1.1 [
        | inl same ↦
            rw same (served_so_far false d.prefetch (acks_at d place) (queue_of d.broker (place + 1)) from.0 one)
        | inr stopped ↦
            rw stopped (stopped_so_far d.prefetch (acks_at d place) (queue_of d.broker (place + 1)) from.0 one)
      ]

  pub cut_stopping : (fault : RunFault) → fault ≡ PeerGone → IsCutOff d fault (record d { consumers = new })
  cut_stopping fault gone = record {
    links = assumption;
    plan = refl;
    finished = refl;
    inbox = refl;
    so_far = so_far_with d is d.inbox d.publishes d.broker new []
        (is.senders ∙ ap (λ (n : ℕ). n + 1) (sym stopping.many)) (is.queues ∙ sym stopping.many) (all_come d) none_yet
        is.arrived stop_served;
    memory = λ short. cc;
  }

-- ---- a message couldn't be taken

-- it is received
abbrev pub with_entry : BrokerCore → ℕ × (ToBroker × Unit {0}) → BrokerCore
with_entry d entry = record d { inbox = with_received d.inbox entry }

-- the confirm of one packet more
abbrev made_if : BrokerPlan → Dealings → Packet → Bool → Dealings
made_if plan made packet lost = if lost
    then record {
      publishes = counted made.publishes packet;
      arrived = made.arrived;
      confirms = made.confirms ++ confirm_of packet Broken ∷ [];
    }
    else record {
      publishes = counted made.publishes packet;
      arrived = made.arrived ++ packet ∷ [];
      confirms = made.confirms ++ confirm_of packet (answer_after plan (taken_of made.arrived) packet) ∷ [];
    }

one_confirm_if : (plan : BrokerPlan) (made : Dealings) (packet : Packet) (lost : Bool)
    → (confirm : Confirm) × ((made_if plan made packet lost).confirms ≡ made.confirms ++ confirm ∷ [])
one_confirm_if plan made packet true = (confirm_of packet Broken, refl)
one_confirm_if plan made packet false = (confirm_of packet (answer_after plan (taken_of made.arrived) packet), refl)

one_confirm : (plan : BrokerPlan) (made : Dealings) (packet : Packet)
    → (confirm : Confirm) × ((with_packet plan made packet).confirms ≡ made.confirms ++ confirm ∷ [])
one_confirm plan made packet = one_confirm_if plan made packet (is_lost plan made.publishes packet)

module _ (d : BrokerCore) (is : IsBrokerCore d) (packet : Packet) where
  abbrev entry : ℕ × (ToBroker × Unit {0})
  entry = (0, (to_broker.Packet packet, tt))

  abbrev came : BrokerCore
  came = with_entry d entry

  packets_more : packets_in (of_sender 0 came.inbox.received) ≡ packets_in (of_sender 0 d.inbox.received) ++ packet ∷ []
  packets_more =
      ap packets_in (of_sender-snoc_own entry d.inbox.received)
      ∙ packets_in-push (of_sender 0 d.inbox.received) entry.1

  -- it hasn't come to the broker, however it was counted
  abbrev uncome_so_far : (publishes : ℕ) → IsBrokerSoFar (record came { publishes = publishes })
  uncome_so_far publishes =
      so_far_with d is came.inbox publishes d.broker d.consumers (packet ∷ []) is.senders is.queues packets_more
      (omega arith) is.arrived (served_as_yet d is)

  -- it has, and wasn't answered
  unconfirmed : (lost takes : Bool) → IsBrokerCore (coming_if lost takes packet (with_counted packet came))
      → IsBrokerSoFar (record (coming_if lost takes packet (with_counted packet came)) { confirms = d.confirms })
  unconfirmed lost takes after = go lost takes after
    where
      one : (confirm : Confirm) × ((dealings_of came).confirms ≡ (dealings_of d).confirms ++ confirm ∷ [])
      one =
          let last = one_confirm d.plan (dealings_of d) packet in
          (last.0, ap (λ (x : Dealings). x.confirms) (made_packet d is tt packet) ∙ last.1)

      with_core : (m : BrokerCore) → m.inbox ≡ came.inbox → m.plan ≡ d.plan → IsBrokerCore m
          → IsBrokerSoFar (record m { confirms = d.confirms })
      with_core m inbox plan it =
          let same : dealings_of m ≡ dealings_of came =
          ap₂ (λ (p : BrokerPlan) (i : Incoming ToBroker (Unit {0})). dealings p (packets_in (of_sender 0 i.received)))
          plan inbox in
          record {
            senders = it.senders;
            own = is.own;
            queues = it.queues;
            come = packets_in (of_sender 0 m.inbox.received);
            uncome = [];
            all = sym (append-nil (packets_in (of_sender 0 m.inbox.received)));
            confirms = (dealings_of d).confirms;
            unsent = one.0 ∷ [];
            answered = ap (λ (x : Dealings). x.confirms) same ∙ one.1;
            at_most_one = omega arith;
            arrived = it.arrived;
            confirmed = is.confirmed;
            served = served_as_yet m it;
          }

      go : (lost takes : Bool) → IsBrokerCore (coming_if lost takes packet (with_counted packet came))
          → IsBrokerSoFar (record (coming_if lost takes packet (with_counted packet came)) { confirms = d.confirms })
      go true takes it = with_core (coming_if true takes packet (with_counted packet came)) refl refl it
      go false true it = with_core (coming_if false true packet (with_counted packet came)) refl refl it
      go false false it = with_core (coming_if false false packet (with_counted packet came)) refl refl it

  unconfirmed_so_far : IsBrokerSoFar (record (with_coming packet came) { confirms = d.confirms })
  unconfirmed_so_far =
      unconfirmed (is_lost d.plan d.publishes packet) (takes_packet d.broker packet)
      (IsBrokerCore-packet d is tt packet)

  unconfirmed_same : (lost takes : Bool)
      → HasSameLinks came (record (coming_if lost takes packet (with_counted packet came)) { confirms = d.confirms })
  unconfirmed_same true takes = assumption
  unconfirmed_same false true = assumption (coming_same false true packet came)
  unconfirmed_same false false = assumption

  pub cut_packet : (fault : RunFault) (new : BrokerCore) → IsUnanswered packet came fault new → IsCutOff came fault new
  cut_packet PeerGone new (inl (full, after)) =
      rw after (record {
        links = assumption;
        plan = refl;
        finished = refl;
        inbox = refl;
        so_far = uncome_so_far new.publishes;
        memory = λ short. cc;
      })
  cut_packet PeerGone new (inr after) =
      let lost : Bool = is_lost d.plan d.publishes packet in
      let takes : Bool = takes_packet d.broker packet in
      let keeps = coming_keeps lost takes packet came in
      rw after (record {
        links = unconfirmed_same lost takes;
        plan = keeps.plan;
        finished = keeps.finished;
        inbox = keeps.inbox;
        so_far = unconfirmed_so_far;
        memory = λ short. cc;
      })
  cut_packet OutOfMemory new after =
      rw after (record {
        links = assumption;
        plan = refl;
        finished = refl;
        inbox = refl;
        so_far = uncome_so_far (with_counted packet came).publishes;
        memory = λ short. (refl, λ place c found. (is.served place c found).delivered);
      })
  cut_packet other new un = absurd un

-- an acknowledgement isn't due
pub cut_ack : (d : BrokerCore) → IsBrokerCore d → (j : ℕ) (ack : Ack) (fault : RunFault) (new : BrokerCore)
    → fault ≡ PeerGone → 0 < j
    → new ≡ with_entry d (j, (to_broker.Ack ack, tt)) → IsCutOff (with_entry d (j, (to_broker.Ack ack, tt))) fault new
cut_ack d is j ack fault new gone first same =
    let entry : ℕ × (ToBroker × Unit {0}) = (j, (to_broker.Ack ack, tt)) in
    let packets : packets_in (of_sender 0 (d.inbox.received ++ entry ∷ []))
    ≡ packets_in (of_sender 0 d.inbox.received) =
    ap packets_in (of_sender-snoc_other 0 entry d.inbox.received (λ e. absurd (omega (arith, e, first)))) in
    rw same (record {
      links = assumption;
      plan = refl;
      finished = refl;
      inbox = refl;
      so_far = so_far_with d is (with_entry d entry).inbox d.publishes d.broker d.consumers [] is.senders is.queues
          (packets ∙ all_come d) none_yet is.arrived (served_as_yet d is);
      memory = λ short. cc;
    })

-- ---- a turn has failed

-- if all that it received before was handled
pub failed_of : (old mid new : BrokerCore) (fault : RunFault) → HasSameLinks old mid → mid.plan ≡ old.plan
    → mid.finished ≡ old.finished → (n : ℕ) × TakesMany FollowsToBroker n old.inbox mid.inbox → IsTurnFault fault
    → IsCutOff mid fault new → HasFailed old fault new
failed_of old mid new fault links plan finished receives kind cut = record {
  links = then_same old mid new links cut.links;
  plan = cut.plan ∙ plan;
  finished = cut.finished ∙ finished;
  inbox = (receives.0, rw cut.inbox receives.1);
  kind = kind;
  so_far = cut.so_far;
  memory = cut.memory;
}

-- nothing came
pub failed_unheard : (old new : BrokerCore) (fault : RunFault) → IsBrokerCore old → (fault ≡ PeerGone) × (new ≡ old)
    → HasFailed old fault new
failed_unheard old new fault is (gone, same) =
    rw same (record {
      links = same_links old;
      plan = refl;
      finished = refl;
      inbox = (0, refl);
      kind = inl gone;
      so_far = core_so_far old is;
      memory = λ short. cc;
    })

-- a message couldn't be taken
pub failed_message : (old new : BrokerCore) (fault : RunFault) (inbox : Incoming ToBroker (Unit {0}))
    (message : ToBroker) → Takes FollowsToBroker old.inbox message inbox → IsTurnFault fault
    → IsCutOff (record old { inbox = inbox }) fault new → HasFailed old fault new
failed_message old new fault inbox message takes kind cut =
    failed_of old (record old { inbox = inbox }) new fault
    (assumption (ap (λ (i : Incoming ToBroker (Unit {0})). i.link) takes.4)) refl refl
    (1, (message, inbox, takes, refl)) kind cut

-- what the reception of a message leaves
acked_keeps : (d : BrokerCore) (place position : ℕ) (found : Option Consumer)
    → KeepsRest d (acked_if place position found d)
acked_keeps d place position None = assumption
acked_keeps d place position (Some c) = assumption

received_keeps : (d : BrokerCore) (j : ℕ) (message : ToBroker) (name : Unit {0})
    → KeepsRest (with_entry d (j, (message, name))) (reception (j, (message, name)) d)
received_keeps d j (to_broker.Packet packet) name =
    coming_keeps (is_lost d.plan d.publishes packet) (takes_packet d.broker packet) packet
    (with_entry d (j, (to_broker.Packet packet, name)))
received_keeps d j to_broker.Finish name = assumption
received_keeps d j (to_broker.Ack ack) name =
    acked_keeps (with_entry d (j, (to_broker.Ack ack, name))) (ack.subscriber - 1) ack.position
    (slice_get d.consumers (ack.subscriber - 1))

pub next_takes : (old new : BrokerCore) (came : HasReceivedNext old new)
    → Takes FollowsToBroker old.inbox came.entry.1.0 new.inbox
next_takes old new came =
    let keeps = received_keeps old came.entry.0 came.entry.1.0 came.entry.1.1 in (
      came.entry.0,
      came.entry.1.1,
      came.sender,
      came.follows,
      ap (λ (d : BrokerCore). d.inbox) came.after ∙ keeps.inbox,
    )

failed_next : (old mid new : BrokerCore) (fault : RunFault) → HasReceivedNext old mid → HasFailed mid fault new
    → HasFailed old fault new
failed_next old mid new fault came has =
    let keeps = received_keeps old came.entry.0 came.entry.1.0 came.entry.1.1 in
    record {
      links = then_same old mid new (next_same old mid came) has.links;
      plan = has.plan ∙ (ap (λ (d : BrokerCore). d.plan) came.after ∙ keeps.plan);
      finished = has.finished ∙ (ap (λ (d : BrokerCore). d.finished) came.after ∙ keeps.finished);
      inbox = (suc has.inbox.0, (came.entry.1.0, mid.inbox, next_takes old mid came, has.inbox.1));
      kind = has.kind;
      so_far = has.so_far;
      memory = has.memory;
    }

-- several messages were handled, and then the turn failed
pub failed_after : (n : ℕ) (old mid new : BrokerCore) (fault : RunFault) → HasReceived n old mid
    → HasFailed mid fault new → HasFailed old fault new
failed_after zero old mid new fault same has = subst (λ (d : BrokerCore). HasFailed d fault new) same has
failed_after (suc n) old mid new fault (last, before, came) has =
    failed_after n old last new fault before (failed_next last mid new fault came has)

pub failed_then : (old mid new : BrokerCore) (fault : RunFault) → HasReceivedAll old mid → IsTurnFault fault
    → IsCutOff mid fault new → HasFailed old fault new
failed_then old mid new fault all kind cut =
    failed_after (suc all.more) old mid new fault all.received
    (failed_of mid mid new fault (same_links mid) refl refl (0, refl) kind cut)

-- ---- what a call that fails leaves

-- the kind of the fault
unanswered_kind : (packet : Packet) (old : BrokerCore) (fault : RunFault) (new : BrokerCore)
    → IsUnanswered packet old fault new → IsTurnFault fault
unanswered_kind packet old PeerGone new un = inl refl
unanswered_kind packet old OutOfMemory new un = inr refl
unanswered_kind packet old other new un = absurd un

unanswered_failed : {A : Type 0} (old new : BrokerCore) (inbox : Incoming ToBroker (Unit {0})) (packet : Packet)
    → IsBrokerCore old → Takes FollowsToBroker old.inbox (to_broker.Packet packet) inbox → (result : Result A RunFault)
    → IfErr result (λ fault. IsUnanswered packet (record old { inbox = inbox }) fault new)
    → IfErr result (λ fault. HasFailed old fault new)
unanswered_failed old new inbox packet is takes (Ok x) un = tt
unanswered_failed old new inbox packet is (j, name, below, follows, after) (Err fault) un =
    let here = after ∙ ap (λ (k : ℕ). with_received old.inbox (k, (to_broker.Packet packet, tt))) follows.may.0 in
    failed_message old new fault inbox (to_broker.Packet packet) (j, name, below, follows, after)
    (unanswered_kind packet (record old { inbox = inbox }) fault new un)
    (rw here (cut_packet old is packet fault new (rw here at un)))

pub packet_failed : {A : Type 0} (old here new : BrokerCore) (packet : Packet)
    → HasTaken old (to_broker.Packet packet) here → (result : Result A RunFault)
    → IfErr result (λ fault. IsUnanswered packet here fault new) → IfErr result (λ fault. HasFailed old fault new)
packet_failed old here new packet taken result un =
    unanswered_failed old new here.inbox packet taken.core taken.takes result (rw taken.after at un)

unacked_failed : {A : Type 0} (old new : BrokerCore) (inbox : Incoming ToBroker (Unit {0})) (ack : Ack)
    → IsBrokerCore old → Takes FollowsToBroker old.inbox (to_broker.Ack ack) inbox → (result : Result A RunFault)
    → IfErr result (λ fault. (fault ≡ PeerGone) × (new ≡ record old { inbox = inbox }))
    → IfErr result (λ fault. HasFailed old fault new)
unacked_failed old new inbox ack is takes (Ok x) refused = tt
unacked_failed old new inbox ack is (j, name, below, follows, after) (Err fault) (gone, same) =
    failed_message old new fault inbox (to_broker.Ack ack) (j, name, below, follows, after) (inl gone)
    (rw after (cut_ack old is j ack fault new gone follows.may.0
    (same ∙ ap (λ (i : Incoming ToBroker (Unit {0})). record old { inbox = i }) after)))

pub ack_failed : {A : Type 0} (old here new : BrokerCore) (ack : Ack) → HasTaken old (to_broker.Ack ack) here
    → (result : Result A RunFault) → IfErr result (λ fault. (fault ≡ PeerGone) × (new ≡ here))
    → IfErr result (λ fault. HasFailed old fault new)
ack_failed old here new ack taken result refused =
    unacked_failed old new here.inbox ack taken.core taken.takes result (rw taken.after at refused)
