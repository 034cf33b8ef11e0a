-- The broker actor keeps its invariant as it receives messages and as its queues deliver.
use Rattle.cdc_broker_actors.proofs.Words.{◌++◌, ◌+◌, ◌-◌, ◌<◌, ◌||◌, ◌∙◌, ◌∷◌, ◌≡◌, ◌≢◌, Ack, Bool, BrokerCore, BrokerState, Connect, Consumer, HasBecome, HasReceived, HasReceivedAll, HasReceivedIf, HasReceivedNext, HasTaken, Incoming, IsBrokerCore, IsConsumerServed, IsDue, Lane, List, MayAck, MayDeliver, MaySendBroker, None, Option, Packet, Publish, QueueState, Some, ToBroker, [], acked_if, acknowledged, acks_at, after_packet, ap, append-nil, ap₂, arith, coming_if, dealings, dealings_of, delivered_some, ends_to_broker, false, has_ended, inl, inr, is_lost, is_unknown, lane_of, length, length-map, length-set, length_push, next_delivery, of_sender, of_sender-snoc_other, of_sender-snoc_own, packets_in, queue_of, queued, reception, refl, served_if, slice_get, slice_get_within, slice_set, subst, suc, sym, takes_packet, true, with_ack, with_coming, with_counted, with_lane, with_one_fewer, with_packet, with_received, with_served, zero, ℕ}
use Rattle.cdc_broker_actors.proofs.BrokerLemmas.Dealing.{HasDealt, HasDealt-packet, dealings-push, packets_in-push}
use Rattle.cdc_broker_actors.proofs.BrokerLemmas.Places.{HoldsOfAll, HoldsOfAll-queues, HoldsOfAll-set, has_ended-push, slice_get_some}
use Rattle.cdc_broker_actors.proofs.BrokerLemmas.Serving.{HasArrived-queue, HasSameItems, IsConsumerServed-ack, IsConsumerServed-delivered_some, IsConsumerServed-queued, MayDeliver-served, delivered_some-all, same_delivered}
use Rattle.cdc_traffic.specs.declared.messages.ToBroker.TheVariants as to_broker

-- what a core has made of its packets
dealt : (d : BrokerCore) → IsBrokerCore d → HasDealt d.plan (dealings_of d) d
dealt d is = assumption

-- ---- one queue and its subscriber change

pub IsBrokerCore-lane : (d : BrokerCore) (place : ℕ) (lane : Lane) → IsBrokerCore d → place < length d.consumers
    → HasSameItems (queue_of d.broker (place + 1)) lane.queue
    → IsConsumerServed d.finished d.prefetch (acks_at d place) lane.queue lane.consumer
    → IsBrokerCore (with_lane place lane d)
IsBrokerCore-lane d place lane is inside same one =
    let queued : place < length d.broker.queues = omega (arith, is.queues) in
    let queued' : place + 1 - 1 < length d.broker.queues = omega (arith, queued) in
    let P : ℕ → QueueState → Consumer → Type 0 = λ k q c. IsConsumerServed d.finished d.prefetch (acks_at d k) q c in
    let many = length-set d.consumers place lane.consumer in
    let queues = length-set d.broker.queues (place + 1 - 1) lane.queue in
    assumption (
      is.senders ∙ ap (λ (n : ℕ). n + 1) (sym many),
      queues ∙ is.queues ∙ sym many,
      HasArrived-queue d.broker (dealings_of d).arrived (dealings_of d).confirms (place + 1) lane.queue queued'
          is.arrived same,
      HoldsOfAll-set P P d.broker d.consumers place lane.queue lane.consumer queued inside is.served
          (λ k q c other served. served) one,
    )

-- ---- the queues deliver

-- the first so many queues have delivered what they may
pub record IsServedTo (count n : ℕ) (d : BrokerCore) : Type 0 where
  pub core : IsBrokerCore d
  pub goes_on : d.finished ≡ false
  pub many : length d.consumers ≡ count
  pub eager : HoldsOfAll (λ k q c. k < n → c.unacked < d.prefetch → next_delivery q ≡ None) d.broker d.consumers

-- none of them
pub IsServedTo-first : (d : BrokerCore) → IsBrokerCore d → d.finished ≡ false → IsServedTo (length d.consumers) 0 d
IsServedTo-first d is goes =
    record { core = is; goes_on = goes; many = refl; eager = λ k c found below. absurd (omega (arith, below)) }

module _ (d : BrokerCore) (is : IsBrokerCore d) (goes : d.finished ≡ false) (place : ℕ) (c : Consumer)
    (found : slice_get d.consumers place ≡ Some c) where
  -- what was sent to one of the subscribers
  pub served_one : IsConsumerServed false d.prefetch (acks_at d place) (queue_of d.broker (place + 1)) c
  served_one = rw goes at (is.served place c found)

  -- its queue may deliver
  pub may_deliver : MayDeliver (lane_of d.broker (place + 1) c)
  may_deliver = MayDeliver-served d.prefetch (acks_at d place) (queue_of d.broker (place + 1)) c served_one

  abbrev lane_after : Lane
  lane_after = delivered_some d.plan.repeat.items (place + 1) (d.prefetch - c.unacked) (lane_of d.broker (place + 1) c)

  one_after : IsConsumerServed false d.prefetch (acks_at d place) lane_after.queue lane_after.consumer
  one_after =
      IsConsumerServed-delivered_some d.prefetch (acks_at d place) d.plan.repeat.items (place + 1)
      (d.prefetch - c.unacked) (lane_of d.broker (place + 1) c) (omega (arith, served_one.at_most)) served_one

  inside : place < length d.consumers
  inside = slice_get_within d.consumers place c found

  -- it delivers as much as it may
  eager_one : lane_after.consumer.unacked < d.prefetch → next_delivery lane_after.queue ≡ None
  eager_one few =
      let full_or_none = delivered_some-all d.plan.repeat.items (place + 1) (d.prefetch - c.unacked)
      (lane_of d.broker (place + 1) c) in
      elim full_or_none [
        | inl full ↦ absurd (omega (arith, full, few, served_one.at_most))
        | inr none ↦ none
      ]

  core_after : IsBrokerCore (with_lane place lane_after d)
  core_after = IsBrokerCore-lane d place lane_after is inside
      (same_delivered d.plan.repeat.items (place + 1) (d.prefetch - c.unacked) (lane_of d.broker (place + 1) c))
      (rw goes one_after)

  -- so one more queue is
  served_after : (count : ℕ) → IsServedTo count place d → IsServedTo count (suc place) (with_lane place lane_after d)
  served_after count so_far =
      let queued : place < length d.broker.queues = omega (arith, is.queues, inside) in
      let P : ℕ → QueueState → Consumer → Type 0 =
      λ k q x. k < place → x.unacked < d.prefetch → next_delivery q ≡ None in
      let Q : ℕ → QueueState → Consumer → Type 0 =
      λ k q x. k < suc place → x.unacked < d.prefetch → next_delivery q ≡ None in
      record {
        core = core_after;
        goes_on = goes;
        many = length-set d.consumers place lane_after.consumer ∙ so_far.many;
        eager = HoldsOfAll-set P Q d.broker d.consumers place lane_after.queue lane_after.consumer queued inside
            so_far.eager (λ k q x other old below few. old (below_other k other below) few)
            (λ below few. eager_one few);
      }
    where
      below_other : (k : ℕ) → (k ≡ place → ⊥) → k < suc place → k < place
      below_other k other below = omega (arith, below, other)

-- one more queue
pub IsServedTo-next : (count n : ℕ) (d : BrokerCore) → IsServedTo count n d → n < count
    → IsServedTo count (suc n) (with_served n d)
IsServedTo-next count n d so_far below =
    let there = slice_get_some d.consumers n (omega (arith, so_far.many, below)) in
    rw there.1 (served_after d so_far.core so_far.goes_on n there.0 there.1 count so_far)

-- a queue that has delivered what it may, and its subscriber, are at their places
pub served_so : (d : BrokerCore) (repeats : List (ℕ × ℕ)) (place : ℕ) (c after : Consumer) (b : BrokerState)
    → repeats ≡ d.plan.repeat.items → slice_get d.consumers place ≡ Some c → HasBecome (place + 1)
    (delivered_some repeats (place + 1) (d.prefetch - c.unacked) (lane_of d.broker (place + 1) c)) d.broker b after
    → record d { broker = b; consumers = slice_set d.consumers place after } ≡ with_served place d
served_so d repeats place c after b same found became =
    ap₂ (λ (x : BrokerState) (y : Consumer). record d { broker = x; consumers = slice_set d.consumers place y })
    became.broker became.consumer
    ∙ ap (λ (r : List (ℕ × ℕ)). with_lane place
    (delivered_some r (place + 1) (d.prefetch - c.unacked) (lane_of d.broker (place + 1) c)) d) same
    ∙ sym (ap (λ (o : Option Consumer). served_if place o d) found)

-- ---- a message comes

-- it is received, and isn't of a subscriber
abbrev after_entry : BrokerCore → ℕ × (ToBroker × Unit {0}) → BrokerCore
after_entry d entry = record d { inbox = with_received d.inbox entry }

-- the acknowledgements of others are as many
acks_other : (d : BrokerCore) (entry : ℕ × (ToBroker × Unit {0})) (k : ℕ) → (entry.0 ≡ k + 1 → ⊥)
    → acks_at (after_entry d entry) k ≡ acks_at d k
acks_other d entry k other =
    ap (λ (l : List (ToBroker × Unit {0})). length l) (of_sender-snoc_other (k + 1) entry d.inbox.received other)

-- what was sent to the subscribers, if no acknowledgement came
served_same : (d : BrokerCore) (entry : ℕ × (ToBroker × Unit {0})) (k : ℕ) (q : QueueState) (c : Consumer) → entry.0 ≡ 0
    → IsConsumerServed d.finished d.prefetch (acks_at d k) q c
    → IsConsumerServed d.finished d.prefetch (acks_at (after_entry d entry) k) q c
served_same d entry k q c own one = rw (acks_other d entry k (λ e. absurd (omega (arith, own, e)))) one

all_served_same : (d : BrokerCore) → IsBrokerCore d → (entry : ℕ × (ToBroker × Unit {0})) → entry.0 ≡ 0
    → HoldsOfAll (λ k q c. IsConsumerServed d.finished d.prefetch (acks_at (after_entry d entry) k) q c) d.broker
    d.consumers
all_served_same d is entry own k c found = served_same d entry k (queue_of d.broker (k + 1)) c own (is.served k c found)

module _ (d : BrokerCore) (is : IsBrokerCore d) (name : Unit {0}) where
  -- ---- the connector is done
  abbrev finish : ℕ × (ToBroker × Unit {0})
  finish = (0, (to_broker.Finish, name))

  sent_finish : of_sender 0 (d.inbox.received ++ finish ∷ []) ≡ of_sender 0 d.inbox.received ++ finish.1 ∷ []
  sent_finish = of_sender-snoc_own finish d.inbox.received

  packets_finish : packets_in (of_sender 0 (d.inbox.received ++ finish ∷ []))
      ≡ packets_in (of_sender 0 d.inbox.received)
  packets_finish =
      ap packets_in sent_finish
      ∙ packets_in-push (of_sender 0 d.inbox.received) finish.1
      ∙ append-nil (packets_in (of_sender 0 d.inbox.received))

  or_true : (b : Bool) → true ≡ (b || true)
  or_true true = refl
  or_true false = refl

  or_false : (b : Bool) → b ≡ (b || false)
  or_false true = refl
  or_false false = refl

  pub IsBrokerCore-finish : IsBrokerCore (record (after_entry d finish) { connector_done = true })
  IsBrokerCore-finish =
      let new : BrokerCore = record (after_entry d finish) { connector_done = true } in
      let same : dealings_of d ≡ dealings_of new = ap (dealings d.plan) (sym packets_finish) in
      let made : HasDealt d.plan (dealings_of new) d = rw same at (dealt d is) in
      assumption (
        made,
        or_true (has_ended ends_to_broker (of_sender 0 d.inbox.received))
            ∙ sym (has_ended-push ends_to_broker (of_sender 0 d.inbox.received) finish.1)
            ∙ ap (has_ended ends_to_broker) (sym sent_finish),
        all_served_same d is finish refl,
      )

  -- ---- a packet
  module _ (packet : Packet) where
    abbrev entry_of : ℕ × (ToBroker × Unit {0})
    entry_of = (0, (to_broker.Packet packet, name))

    sent_packet : of_sender 0 (d.inbox.received ++ entry_of ∷ []) ≡ of_sender 0 d.inbox.received ++ entry_of.1 ∷ []
    sent_packet = of_sender-snoc_own entry_of d.inbox.received

    pub made_packet : dealings_of (after_entry d entry_of) ≡ with_packet d.plan (dealings_of d) packet
    made_packet =
        ap (λ (l : List (ToBroker × Unit {0})). dealings d.plan (packets_in l)) sent_packet
        ∙ ap (dealings d.plan) (packets_in-push (of_sender 0 d.inbox.received) entry_of.1)
        ∙ dealings-push d.plan (packets_in (of_sender 0 d.inbox.received)) packet

    connector_same : d.connector_done ≡ has_ended ends_to_broker (of_sender 0 (d.inbox.received ++ entry_of ∷ []))
    connector_same =
        is.connector
        ∙ or_false (has_ended ends_to_broker (of_sender 0 d.inbox.received))
        ∙ sym (has_ended-push ends_to_broker (of_sender 0 d.inbox.received) entry_of.1)
        ∙ ap (has_ended ends_to_broker) (sym sent_packet)

    -- the queues after a packet that was taken, and what was sent to the subscribers
    queues_after : (p : Packet) → length (after_packet d.broker p).queues ≡ length d.consumers
    queues_after (Connect session) = is.queues
    queues_after (Publish session tag item) = length-map d.broker.queues (queued item) ∙ is.queues

    served_after_packet : (p : Packet)
        → HoldsOfAll (λ k q c. IsConsumerServed d.finished d.prefetch (acks_at (after_entry d entry_of) k) q c)
        (after_packet d.broker p) d.consumers
    served_after_packet (Connect session) = all_served_same d is entry_of refl
    served_after_packet (Publish session tag item) =
        HoldsOfAll-queues (λ k q c. IsConsumerServed d.finished d.prefetch (acks_at d k) q c)
        (λ k q c. IsConsumerServed d.finished d.prefetch (acks_at (after_entry d entry_of) k) q c) d.broker
        (after_packet d.broker (Publish session tag item)) d.consumers (queued item) refl is.queues is.served
        (λ k q c one. served_same d entry_of k (queued item q) c refl
        (IsConsumerServed-queued d.prefetch (acks_at d k) d.finished q c item one))

    -- what was dealt with
    from_dealt : (lost takes : Bool) → HasDealt d.plan (dealings_of (after_entry d entry_of))
        (coming_if lost takes packet (with_counted packet (after_entry d entry_of)))
        → IsBrokerCore (coming_if lost takes packet (with_counted packet (after_entry d entry_of)))
    from_dealt true takes made = assumption (made, connector_same, all_served_same d is entry_of refl)
    from_dealt false true made = assumption (made, connector_same, queues_after packet, served_after_packet packet)
    from_dealt false false made = assumption (made, connector_same, all_served_same d is entry_of refl)

    before : HasDealt d.plan (dealings_of d) (after_entry d entry_of)
    before = assumption

    pub IsBrokerCore-packet : IsBrokerCore (with_coming packet (after_entry d entry_of))
    IsBrokerCore-packet =
        let new : BrokerCore = with_coming packet (after_entry d entry_of) in
        let came : HasDealt d.plan (dealings_of (after_entry d entry_of)) new =
        rw made_packet (HasDealt-packet (dealings_of d) (after_entry d entry_of) before packet) in
        from_dealt (is_lost d.plan d.publishes packet) (takes_packet d.broker packet) came

  -- ---- an acknowledgement
  module _ (j : ℕ) (ack : Ack) (positive : 0 < j) (own : ack.subscriber ≡ j) (sender : j < d.inbox.senders)
      (goes : d.finished ≡ false) (due : MayAck ack d) where
    abbrev ack_entry : ℕ × (ToBroker × Unit {0})
    ack_entry = (j, (to_broker.Ack ack, name))

    abbrev place : ℕ
    place = ack.subscriber - 1

    at : place + 1 ≡ j
    at = omega (arith, own, positive)

    within : place < length d.consumers
    within = omega (arith, own, positive, sender, is.senders)

    not_connector : j ≢ 0
    not_connector = λ e. absurd (omega (arith, e, positive))

    sent_same : of_sender 0 (d.inbox.received ++ ack_entry ∷ []) ≡ of_sender 0 d.inbox.received
    sent_same = of_sender-snoc_other 0 ack_entry d.inbox.received not_connector

    one_ack : acks_at (after_entry d ack_entry) place ≡ acks_at d place + 1
    one_ack =
        ap (λ (n : ℕ). length (of_sender n (d.inbox.received ++ ack_entry ∷ []))) at
        ∙ ap (λ (l : List (ToBroker × Unit {0})). length l) (of_sender-snoc_own ack_entry d.inbox.received)
        ∙ length_push (of_sender j d.inbox.received) ack_entry.1
        ∙ ap (λ (n : ℕ). length (of_sender n d.inbox.received) + 1) (sym at)

    module _ (c : Consumer) (found : slice_get d.consumers place ≡ Some c) where
      abbrev acked_queue : QueueState
      acked_queue = acknowledged ack.position (queue_of d.broker (place + 1))

      known : is_unknown (queue_of d.broker (place + 1)) ack.position ≡ false
      known = rw (own ∙ sym at) at due.0

      acked_one : IsConsumerServed d.finished d.prefetch (acks_at (after_entry d ack_entry) place) acked_queue
          (with_one_fewer c)
      acked_one =
          rw one_ack (rw goes
          (IsConsumerServed-ack d.prefetch (acks_at d place) (queue_of d.broker (place + 1)) c ack.position known
          (due.1 c found) (served_one d is goes place c found)))

      acked_core : IsBrokerCore
          (with_lane place (record { queue = acked_queue; consumer = with_one_fewer c }) (after_entry d ack_entry))
      acked_core =
          let new : BrokerCore =
          with_lane place (record { queue = acked_queue; consumer = with_one_fewer c }) (after_entry d ack_entry) in
          let queued : place < length d.broker.queues = omega (arith, is.queues, within) in
          let queued' : place + 1 - 1 < length d.broker.queues = omega (arith, queued) in
          let many = length-set d.consumers place (with_one_fewer c) in
          let same = ap (λ (l : List (ToBroker × Unit {0})). dealings d.plan (packets_in l)) (sym sent_same) in
          let made : HasDealt d.plan (dealings_of new) d = rw same at (dealt d is) in
          assumption (
            made,
            is.senders ∙ ap (λ (n : ℕ). n + 1) (sym many),
            length-set d.broker.queues (place + 1 - 1) acked_queue ∙ is.queues ∙ sym many,
            HasArrived-queue d.broker (dealings_of new).arrived (dealings_of new).confirms (place + 1) acked_queue
                queued' made.arrived (record { binding = refl; items = refl }),
            is.connector ∙ ap (has_ended ends_to_broker) (sym sent_same),
            HoldsOfAll-set (λ k q x. IsConsumerServed d.finished d.prefetch (acks_at d k) q x)
                (λ k q x. IsConsumerServed d.finished d.prefetch (acks_at (after_entry d ack_entry) k) q x) d.broker
                d.consumers place acked_queue (with_one_fewer c) queued within is.served
                (λ k q x other one. rw (acks_other d ack_entry k (λ e. other (omega (arith, e, at)))) one) acked_one,
          )

    pub IsBrokerCore-ack : IsBrokerCore (with_ack ack (after_entry d ack_entry))
    IsBrokerCore-ack =
        let there = slice_get_some d.consumers place within in
        rw there.1 (acked_core there.0 there.1)

-- ---- whatever came

-- the actor goes on after it
pub record GoesOn (count : ℕ) (d : BrokerCore) : Type 0 where
  pub core : IsBrokerCore d
  pub goes_on : d.finished ≡ false
  pub many : length d.consumers ≡ count

came_keeps : (d : BrokerCore) (packet : Packet)
    → ((with_coming packet d).finished ≡ d.finished) × ((with_coming packet d).consumers ≡ d.consumers)
came_keeps d packet = go (is_lost d.plan d.publishes packet) (takes_packet d.broker packet)
  where
    go : (lost takes : Bool) → ((coming_if lost takes packet (with_counted packet d)).finished ≡ d.finished)
        × ((coming_if lost takes packet (with_counted packet d)).consumers ≡ d.consumers)
    go true takes = (refl, refl)
    go false true = (refl, refl)
    go false false = (refl, refl)

acked_finished : (d : BrokerCore) (k position : ℕ) (found : Option Consumer)
    → (acked_if k position found d).finished ≡ d.finished
acked_finished d k position None = refl
acked_finished d k position (Some c) = refl

acked_many : (d : BrokerCore) (k position : ℕ) (found : Option Consumer)
    → length (acked_if k position found d).consumers ≡ length d.consumers
acked_many d k position None = refl
acked_many d k position (Some c) = length-set d.consumers k (with_one_fewer c)

received_goes_on : (d : BrokerCore) → IsBrokerCore d → d.finished ≡ false → (j : ℕ) (message : ToBroker)
    (name : Unit {0}) → j < d.inbox.senders → MaySendBroker j message → IsDue message d
    → GoesOn (length d.consumers) (reception (j, (message, name)) d)
received_goes_on d is goes j (to_broker.Packet packet) name sender may due =
    let keeps = came_keeps (after_entry d (0, (to_broker.Packet packet, name))) packet in
    rw may.0 (record {
      core = IsBrokerCore-packet d is name packet;
      goes_on = keeps.0 ∙ goes;
      many = ap (λ (l : List Consumer). length l) keeps.1;
    })
received_goes_on d is goes j to_broker.Finish name sender may due =
    rw may (record { core = IsBrokerCore-finish d is name; goes_on = goes; many = refl })
received_goes_on d is goes j (to_broker.Ack ack) name sender may due =
    let new : BrokerCore = after_entry d (j, (to_broker.Ack ack, name)) in
    let found : Option Consumer = slice_get d.consumers (ack.subscriber - 1) in
    record {
      core = IsBrokerCore-ack d is name j ack may.0 may.1 sender goes due;
      goes_on = acked_finished new (ack.subscriber - 1) ack.position found ∙ goes;
      many = acked_many new (ack.subscriber - 1) ack.position found;
    }

-- and after a message that was received
pub GoesOn-reception : (old new : BrokerCore) → IsBrokerCore old → old.finished ≡ false → HasReceivedNext old new
    → GoesOn (length old.consumers) new
GoesOn-reception old new is goes came =
    rw came.after
    (received_goes_on old is goes came.entry.0 came.entry.1.0 came.entry.1.1 came.sender came.follows.may came.due)

-- the connector's last message was received and handled
pub ended_next : (old here : BrokerCore) → HasTaken old to_broker.Finish here
    → HasReceivedNext old (record here { connector_done = true })
ended_next old here taken = record {
  entry = (taken.takes.0, (to_broker.Finish, taken.takes.1));
  sender = taken.takes.2;
  follows = taken.takes.3;
  due = tt;
  after = ap (λ (d : BrokerCore). record d { connector_done = true })
      (taken.after ∙ ap (λ (i : Incoming ToBroker (Unit {0})). record old { inbox = i }) taken.takes.4);
}

-- and after several
pub GoesOn-received : (n : ℕ) (old new : BrokerCore) → IsBrokerCore old → old.finished ≡ false → HasReceived n old new
    → GoesOn (length old.consumers) new
GoesOn-received zero old new is goes same = rw same (record { core = is; goes_on = goes; many = refl })
GoesOn-received (suc n) old new is goes (mid, before, came) =
    let on : GoesOn (length old.consumers) mid = GoesOn-received n old mid is goes before in
    subst (λ (count : ℕ). GoesOn count new) on.many (GoesOn-reception mid new on.core on.goes_on came)

pub GoesOn-all : (old new : BrokerCore) → IsBrokerCore old → old.finished ≡ false → HasReceivedAll old new
    → GoesOn (length old.consumers) new
GoesOn-all old new is goes all = GoesOn-received (suc all.more) old new is goes all.received

-- one more message, or none
pub one_more : (old mid new : BrokerCore) (some : Bool) → some ≡ true → length old.plan.repeat.items ≡ 0
    → HasReceivedAll old mid → HasReceivedIf some mid new → HasReceivedAll old new
one_more old mid new some is unplanned all came = record {
  more = suc all.more;
  alone = λ planned. absurd (omega (arith, planned, unplanned));
  received = (mid, all.received, rw is at came);
}

pub no_more : (old mid new : BrokerCore) (some : Bool) → some ≡ false → HasReceivedAll old mid
    → HasReceivedIf some mid new → HasReceivedAll old new
no_more old mid new some isnt all came = rw (rw isnt at came) all
