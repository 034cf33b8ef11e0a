-- What a queue and its subscriber keep as the queue delivers, is acknowledged, grows, and is done.
use Rattle.cdc_broker_actors.proofs.Words.{◌++◌, ◌+◌, ◌-◌, ◌<◌, ◌∙◌, ◌∷◌, ◌≡◌, ◌≤◌, ◌⊎◌, All-set, Arguments, Bool, BrokerState, Confirm, Consumer, Delivery, HasArrived, HasDelivered, IsConsumerServed, Item, Lane, List, MayDeliver, MayStop, None, Option, Outgoing, Packet, QueueState, Some, Stop, ToSubscriber, [], acknowledged, ap, append-nil, ap₂, arith, as_sent, back_if, delivered_some, deliveries_in, delivery_in, empty_queue, ends_to_subscriber, false, filter_map-append, first_consumer, goes_back, has_ended, inl, inr, is_unknown, item_for, items_of, length, length_push, map, map-append, max, next_delivery, nobody, option_map, queue_of, queued, refl, slice_get, suc, sym, taken_of, true, unwrap_or-slice_get, with_copy, with_delivery, with_item, with_next, with_one_fewer, with_queue, with_stop, zero, ℕ}
use Rattle.cdc_broker_actors.proofs.BrokerLemmas.Lanes.{delivered_some-none}
use Rattle.cdc_broker_actors.proofs.BrokerLemmas.Places.{slice_get_behind}
use Rattle.cdc_laws.proofs.Queues.{HasDelivered-ack, HasDelivered-next, HasDelivered-nil, HasDelivered-queued, HasDelivered-rewound}
use Rattle.cdc_match.specs.Queue.{queue}

-- ---- what was sent

-- one delivery more
deliveries_in-push : (sent : List (ToSubscriber × Unit {0})) (d : Delivery)
    → deliveries_in (sent ++ as_sent d ∷ []) ≡ deliveries_in sent ++ d ∷ []
deliveries_in-push sent d = filter_map-append (λ (m : ToSubscriber × Unit {0}). delivery_in m.0) sent (as_sent d ∷ [])

-- the last message
pub deliveries_in-stop : (sent : List (ToSubscriber × Unit {0}))
    → deliveries_in (sent ++ (Stop, tt) ∷ []) ≡ deliveries_in sent
deliveries_in-stop sent =
    filter_map-append (λ (m : ToSubscriber × Unit {0}). delivery_in m.0) sent ((Stop, tt) ∷ [])
    ∙ append-nil (deliveries_in sent)

-- deliveries aren't the last
deliveries_go_on : (ds : List Delivery) → has_ended ends_to_subscriber (map as_sent ds) ≡ false
deliveries_go_on [] = refl
deliveries_go_on (d ∷ ds) = deliveries_go_on ds

-- so what was sent of a queue that isn't done hasn't ended
goes_on : (sent : List (ToSubscriber × Unit {0})) → sent ≡ map as_sent (deliveries_in sent) ++ []
    → has_ended ends_to_subscriber sent ≡ false
goes_on sent is =
    ap (has_ended ends_to_subscriber) (is ∙ append-nil (map as_sent (deliveries_in sent)))
    ∙ deliveries_go_on (deliveries_in sent)

-- ---- one queue

-- a queue that rewinds, or doesn't
HasDelivered-back : (b : Bool) (q : QueueState) (out : List Delivery) → HasDelivered q out
    → HasDelivered (back_if b q) out
HasDelivered-back true q out has = HasDelivered-rewound q out has
HasDelivered-back false q out has = has

back_delivered : (b : Bool) (q : QueueState) → (back_if b q).delivered ≡ q.delivered
back_delivered true q = refl
back_delivered false q = refl

-- the next delivery has the cursor's position
next_position : (q : QueueState) (d : Delivery) → next_delivery q ≡ Some d → d.position ≡ q.cursor.next
next_position q d next = go (slice_get q.items (q.cursor.next - 1)) next
  where
    go : (found : Option Item)
        → option_map (λ (item : Item). record { position = q.cursor.next; item = item }) found ≡ Some d
        → d.position ≡ q.cursor.next
    go None is = cc
    go (Some item) is =
        let same : record { position = q.cursor.next; item = item } ≡ d = cc in
        sym (ap (λ (x : Delivery). x.position) same)

module _ (prefetch acks : ℕ) where
  -- one more item is delivered
  pub IsConsumerServed-next : (repeats : List (ℕ × ℕ)) (number : ℕ) (lane : Lane) (d : Delivery)
      → next_delivery lane.queue ≡ Some d → lane.consumer.unacked < prefetch
      → IsConsumerServed false prefetch acks lane.queue lane.consumer
      → IsConsumerServed false prefetch acks (with_next repeats number (Some d) lane).queue (with_copy d lane.consumer)
  IsConsumerServed-next repeats number lane d next few is =
      let sent : List (ToSubscriber × Unit {0}) = lane.consumer.link.sent in
      let push : deliveries_in (sent ++ as_sent d ∷ []) ≡ deliveries_in sent ++ d ∷ [] = deliveries_in-push sent d in
      let goes : Bool = goes_back repeats number lane.consumer d in
      let q : QueueState = with_delivery (Some d) lane.queue in
      record {
        broker = is.broker;
        sent = ap (λ (l : List (ToSubscriber × Unit {0})). l ++ as_sent d ∷ [])
            (is.sent ∙ append-nil (map as_sent (deliveries_in sent)))
            ∙ sym (map-append as_sent (deliveries_in sent) (d ∷ []))
            ∙ ap (map as_sent) (sym push)
            ∙ sym (append-nil (map as_sent (deliveries_in (sent ++ as_sent d ∷ []))));
        delivered = rw push (HasDelivered-back goes q (deliveries_in sent ++ d ∷ [])
            (HasDelivered-next lane.queue (deliveries_in sent) d is.delivered next));
        greatest = ap₂ max is.greatest (next_position lane.queue d next) ∙ sym (back_delivered goes q);
        copies = ap (λ (ds : List Delivery). length ds) push
            ∙ length_push (deliveries_in sent) d
            ∙ ap (λ (n : ℕ). n + 1) is.copies
            ∙ more lane.consumer.unacked;
        at_most = omega arith;
      }
    where
      more : (n : ℕ) → n + acks + 1 ≡ n + 1 + acks
      more n = omega arith

  -- the next item may be delivered
  pub next_served : (repeats : List (ℕ × ℕ)) (number : ℕ) (found : Option Delivery) (lane : Lane)
      → next_delivery lane.queue ≡ found → lane.consumer.unacked < prefetch
      → IsConsumerServed false prefetch acks lane.queue lane.consumer
      → IsConsumerServed false prefetch acks (with_next repeats number found lane).queue
      (with_next repeats number found lane).consumer
  next_served repeats number None lane next few is = is
  next_served repeats number (Some d) lane next few is = IsConsumerServed-next repeats number lane d next few is

  -- one copy more at most
  next_copies : (repeats : List (ℕ × ℕ)) (number : ℕ) (found : Option Delivery) (lane : Lane)
      → (with_next repeats number found lane).consumer.unacked ≤ lane.consumer.unacked + 1
  next_copies repeats number None lane = omega arith
  next_copies repeats number (Some d) lane = omega arith

  -- and so many
  pub IsConsumerServed-delivered_some : (repeats : List (ℕ × ℕ)) (number n : ℕ) (lane : Lane)
      → lane.consumer.unacked + n ≤ prefetch → IsConsumerServed false prefetch acks lane.queue lane.consumer
      → IsConsumerServed false prefetch acks (delivered_some repeats number n lane).queue
      (delivered_some repeats number n lane).consumer
  IsConsumerServed-delivered_some repeats number zero lane few is = is
  IsConsumerServed-delivered_some repeats number (suc n) lane few is =
      let next : Lane = with_next repeats number (next_delivery lane.queue) lane in
      let copies = next_copies repeats number (next_delivery lane.queue) lane in
      IsConsumerServed-delivered_some repeats number n next (omega (arith, copies))
      (next_served repeats number (next_delivery lane.queue) lane refl (omega arith) is)

  -- an acknowledgement
  pub IsConsumerServed-ack : (q : QueueState) (c : Consumer) (position : ℕ) → is_unknown q position ≡ false
      → 0 < c.unacked → IsConsumerServed false prefetch acks q c
      → IsConsumerServed false prefetch (acks + 1) (acknowledged position q) (with_one_fewer c)
  IsConsumerServed-ack q c position known some is = record {
    broker = is.broker;
    sent = is.sent;
    delivered = HasDelivered-ack q (deliveries_in c.link.sent) position is.delivered known;
    greatest = is.greatest;
    copies = omega (arith, is.copies);
    at_most = omega (arith, is.at_most);
  }

  -- one more item comes to the queue
  pub IsConsumerServed-queued : (finished : Bool) (q : QueueState) (c : Consumer) (item : Item)
      → IsConsumerServed finished prefetch acks q c → IsConsumerServed finished prefetch acks (queued item q) c
  IsConsumerServed-queued finished q c item is = record {
    broker = is.broker;
    sent = is.sent;
    delivered = HasDelivered-queued q (deliveries_in c.link.sent) item is.delivered;
    greatest = is.greatest ∙ same (item_for q.binding item);
    copies = is.copies;
    at_most = is.at_most;
  }
    where
      same : (found : Option Item) → q.delivered ≡ (with_item found q).delivered
      same None = refl
      same (Some x) = refl

  -- the last message is sent
  pub IsConsumerServed-stop : (q : QueueState) (c : Consumer) → IsConsumerServed false prefetch acks q c
      → IsConsumerServed true prefetch acks q (with_stop c)
  IsConsumerServed-stop q c is =
      let same = deliveries_in-stop c.link.sent in
      record {
        broker = is.broker;
        sent = ap (λ (l : List (ToSubscriber × Unit {0})). l ++ (Stop, tt) ∷ [])
            (is.sent ∙ append-nil (map as_sent (deliveries_in c.link.sent)))
            ∙ ap (λ (ds : List Delivery). map as_sent ds ++ (Stop, tt) ∷ []) (sym same);
        delivered = rw same is.delivered;
        greatest = is.greatest;
        copies = ap (λ (ds : List Delivery). length ds) same ∙ is.copies;
        at_most = is.at_most;
      }

  -- a queue that isn't done may deliver
  pub MayDeliver-served : (q : QueueState) (c : Consumer) → IsConsumerServed false prefetch acks q c
      → MayDeliver (record { queue = q; consumer = c })
  MayDeliver-served q c is =
      record { broker = is.broker; goes_on = goes_on c.link.sent is.sent; from_one = is.delivered.from_one }

  -- and its subscriber may be sent its last message
  pub MayStop-served : (q : QueueState) (c : Consumer) → IsConsumerServed false prefetch acks q c → MayStop c
  MayStop-served q c is = (is.broker, goes_on c.link.sent is.sent)

-- a subscriber to which nothing was sent
pub IsConsumerServed-first : (prefetch : ℕ) (binding : Arguments) (link : Outgoing ToSubscriber (Unit {0}))
    → link.number ≡ 0 → link.sent ≡ [] → IsConsumerServed false prefetch 0 (empty_queue binding) (first_consumer link)
IsConsumerServed-first prefetch binding link own silent =
    let none : deliveries_in link.sent ≡ [] = ap deliveries_in silent in
    record {
      broker = own;
      sent = silent ∙ sym (ap (λ (ds : List Delivery). map as_sent ds ++ []) none);
      delivered = rw none (HasDelivered-nil binding);
      greatest = refl;
      copies = ap (λ (ds : List Delivery). length ds) none;
      at_most = omega arith;
    }

-- ---- how much of a queue is delivered

-- either as many copies as may be, or nothing is next
pub delivered_some-all : (repeats : List (ℕ × ℕ)) (number n : ℕ) (lane : Lane)
    → ((delivered_some repeats number n lane).consumer.unacked ≡ lane.consumer.unacked + n)
    ⊎ (next_delivery (delivered_some repeats number n lane).queue ≡ None)
delivered_some-all repeats number zero lane = inl (omega arith)
delivered_some-all repeats number (suc n) lane =
    go (next_delivery lane.queue) refl
    (delivered_some-all repeats number n (with_next repeats number (next_delivery lane.queue) lane))
  where
    go : (found : Option Delivery) → next_delivery lane.queue ≡ found
        → ((delivered_some repeats number n (with_next repeats number (next_delivery lane.queue) lane)).consumer.unacked
        ≡ (with_next repeats number (next_delivery lane.queue) lane).consumer.unacked + n)
        ⊎ (next_delivery
        (delivered_some repeats number n (with_next repeats number (next_delivery lane.queue) lane)).queue ≡ None)
        → ((delivered_some repeats number (suc n) lane).consumer.unacked ≡ lane.consumer.unacked + suc n)
        ⊎ (next_delivery (delivered_some repeats number (suc n) lane).queue ≡ None)
    go None none rest =
        inr (ap (λ (x : Lane). next_delivery x.queue) (delivered_some-none repeats number (suc n) lane none) ∙ none)
    go (Some d) next rest = elim rest [
      | inl full ↦
          let more = ap (λ (found : Option Delivery). (with_next repeats number found lane).consumer.unacked) next in
          inl (full ∙ ap (λ (k : ℕ). k + n) more ∙ sums lane.consumer.unacked)
      | inr none ↦ inr none
    ]
      where
        sums : (k : ℕ) → k + 1 + n ≡ k + suc n
        sums k = omega arith

-- if no item is next, the whole queue was delivered
pub whole_queue : (q : QueueState) (out : List Delivery) → HasDelivered q out → next_delivery q ≡ None
    → q.delivered ≡ length q.items
whole_queue q out has none =
    let behind : length q.items ≤ q.cursor.next - 1 = slice_get_behind q.items (q.cursor.next - 1)
    (nothing (slice_get q.items (q.cursor.next - 1)) none) in
    omega (arith, behind, has.there, has.next_at_most, has.from_one)
  where
    nothing : (found : Option Item)
        → option_map {U = Delivery} (λ (item : Item). record { position = q.cursor.next; item = item }) found ≡ None
        → found ≡ None
    nothing None is = refl
    nothing (Some item) is = cc

-- ---- what a queue delivers stays in it

-- the queue has the binding and the items of another one
pub record HasSameItems (q p : QueueState) : Type 0 where
  pub binding : p.binding ≡ q.binding
  pub items : p.items ≡ q.items

pub same_next : (repeats : List (ℕ × ℕ)) (number : ℕ) (found : Option Delivery) (lane : Lane)
    → HasSameItems lane.queue (with_next repeats number found lane).queue
same_next repeats number None lane = record { binding = refl; items = refl }
same_next repeats number (Some d) lane = go (goes_back repeats number lane.consumer d)
  where
    go : (b : Bool) → HasSameItems lane.queue (back_if b (with_delivery (Some d) lane.queue))
    go true = record { binding = refl; items = refl }
    go false = record { binding = refl; items = refl }

pub same_delivered : (repeats : List (ℕ × ℕ)) (number n : ℕ) (lane : Lane)
    → HasSameItems lane.queue (delivered_some repeats number n lane).queue
same_delivered repeats number zero lane = record { binding = refl; items = refl }
same_delivered repeats number (suc n) lane =
    let next : Lane = with_next repeats number (next_delivery lane.queue) lane in
    let first : HasSameItems lane.queue next.queue = same_next repeats number (next_delivery lane.queue) lane in
    let rest = same_delivered repeats number n next in
    record { binding = rest.binding ∙ first.binding; items = rest.items ∙ first.items }

-- so the broker has what it had
pub HasArrived-queue : (b : BrokerState) (arrived : List Packet) (confirms : List Confirm) (number : ℕ) (q : QueueState)
    → number - 1 < length b.queues → HasArrived b arrived confirms → HasSameItems (queue_of b number) q
    → HasArrived (with_queue number q b) arrived confirms
HasArrived-queue b arrived confirms number q inside has same =
    let accepted : List Item = items_of (taken_of arrived) in
    let here : (queue_of b number).items ≡ queue accepted (queue_of b number).binding =
    rw (unwrap_or-slice_get b.queues (number - 1) (empty_queue nobody))
    (has.queues (number - 1) (empty_queue nobody) inside) in
    record {
      connection = has.connection;
      expected = has.expected;
      queues = All-set (λ (p : QueueState). p.items ≡ queue accepted p.binding) b.queues (number - 1) q
          (same.items ∙ here ∙ ap (λ (binding : Arguments). queue accepted binding) (sym same.binding)) has.queues;
      confirmed = has.confirmed;
    }
