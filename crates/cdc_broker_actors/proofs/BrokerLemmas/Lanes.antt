-- One queue of the broker and its subscriber, while the queue delivers.
use Rattle.cdc_broker_actors.proofs.Words.{if◌then◌else◌, ◌&&◌, ◌++◌, ◌+◌, ◌-◌, ◌<◌, ◌||◌, ◌∙◌, ◌∷◌, ◌≡◌, ◌≤◌, Bool, BrokerState, Consumer, Delivery, HasBecome, Lane, List, MayDeliver, None, Option, QueueState, Some, ToSubscriber, [], ap, ap₂, arith, as_sent, back_if, delivered_some, empty_queue, ends_to_subscriber, false, get_or-set_same, goes_back, has_ended, is_some, lane_of, length, length-set, nat_lt, nat_tests, next_delivery, nobody, queue_of, refl, rewound_queue, set-get_or, set-set, slice_set, subst, suc, sym, true, unwrap_or-slice_get, with_copy, with_delivery, with_next, with_queue, zero, ℕ}

-- ---- one queue of a broker

-- a queue that was put into its place
pub queue_of-with : (b : BrokerState) (number : ℕ) (q : QueueState) → number - 1 < length b.queues
    → queue_of (with_queue number q b) number ≡ q
queue_of-with b number q inside =
    unwrap_or-slice_get (slice_set b.queues (number - 1) q) (number - 1) (empty_queue nobody)
    ∙ get_or-set_same b.queues (number - 1) q (empty_queue nobody) inside

-- put there after another one
pub with_queue-twice : (b : BrokerState) (number : ℕ) (q after : QueueState)
    → with_queue number after (with_queue number q b) ≡ with_queue number after b
with_queue-twice b number q after =
    ap (λ (qs : List QueueState). record b { queues = qs }) (set-set b.queues (number - 1) q after)

-- or the one that is there
pub with_queue-own : (b : BrokerState) (number : ℕ) → with_queue number (queue_of b number) b ≡ b
with_queue-own b number =
    ap (λ (qs : List QueueState). record b { queues = qs })
    (ap (λ (q : QueueState). slice_set b.queues (number - 1) q)
    (unwrap_or-slice_get b.queues (number - 1) (empty_queue nobody))
    ∙ set-get_or b.queues (number - 1) (empty_queue nobody))

-- it keeps how many there are
pub queues-with : (b : BrokerState) (number : ℕ) (q : QueueState)
    → length (with_queue number q b).queues ≡ length b.queues
queues-with b number q = length-set b.queues (number - 1) q

-- ---- one delivery

-- a queue rewinds if both tests hold
pub both_hold : (n m : ℕ) (b : Bool) → n < m → b ≡ true → (nat_lt n m && b) ≡ true
both_hold n m b below is = grind (arith, nat_tests)

-- the item was delivered, and the queue rewound or not
pub has_delivered : (repeats : List (ℕ × ℕ)) (number : ℕ) (old b new : BrokerState) (c c' : Consumer) (d : Delivery)
    (goes : Bool) → number - 1 < length old.queues → next_delivery (queue_of old number) ≡ Some d
    → b ≡ with_queue number (with_delivery (next_delivery (queue_of old number)) (queue_of old number)) old
    → c' ≡ with_copy d c → goes_back repeats number c d ≡ goes
    → new ≡ (if goes then with_queue number (rewound_queue (queue_of b number)) b else b)
    → HasBecome number (with_next repeats number (next_delivery (queue_of old number)) (lane_of old number c)) old new
    c'
has_delivered repeats number old b new c c' d goes inside next delivered copied is after =
    rw next (record {
      broker = went goes after ∙ ap (λ (g : Bool). with_queue number (back_if g q) old) (sym is);
      consumer = copied;
    })
  where
    q : QueueState
    q = with_delivery (Some d) (queue_of old number)

    here : b ≡ with_queue number q old
    here =
        delivered
        ∙ ap (λ (found : Option Delivery). with_queue number (with_delivery found (queue_of old number)) old) next

    queue_is : queue_of b number ≡ q
    queue_is = ap (λ (x : BrokerState). queue_of x number) here ∙ queue_of-with old number q inside

    went : (g : Bool) → new ≡ (if g then with_queue number (rewound_queue (queue_of b number)) b else b)
        → new ≡ with_queue number (back_if g q) old
    went true is =
        is
        ∙ ap₂ (λ (x : QueueState) (y : BrokerState). with_queue number (rewound_queue x) y) queue_is here
        ∙ with_queue-twice old number q (rewound_queue q)
    went false is = is ∙ here

-- ---- all that may be delivered

-- if no item is next, nothing is delivered
pub delivered_some-none : (repeats : List (ℕ × ℕ)) (number n : ℕ) (lane : Lane) → next_delivery lane.queue ≡ None
    → delivered_some repeats number n lane ≡ lane
delivered_some-none repeats number zero lane none = refl
delivered_some-none repeats number (suc n) lane none =
    ap (λ (found : Option Delivery). delivered_some repeats number n (with_next repeats number found lane)) none
    ∙ delivered_some-none repeats number n lane none

-- what wasn't ended isn't after a delivery
pub goes_on-more : (sent : List (ToSubscriber × Unit {0})) (d : Delivery) → has_ended ends_to_subscriber sent ≡ false
    → has_ended ends_to_subscriber (sent ++ as_sent d ∷ []) ≡ false
goes_on-more [] d goes = refl
goes_on-more (m ∷ sent) d goes = go (ends_to_subscriber m.0) goes (goes_on-more sent d)
  where
    go : (b : Bool) → (b || has_ended ends_to_subscriber sent) ≡ false
        → (has_ended ends_to_subscriber sent ≡ false → has_ended ends_to_subscriber (sent ++ as_sent d ∷ []) ≡ false)
        → (b || has_ended ends_to_subscriber (sent ++ as_sent d ∷ [])) ≡ false
    go true is rest = cc
    go false is rest = rest is

-- a queue that may deliver still may after a delivery
pub MayDeliver-next : (repeats : List (ℕ × ℕ)) (number : ℕ) (found : Option Delivery) (lane : Lane) → MayDeliver lane
    → MayDeliver (with_next repeats number found lane)
MayDeliver-next repeats number None lane may = may
MayDeliver-next repeats number (Some d) lane may = record {
  broker = may.broker;
  goes_on = goes_on-more lane.consumer.link.sent d may.goes_on;
  from_one = back (goes_back repeats number lane.consumer d);
}
  where
    back : (b : Bool) → 1 ≤ (back_if b (with_delivery (Some d) lane.queue)).cursor.next
    back true = omega arith
    back false = omega arith

-- how much of what is to be delivered from the first state on has been delivered
pub record DeliversOn (repeats : List (ℕ × ℕ)) (number prefetch : ℕ) (first : BrokerState) (one : Consumer)
    (b : BrokerState) (c : Consumer) : Type 0 where
  pub inside : number - 1 < length b.queues
  pub may : MayDeliver (lane_of b number c)
  pub rest : delivered_some repeats number (prefetch - c.unacked) (lane_of b number c)
      ≡ delivered_some repeats number (prefetch - one.unacked) (lane_of first number one)
  pub broker : b ≡ with_queue number (queue_of b number) first

pub delivers_first : (repeats : List (ℕ × ℕ)) (number prefetch : ℕ) (b : BrokerState) (c : Consumer)
    → number - 1 < length b.queues → MayDeliver (lane_of b number c) → DeliversOn repeats number prefetch b c b c
delivers_first repeats number prefetch b c inside may =
    record { inside = inside; may = may; rest = refl; broker = sym (with_queue-own b number) }

module _ (repeats : List (ℕ × ℕ)) (number prefetch : ℕ) (first : BrokerState) (one : Consumer)
    (b : BrokerState) (c : Consumer) (so_far : DeliversOn repeats number prefetch first one b c) where
  -- nothing more may be delivered
  pub delivers_last : prefetch ≤ c.unacked
      → HasBecome number (delivered_some repeats number (prefetch - one.unacked) (lane_of first number one)) first b c
  delivers_last full =
      let none : prefetch - c.unacked ≡ 0 = omega arith in
      let is = ap (λ (n : ℕ). delivered_some repeats number n (lane_of b number c)) (sym none) ∙ so_far.rest in
      subst (λ (lane : Lane). HasBecome number lane first b c) is (record { broker = so_far.broker; consumer = refl })

  module _ (new : BrokerState) (after : Consumer)
      (became : HasBecome number (with_next repeats number (next_delivery (queue_of b number)) (lane_of b number c)) b
      new after) where
    -- there was nothing to deliver
    pub delivers_none : is_some (next_delivery (queue_of b number)) ≡ false
        → HasBecome number (delivered_some repeats number (prefetch - one.unacked) (lane_of first number one)) first new
        after
    delivers_none isnt =
        let none : next_delivery (queue_of b number) ≡ None = nothing (next_delivery (queue_of b number)) isnt in
        let same = ap (λ (found : Option Delivery). with_next repeats number found (lane_of b number c)) none in
        let is : lane_of b number c ≡ delivered_some repeats number (prefetch - one.unacked)
        (lane_of first number one) =
        sym (delivered_some-none repeats number (prefetch - c.unacked) (lane_of b number c) none) ∙ so_far.rest in
        subst (λ (lane : Lane). HasBecome number lane first new after) is
        (record {
          broker = became.broker
              ∙ ap (λ (lane : Lane). with_queue number lane.queue b) same
              ∙ with_queue-own b number
              ∙ so_far.broker;
          consumer = became.consumer ∙ ap (λ (lane : Lane). lane.consumer) same;
        })
      where
        nothing : (found : Option Delivery) → is_some found ≡ false → found ≡ None
        nothing None is = refl
        nothing (Some d) is = cc

    -- one item was delivered
    pub delivers_more : is_some (next_delivery (queue_of b number)) ≡ true → c.unacked < prefetch
        → DeliversOn repeats number prefetch first one new after
    delivers_more some few = go (next_delivery (queue_of b number)) refl some
      where
        go : (found : Option Delivery) → next_delivery (queue_of b number) ≡ found → is_some found ≡ true
            → DeliversOn repeats number prefetch first one new after
        go None is there = cc
        go (Some d) is there =
            let next : Lane = with_next repeats number (next_delivery (queue_of b number)) (lane_of b number c) in
            let here : lane_of new number after ≡ next =
            ap₂ (λ (q : QueueState) (x : Consumer). record { queue = q; consumer = x })
            (ap (λ (x : BrokerState). queue_of x number) became.broker
            ∙ queue_of-with b number next.queue so_far.inside) became.consumer in
            let copies : after.unacked ≡ c.unacked + 1 =
            ap (λ (x : Consumer). x.unacked) became.consumer
            ∙ ap (λ (o : Option Delivery). (with_next repeats number o (lane_of b number c)).consumer.unacked) is in
            let fewer : prefetch - c.unacked ≡ suc (prefetch - after.unacked) = omega (arith, copies) in
            let many = ap (λ (x : BrokerState). length x.queues) became.broker ∙ queues-with b number next.queue in
            record {
              inside = omega (arith, many, so_far.inside);
              may = rw here
                  (MayDeliver-next repeats number (next_delivery (queue_of b number)) (lane_of b number c) so_far.may);
              rest = ap (λ (lane : Lane). delivered_some repeats number (prefetch - after.unacked) lane) here
                  ∙ ap (λ (n : ℕ). delivered_some repeats number n (lane_of b number c)) (sym fewer)
                  ∙ so_far.rest;
              broker = became.broker
                  ∙ ap (λ (x : BrokerState). with_queue number next.queue x) so_far.broker
                  ∙ with_queue-twice first number (queue_of b number) next.queue
                  ∙ ap (λ (q : QueueState). with_queue number q first) (sym (ap (λ (lane : Lane). lane.queue) here));
            }
