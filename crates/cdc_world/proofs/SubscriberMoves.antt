-- What is kept of the actors after a step of a subscriber and its queue.
use Rattle.cdc_world.proofs.Words.{Ack, ActorParts, ActorsMove, ActorsStand, Bool, Break, BrokerState, Close, Contains, Contains-push_cases, Counted, Cursor, DeliversAt, Delivery, Done, Err, HasClosed, HasTakenFirst, IsDelivered, Item, Kept_subscription, List, MatchResult, None, NotEnabled, Ok, Option, QueueState, QueueView, Reception, Result, Rewind, Send, Some, StepError, SubscriberState, Subscription, SubscriptionParts, Take, TakeError, TakesAt, Taking, Took, WereDelivered, WorldState, [], acknowledged, acknowledgement, after_ack, after_delivery, ap, ap₂, arith, delivery_at, drop, empty_queue, empty_subscription, false, first_flight, get_or, if◌then◌else◌, inl, inr, is_ok, is_unknown, kept_of, length, length-map, map, map-set, max, nat_lt, next, next_delivery, next_of_queue, next_reception, nobody, none_there, not, numbered, ok_or, option_map, parts_of, place_in, queue_for, queue_of, refl, rewound, rewound_queue, same_Some, slice_get-get_or, slice_set, subscription_parts, subst, suc, success, sym, taken_items, taking, true, view_of, with_ack, with_break, with_close, with_delivery, with_delivery_of, with_queue, with_rewind, with_subscription, with_taking, ℕ, ◌++◌, ◌+◌, ◌-◌, ◌<◌, ◌==◌, ◌>>=◌, ◌∙◌, ◌∷◌, ◌≡◌}
use Rattle.std.specs.List.{slice_get}
use Rattle.cdc_subscriber.specs.Answers.{TakesItem, answer_to}
use Rattle.cdc_world.proofs.NumberedElements.{Contains_numbered, numbered_place, place_is, slice_get_made, subscription_here}
use Rattle.cdc_world.proofs.QueueViews.{delivered_here, delivered_set, set_found, set_same, view_read}
use Rattle.cdc_world.proofs.ActorMoves.{done, exhausted, tried, unable}

-- ---- one subscription and its queue

-- the subscription of what is kept under a number
pub record IsOf (w : WorldState) (i : ℕ) (kept : SubscriptionParts) : Type 0 where
  pub subscription : Subscription
  pub numbered_so : numbered w.subscriptions i ≡ Some subscription
  pub there : slice_get w.subscriptions (i - 1) ≡ Some subscription
  pub parts : parts_of subscription ≡ kept

-- so that a step of a subscriber acts on the subscription of the same number
pub of_number : (a : ActorParts) (w : WorldState) (i : ℕ) (kept : SubscriptionParts) → ActorsStand a w → 0 < i
    → slice_get a.subscriptions (i - 1) ≡ Some kept → IsOf w i kept
of_number a w i kept st above here =
    let found = slice_get_made parts_of w.subscriptions (i - 1) kept
    (ap (λ (ss : List SubscriptionParts). slice_get ss (i - 1)) (sym st.subscribers.subscriptions) ∙ here) in
    record {
      subscription = found.0;
      numbered_so = numbered_place w.subscriptions i above ∙ found.1.0;
      there = found.1.0;
      parts = found.1.1;
    }

module _ (a : ActorParts) (w : WorldState) (i : ℕ) (s : Subscription) (st : ActorsStand a w)
    (there : slice_get w.subscriptions (i - 1) ≡ Some s) where
  -- the queue under a number is seen as its subscription's
  queue_is : view_of (queue_of a.broker i) ≡ queue_for (taken_items w) s
  queue_is = view_read a.broker (taken_items w) w.subscriptions i s st.subscribers.queues there

  -- what its queue has delivered
  delivered_is : WereDelivered (queue_of a.broker i).delivered s
  delivered_is =
      delivered_here (i - 1) a.broker.queues w.subscriptions (taken_items w) (empty_queue nobody) s
      st.subscribers.queues there st.subscribers.delivered

  -- if one subscription and its queue change together, the actors represent the world with the new one
  one_changes : (s' : Subscription) (q' : QueueState) (kept' : SubscriptionParts)
      → view_of q' ≡ queue_for (taken_items w) s' → kept' ≡ parts_of s'
      → (WereDelivered (queue_of a.broker i).delivered s → WereDelivered q'.delivered s') → ActorsStand
      (record a { broker = with_queue i q' a.broker; subscriptions = slice_set a.subscriptions (i - 1) kept' })
      (with_subscription i s' w)
  one_changes s' q' kept' seen same delivered = record {
    history = st.history;
    connector = st.connector;
    broker = st.broker;
    subscribers = record {
      queues = map-set view_of a.broker.queues (i - 1) q'
          ∙ ap₂ (λ vs v. slice_set vs (i - 1) v) st.subscribers.queues seen
          ∙ sym (map-set (queue_for (taken_items w)) w.subscriptions (i - 1) s');
      subscriptions = ap₂ (λ ks k. slice_set ks (i - 1) k) st.subscribers.subscriptions same
          ∙ sym (map-set parts_of w.subscriptions (i - 1) s');
      delivered = delivered_set (i - 1) a.broker.queues w.subscriptions (empty_queue nobody) q' s s' there delivered
          st.subscribers.delivered;
    };
  }

  -- the same of a subscription whose queue stays
  subscription_changes : (s' : Subscription) (kept' : SubscriptionParts)
      → queue_for (taken_items w) s ≡ queue_for (taken_items w) s' → kept' ≡ parts_of s'
      → (WereDelivered (queue_of a.broker i).delivered s → WereDelivered (queue_of a.broker i).delivered s')
      → ActorsStand (record a { subscriptions = slice_set a.subscriptions (i - 1) kept' }) (with_subscription i s' w)
  subscription_changes s' kept' seen same delivered =
      rw (set_same a.broker.queues (i - 1) (empty_queue nobody)) at
      (one_changes s' (queue_of a.broker i) kept' (queue_is ∙ seen) same delivered)

  -- and of a queue whose subscription is kept as it was
  queue_changes : (kept : SubscriptionParts) (s' : Subscription) (q' : QueueState)
      → slice_get a.subscriptions (i - 1) ≡ Some kept → view_of q' ≡ queue_for (taken_items w) s'
      → kept ≡ parts_of s' → (WereDelivered (queue_of a.broker i).delivered s → WereDelivered q'.delivered s')
      → ActorsStand (record a { broker = with_queue i q' a.broker }) (with_subscription i s' w)
  queue_changes kept s' q' here seen same delivered =
      rw (set_found a.subscriptions (i - 1) kept here) at (one_changes s' q' kept seen same delivered)

-- ---- a queue delivers

-- its position is the cursor's
position_from : (cursor : Cursor) (item : Option Item) (delivery : Delivery)
    → option_map (λ (x : Item). record { position = cursor.next; item = x }) item ≡ Some delivery
    → delivery.position ≡ cursor.next
position_from cursor None delivery found = cc
position_from cursor (Some item) delivery found =
    ap (λ (d : Delivery). d.position) (sym (same_Some (record { position = cursor.next; item = item }) delivery found))

-- what is delivered now counts as delivered
delivered_more : (delivered : ℕ) (cursor : Cursor) (s : Subscription) (delivery : Delivery) → s.cursor ≡ cursor
    → delivery.position ≡ cursor.next → WereDelivered delivered s
    → WereDelivered (max delivered cursor.next) (with_delivery delivery s)
delivered_more delivered cursor s delivery same position has =
    let at : s.cursor.next ≡ cursor.next = ap (λ (c : Cursor). c.next) same in
    record {
      first = omega arith;
      flight = λ d there.
          elim (Contains-push_cases s.flight delivery d there) [
            | inl old ↦ let is = has.flight d old in (is.0, omega (arith, is.1))
            | inr new ↦
                let p : d.position ≡ delivery.position = ap (λ (x : Delivery). x.position) (sym new) in
                (omega (arith, has.first, p, position, at), omega (arith, p, position))
          ];
      acks = λ p there. let is = has.acks p there in (is.0, omega (arith, is.1));
    }

-- what a queue delivers if it is done
delivered_found : (i : ℕ) (b b' : BrokerState) (s s' : SubscriptionParts) (found : Option Delivery)
    → DeliversAt i b s found (Ok tt) b' s'
    → (delivery : Delivery) × ((found ≡ Some delivery) × ((b'
    ≡ with_queue i (with_delivery_of (Some delivery) (queue_of b i)) b)
    × (s' ≡ record s { flight = s.flight ++ delivery ∷ [] })))
delivered_found i b b' s s' None delivers = cc (delivers.0)
delivered_found i b b' s s' (Some delivery) delivers = (delivery, (refl, delivers))

-- one refusal is the other
err_same : {A : Type 0} (why why' : StepError) → ◌≡◌ {A = Result A StepError} (Err why) (Err why') → why ≡ why'
err_same why why' is = cc

module _ (a : ActorParts) (i : ℕ) (s : SubscriptionParts) (above : 0 < i)
    (here : slice_get a.subscriptions (i - 1) ≡ Some s) where
  -- a step of a queue is what it does with what it delivers next
  sends_next : (w : WorldState) (st : ActorsStand a w) (found : Option Delivery)
      → next_of_queue (queue_of a.broker i) ≡ found → next w (Send i) ≡ (found
      >>= (λ d. success (with_subscription i (with_delivery d (of_number a w i s st above here).subscription) w)))
  sends_next w st found next =
      let of = of_number a w i s st above here in
      let is : next_delivery w of.subscription ≡ found =
      sym (ap (λ (v : QueueView). delivery_at v.cursor v.items) (queue_is a w i of.subscription st of.there)) ∙ next in
      rw (of.numbered_so, is)

  -- a queue delivers
  send_done : (s' : SubscriptionParts) (b' : BrokerState)
      → DeliversAt i a.broker s (next_of_queue (queue_of a.broker i)) (Ok tt) b' s'
      → ActorsMove a (Send i) (Ok Done) (record a { broker = b'; subscriptions = slice_set a.subscriptions (i - 1) s' })
  send_done s' b' delivers =
      let found = delivered_found i a.broker b' s s' (next_of_queue (queue_of a.broker i)) delivers in
      let delivery = found.0 in (
        tt,
        λ w st.
            let of = of_number a w i s st above here in
            let sub = of.subscription in
            let q = queue_of a.broker i in
            let seen : view_of q ≡ queue_for (taken_items w) sub = queue_is a w i sub st of.there in
            let same : s' ≡ parts_of (with_delivery delivery sub) =
            found.1.1.1 ∙ ap (λ (t : SubscriptionParts). record t { flight = t.flight ++ delivery ∷ [] })
            (sym of.parts) in (
              with_subscription i (with_delivery delivery sub) w,
              (
                subst (λ (b : BrokerState). ActorsStand (record a {
                  broker = b;
                  subscriptions = slice_set a.subscriptions (i - 1) s';
                }) (with_subscription i (with_delivery delivery sub) w)) (sym found.1.1.0)
                    (one_changes a w i sub st of.there (with_delivery delivery sub)
                    (with_delivery_of (Some delivery) q) s'
                    (ap (λ (v : QueueView). record v { cursor = after_delivery v.cursor }) seen) same
                    (delivered_more q.delivered q.cursor sub delivery (ap (λ (v : QueueView). v.cursor) (sym seen))
                    (position_from q.cursor (slice_get q.items (q.cursor.next - 1)) delivery found.1.0))),
                (sends_next w st (Some delivery) found.1.0, refl),
              ),
            ),
      )

  -- one that has nothing at its cursor doesn't, nor does one for which memory runs out; all that is kept stays
  send_refused : (j : ℕ) → j ≡ i → (s' : SubscriptionParts) (b' : BrokerState) (why : StepError)
      (found : Option Delivery) → next_of_queue (queue_of a.broker i) ≡ found
      → DeliversAt i a.broker s found (Err why) b' s'
      → ActorsMove a (Send j) (Err why) (record a { broker = b'; subscriptions = slice_set a.subscriptions (i - 1) s' })
  send_refused j is s' b' why None next delivers =
      rw (err_same why NotEnabled delivers.0, is, delivers.1.0, delivers.1.1, set_found a.subscriptions (i - 1) s here)
      (unable a (Send i) (λ w st. sends_next w st None next))
  send_refused j is s' b' why (Some delivery) next delivers =
      rw (delivers.0, is, delivers.1.0, delivers.1.1, set_found a.subscriptions (i - 1) s here)
      (exhausted a (Send i) refl (λ w st. tried w _ (Send i) _ (sends_next w st (Some delivery) next)))

  -- ---- a queue rewinds

  -- the queue rewinds
  rewind_done : ActorsMove a (Rewind i) (Ok Done)
      (record a { broker = with_queue i (rewound_queue (queue_of a.broker i)) a.broker })
  rewind_done = (
    tt,
    λ w st.
        let of = of_number a w i s st above here in
        let sub = of.subscription in
        done w (with_subscription i (with_rewind sub) w) (Rewind i) Done
        (queue_changes a w i sub st of.there s (with_rewind sub) (rewound_queue (queue_of a.broker i)) here
        (ap (λ (v : QueueView). record v { cursor = rewound v.cursor }) (queue_is a w i sub st of.there))
        (sym of.parts) (λ has. record { first = omega arith; flight = has.flight; acks = has.acks }))
        (rw (of.numbered_so)) refl,
  )

  -- and what is on its way is lost
  break_done : (s' : SubscriptionParts) → s' ≡ record s { flight = [] }
      → ActorsMove a (Break i) (Ok Done) (record a {
        broker = with_queue i (rewound_queue (queue_of a.broker i)) a.broker;
        subscriptions = slice_set a.subscriptions (i - 1) s';
      })
  break_done s' lost = (
    tt,
    λ w st.
        let of = of_number a w i s st above here in
        let sub = of.subscription in
        done w (with_subscription i (with_break sub) w) (Break i) Done
        (one_changes a w i sub st of.there (with_break sub) (rewound_queue (queue_of a.broker i)) s'
        (ap (λ (v : QueueView). record v { cursor = rewound v.cursor }) (queue_is a w i sub st of.there))
        (lost ∙ ap (λ (t : SubscriptionParts). record t { flight = [] }) (sym of.parts))
        (λ has. record { first = omega arith; flight = λ d there. absurd (none_there d there); acks = has.acks }))
        (rw (of.numbered_so)) refl,
  )

-- ---- a subscriber takes

-- what a subscriber takes
taken_found : (s s' : SubscriptionParts) (flight : List Delivery) (taking : Taking) → TakesAt s flight (Ok taking) s'
    → (delivery : Delivery) × ((rest : List Delivery) × ((flight ≡ delivery ∷ rest)
    × HasTakenFirst s delivery rest taking s'))
taken_found s s' [] taking takes = cc (takes.0)
taken_found s s' (delivery ∷ rest) taking takes = (delivery, (rest, (refl, takes)))

-- equal parts
parts_same : (s s' : SubscriptionParts) → s.kept ≡ s'.kept → s.flight ≡ s'.flight → s.acks ≡ s'.acks → s ≡ s'
parts_same s s' k f acks =
    ap (λ (x : SubscriberState). record s { kept = x }) k
    ∙ (ap (λ (x : List Delivery). record s { kept = s'.kept; flight = x }) f
    ∙ ap (λ (x : List ℕ). record s' { acks = x }) acks)

-- what was delivered stays so if a delivery is taken and acknowledged
delivered_taken : (delivered : ℕ) (s : Subscription) (delivery : Delivery) (rest : List Delivery)
    → s.flight ≡ delivery ∷ rest → WereDelivered delivered s → WereDelivered delivered (with_taking delivery rest s)
delivered_taken delivered s delivery rest first has = record {
  first = has.first;
  flight = λ d there.
      has.flight d (subst (λ ds. Contains ds d) (sym first) (suc there.0, omega (arith, there.1), there.2));
  acks = λ p there.
      elim (Contains-push_cases s.acks delivery.position p there) [
        | inl old ↦ has.acks p old
        | inr new ↦ subst (IsDelivered delivered) new
            (has.flight delivery (subst (λ ds. Contains ds delivery) (sym first) (0, omega arith, refl)))
      ];
}

-- a position that was delivered is known to the broker
known : (q : QueueState) (position : ℕ) → IsDelivered q.delivered position → is_unknown q position ≡ false
known q position is =
    let above : (position == 0) ≡ false = grind (arith, is.0) in
    let inside : nat_lt q.delivered position ≡ false = grind (arith, is.1) in
    rw (above, inside)

module _ (a : ActorParts) (i : ℕ) (s : SubscriptionParts) (above : 0 < i)
    (here : slice_get a.subscriptions (i - 1) ≡ Some s) where
  -- a step of a subscriber is what it does with the first of the deliveries
  takes_next : (w : WorldState) (st : ActorsStand a w) (flight : List Delivery) → s.flight ≡ flight
      → next w (Take i) ≡ (first_flight flight >>= taking w i (of_number a w i s st above here).subscription)
  takes_next w st flight first =
      let of = of_number a w i s st above here in
      let is : of.subscription.flight ≡ flight = ap (λ (t : SubscriptionParts). t.flight) of.parts ∙ first in
      rw (of.numbered_so, is)

  -- a subscriber takes a delivery
  take_done : (s' : SubscriptionParts) (answer : Taking) → TakesAt s s.flight (Ok answer) s'
      → ActorsMove a (Take i) (Ok (Took answer)) (record a { subscriptions = slice_set a.subscriptions (i - 1) s' })
  take_done s' answer takes =
      let found = taken_found s s' s.flight answer takes in
      let delivery = found.0 in
      let rest = found.1.0 in
      let first = found.1.1.0 in
      let has = found.1.1.1 in (
        tt,
        λ w st.
            let of = of_number a w i s st above here in
            let sub = of.subscription in
            let sub' : Subscription = with_taking delivery rest sub in
            let kept : s.kept ≡ kept_of sub.reception = ap (λ (t : SubscriptionParts). t.kept) (sym of.parts) in
            let acks : s.acks ≡ sub.acks = ap (λ (t : SubscriptionParts). t.acks) (sym of.parts) in
            done w (with_subscription i sub' w) (Take i) (Took answer)
            (subscription_changes a w i sub st of.there sub' s' refl
            (parts_same s' (parts_of sub') (has.receives sub.reception kept) has.flight
            (has.acks ∙ ap (λ (xs : List ℕ). xs ++ delivery.position ∷ []) acks))
            (delivered_taken (queue_of a.broker i).delivered sub delivery rest
            (ap (λ (t : SubscriptionParts). t.flight) of.parts ∙ first)))
            (takes_next w st (delivery ∷ rest) first ∙ ap (λ (t : Taking). Ok (Took t, with_subscription i sub' w))
            (ap (λ (k : SubscriberState). answer_to k delivery.item) (sym kept) ∙ sym has.answers)) refl,
      )

  -- it takes nothing if nothing is on its way or memory runs out; what is kept stays
  take_refused : (j : ℕ) → j ≡ i → (s' : SubscriptionParts) (why : StepError) (flight : List Delivery)
      → s.flight ≡ flight → TakesAt s flight (Err why) s'
      → ActorsMove a (Take j) (Err why) (record a { subscriptions = slice_set a.subscriptions (i - 1) s' })
  take_refused j is s' why [] first takes =
      rw (err_same why NotEnabled takes.0, is, takes.1, set_found a.subscriptions (i - 1) s here)
      (unable a (Take i) (λ w st. takes_next w st [] first))
  take_refused j is s' why (delivery ∷ rest) first takes =
      rw (takes.0, is, takes.1, set_found a.subscriptions (i - 1) s here)
      (exhausted a (Take i) refl (λ w st. tried w _ (Take i) _ (takes_next w st (delivery ∷ rest) first)))

  -- ---- an acknowledgement comes

  -- a step with an acknowledgement is what it does with its position
  acks_next : (w : WorldState) (st : ActorsStand a w) (k : ℕ) (found : Option ℕ) → numbered s.acks k ≡ found
      → next w (Ack i k) ≡ (found >>= acknowledgement w i (of_number a w i s st above here).subscription)
  acks_next w st k found there =
      let of = of_number a w i s st above here in
      let is : numbered of.subscription.acks k ≡ found =
      ap (λ (t : SubscriptionParts). numbered t.acks k) of.parts ∙ there in
      rw (of.numbered_so, is)

  -- an acknowledgement comes to the queue, and counts
  ack_done : (k position : ℕ) (b' : BrokerState) (counted : Bool) → numbered s.acks k ≡ Some position
      → counted ≡ not (is_unknown (queue_of a.broker i) position)
      → b' ≡ (if counted then with_queue i (acknowledged position (queue_of a.broker i)) a.broker else a.broker)
      → ActorsMove a (Ack i k) (Ok (Counted counted)) (record a { broker = b' })
  ack_done k position b' counted there answer state = (
    tt,
    λ w st.
        let of = of_number a w i s st above here in
        let sub = of.subscription in
        let q = queue_of a.broker i in
        let given : numbered sub.acks k ≡ Some position =
        ap (λ (t : SubscriptionParts). numbered t.acks k) of.parts ∙ there in
        let is : counted ≡ true =
        answer ∙ ap not (known q position ((delivered_is a w i sub st of.there).acks position
        (Contains_numbered sub.acks k position given))) in (
          with_subscription i (with_ack position sub) w,
          (
            rw (state, is) (queue_changes a w i sub st of.there s (with_ack position sub) (acknowledged position q) here
                (ap (λ (v : QueueView). record v { cursor = after_ack position v.cursor })
                (queue_is a w i sub st of.there)) (sym of.parts)
                (λ has. record { first = omega (arith, has.first); flight = has.flight; acks = has.acks })),
            (rw is (acks_next w st k (Some position) there), refl),
          ),
        ),
  )

  -- a subscriber closes
  close_done : (s' : SubscriptionParts) → HasClosed s s'
      → ActorsMove a (Close i) (Ok Done) (record a { subscriptions = slice_set a.subscriptions (i - 1) s' })
  close_done s' has = (
    tt,
    λ w st.
        let of = of_number a w i s st above here in
        let sub = of.subscription in
        done w (with_subscription i (with_close sub) w) (Close i) Done
        (subscription_changes a w i sub st of.there (with_close sub) s' refl (parts_same s' (parts_of (with_close sub))
        (has.closes sub.reception (ap (λ (t : SubscriptionParts). t.kept) (sym of.parts)))
        (has.flight ∙ ap (λ (t : SubscriptionParts). t.flight) (sym of.parts))
        (has.acks ∙ ap (λ (t : SubscriptionParts). t.acks) (sym of.parts)))
        (λ has. record { first = has.first; flight = has.flight; acks = has.acks })) (rw (of.numbered_so)) refl,
  )

-- ---- by the place that the code finds

-- if no place is found, the step isn't enabled
refused_none : (place : Option ℕ) (why : StepError) → ok_or place NotEnabled ≡ Err why
    → (place ≡ None) × (why ≡ NotEnabled)
refused_none None why is = (refl, cc)
refused_none (Some place) why is = cc

-- the queue of a subscriber rewinds, by the place that the code finds for the number
pub rewind_at : (a : ActorParts) (i count place : ℕ) (items : List Kept_subscription) (b' : BrokerState)
    → a.subscriptions ≡ map subscription_parts items → count ≡ length items → place_in i count ≡ Some place
    → b' ≡ with_queue (place + 1) (rewound_queue (queue_of a.broker (place + 1))) a.broker
    → ActorsMove a (Rewind i) (Ok Done) (record a { broker = b' })
rewind_at a i count place items b' same counted found state =
    let at = place_is i count place found in
    let many : length a.subscriptions ≡ length items = ap length same ∙ length-map items subscription_parts in
    let number : i ≡ place + 1 = omega (arith, at.above, at.here) in
    rw (state, number)
    (rewind_done a (place + 1) _ (omega arith) (slice_get-get_or a.subscriptions (place + 1 - 1) empty_subscription
    (omega (arith, at.inside, at.above, at.here, counted, many))))

module _ (a : ActorParts) (i count place : ℕ) (items : List Kept_subscription) (s : Kept_subscription)
    (same : a.subscriptions ≡ map subscription_parts items) (counted : count ≡ length items)
    (found : place_in i count ≡ Some place) (got : s ≡ get_or items place s) where
  -- the code's place for a subscriber's number is the one before it
  number_is : i ≡ place + 1
  number_is = let at = place_is i count place found in omega (arith, at.above, at.here)

  -- and back
  back : place ≡ place + 1 - 1
  back = omega arith

  -- what the code found there is what is kept of the number's subscription
  kept_at : slice_get a.subscriptions (place + 1 - 1) ≡ Some (subscription_parts s)
  kept_at =
      let at = place_is i count place found in
      let inside : place < length items = omega (arith, at.inside, at.here, counted) in
      ap₂ (λ (ss : List SubscriptionParts) (k : ℕ). slice_get ss k) same (sym back)
      ∙ subscription_here items place s inside got

  -- and what it puts there is put under the same number
  set_at : (s' : Kept_subscription) → map subscription_parts (slice_set items place s')
      ≡ slice_set a.subscriptions (place + 1 - 1) (subscription_parts s')
  set_at s' =
      map-set subscription_parts items place s'
      ∙ ap₂ (λ (ss : List SubscriptionParts) (k : ℕ). slice_set ss k (subscription_parts s')) (sym same) back

  -- so that a queue delivers to what the code found
  pub send_at : (s' : Kept_subscription) (b' : BrokerState)
      → DeliversAt (place + 1) a.broker (subscription_parts s)
      (next_of_queue (queue_of a.broker (place + 1))) (Ok tt) b' (subscription_parts s')
      → ActorsMove a (Send i) (Ok Done)
      (record a { broker = b'; subscriptions = map subscription_parts (slice_set items place s') })
  send_at s' b' delivers =
      rw (number_is, set_at s') (send_done a (place + 1) _ (omega arith) kept_at _ b' delivers)

  -- or hands nothing out
  pub send_at_refused : (s' : Kept_subscription) (b' : BrokerState) (why : StepError)
      → DeliversAt (place + 1) a.broker (subscription_parts s) (next_of_queue (queue_of a.broker (place + 1)))
      (Err why) b' (subscription_parts s') → ActorsMove a (Send i) (Err why)
      (record a { broker = b'; subscriptions = map subscription_parts (slice_set items place s') })
  send_at_refused s' b' why delivers =
      rw (set_at s') (send_refused a (place + 1) _ (omega arith) kept_at i number_is _ b' why _ refl delivers)

  -- or rewinds while what is on its way is lost
  pub break_at : (s' : Kept_subscription) (b' : BrokerState)
      → b' ≡ with_queue (place + 1) (rewound_queue (queue_of a.broker (place + 1))) a.broker
      → subscription_parts s' ≡ record (subscription_parts s) { flight = [] } → ActorsMove a (Break i) (Ok Done)
      (record a { broker = b'; subscriptions = map subscription_parts (slice_set items place s') })
  break_at s' b' state lost =
      rw (number_is, set_at s', state) (break_done a (place + 1) _ (omega arith) kept_at _ lost)

  -- and the subscriber takes a delivery
  pub take_at : (s' : Kept_subscription) (answer : Taking)
      → TakesAt (subscription_parts s) (subscription_parts s).flight (Ok answer) (subscription_parts s')
      → ActorsMove a (Take i) (Ok (Took answer))
      (record a { subscriptions = map subscription_parts (slice_set items place s') })
  take_at s' answer takes =
      rw (number_is, set_at s') (take_done a (place + 1) _ (omega arith) kept_at _ answer takes)

  -- or takes nothing
  pub take_at_refused : (s' : Kept_subscription) (why : StepError)
      → TakesAt (subscription_parts s) (subscription_parts s).flight (Err why) (subscription_parts s')
      → ActorsMove a (Take i) (Err why) (record a { subscriptions = map subscription_parts (slice_set items place s') })
  take_at_refused s' why takes =
      rw (set_at s') (take_refused a (place + 1) _ (omega arith) kept_at i number_is _ why _ refl takes)

  -- an acknowledgement that it gave comes to its queue
  pub ack_at : (k position : ℕ) (b' : BrokerState) (counts : Bool)
      → numbered (subscription_parts s).acks k ≡ Some position
      → counts ≡ not (is_unknown (queue_of a.broker (place + 1)) position)
      → b' ≡ (if counts then with_queue (place + 1) (acknowledged position (queue_of a.broker (place + 1))) a.broker
      else a.broker)
      → ActorsMove a (Ack i k) (Ok (Counted counts)) (record a { broker = b' })
  ack_at k position b' counts there answer state =
      rw number_is (ack_done a (place + 1) _ (omega arith) kept_at k position b' counts there answer state)

  -- one that it never gave doesn't
  pub ack_at_none : (k : ℕ) (why : StepError) (place' : Option ℕ) → ok_or place' NotEnabled ≡ Err why
      → (place' ≡ None → numbered (subscription_parts s).acks k ≡ None) → ActorsMove a (Ack i k) (Err why) a
  ack_at_none k why place' refused none =
      let is = refused_none place' why refused in
      rw (is.1, number_is)
      (unable a (Ack (place + 1) k) (λ w st. acks_next a (place + 1) _ (omega arith) kept_at w st k None (none is.0)))

  -- it closes
  pub close_at : (s' : Kept_subscription) → HasClosed (subscription_parts s) (subscription_parts s')
      → ActorsMove a (Close i) (Ok Done)
      (record a { subscriptions = map subscription_parts (slice_set items place s') })
  close_at s' has = rw (number_is, set_at s') (close_done a (place + 1) _ (omega arith) kept_at _ has)

-- ---- what readers find

-- what a reader finds is kept of the subscription of that number
pub parts_read : (a : ActorParts) (w : WorldState) (i : ℕ) (kept : SubscriptionParts) (s : Subscription)
    → ActorsStand a w → 0 < i → slice_get a.subscriptions (i - 1) ≡ Some kept → numbered w.subscriptions i ≡ Some s
    → kept ≡ parts_of s
parts_read a w i kept s st above here there =
    let of = of_number a w i kept st above here in
    let this : of.subscription ≡ s = same_Some of.subscription s (sym of.numbered_so ∙ there) in
    sym of.parts ∙ ap parts_of this

-- ---- one call of a subscriber

-- a subscriber that took the first of the deliveries
pub taken_is : (s s' : SubscriptionParts) (delivery : Delivery) (flight : List Delivery) (answer : Taking)
    → delivery ≡ get_or flight 0 delivery → 0 < length flight → s'.flight ≡ drop 1 flight
    → answer ≡ answer_to s.kept delivery.item → s'.acks ≡ s.acks ++ delivery.position ∷ []
    → ((reception : Reception) → s.kept ≡ kept_of reception
    → s'.kept ≡ kept_of (next_reception reception delivery.item)) → TakesAt s flight (Ok answer) s'
taken_is s s' delivery [] answer first some rest answers acks receives = absurd (omega arith)
taken_is s s' delivery (d ∷ ds) answer first some rest answers acks receives = record {
  answers = answers ∙ ap (λ (x : Delivery). answer_to s.kept x.item) first;
  flight = rest;
  acks = acks ∙ ap (λ (x : Delivery). s.acks ++ x.position ∷ []) first;
  receives = λ reception is. receives reception is
      ∙ ap (λ (x : Delivery). kept_of (next_reception reception x.item)) first;
}

-- an answer, whatever the errors
abbrev pub ok_of : {A : Type 0} → (F : Type 0) → A → Result A F
ok_of F x = Ok x

-- the answer before its error is mapped
pub mapped_ok : {A E : Type 0} (F : Type 0) (r : Result A E) (x : A) (Q : E → Type 0)
    → MatchResult r (λ y. ok_of F x ≡ ok_of F y) Q → true ≡ is_ok r → r ≡ Ok x
mapped_ok F (Ok y) x Q mapped ok = cc mapped
mapped_ok F (Err e) x Q mapped ok = cc

-- what is answered
pub answered_is : (kept : SubscriberState) (item : Item) (answer : Taking) (r : Result Taking TakeError)
    → TakesItem kept item r → r ≡ Ok answer → answer ≡ answer_to kept item
answered_is kept item answer r takes is =
    elim takes [ inl same ↦ cc | inr lacks ↦ cc (lacks.1) ]
