-- What holds for a subscriber and its queue is preserved when the queue gets an item, delivers or rewinds, and when
-- the subscriber takes, acknowledges or closes.
use Rattle.cdc_world.proofs.Words.{Arguments, Contains, Contains-append_left, Delivery, IsPrefix, IsReplay, IsServed, Item, List, Some, Subscription, [], ap, append_assoc, ap₂, arith, cases_lt, delivery_at, first_flight, get_or, get_or-take, inl, inr, length, length-take, map_push, max, new_subscription, queue_at, refl, sent_to, subst, sym, take, with_ack, with_break, with_close, with_delivery, with_rewind, with_taking, ℕ, ◌++◌, ◌+◌, ◌<◌, ◌∙◌, ◌∷◌, ◌≡◌, ◌≤◌, ◌⊎◌}
use Rattle.std.proofs.lemmas.List.{append-nil}
use Rattle.cdc_laws.specs.Brokers.{HasDelivered}
use Rattle.cdc_laws.specs.Deliveries.{deliveries}
use Rattle.cdc_laws.proofs.Deliveries.{HasNoneTwice-deliveries, length-deliveries, position-deliveries}
use Rattle.cdc_laws.proofs.Receiving.{HasTaken-close, HasTaken-next, HasTaken-nil, IsReplay-front, IsReplay-of_queue}
use Rattle.cdc_laws.proofs.Queues.{HasDelivered-longer, HasDelivered-next, HasDelivered-nil, HasDelivered-rewound}
use Rattle.cdc_laws.proofs.Replays.{Contains-unmap}
use Rattle.cdc_message.proofs.ReplayLaws.{IsReplay-Contains, IsReplay-earlier}

-- nothing was delivered to a new subscriber, and it has missed nothing
pub IsServed-new : (binding : Arguments) → IsServed [] (new_subscription binding)
IsServed-new binding =
    record { delivered = 0; out = HasDelivered-nil binding; receives = HasTaken-nil; acks = refl; acked = inl refl }

-- what came is a prefix of what came or may yet come
came : (s : Subscription) → IsPrefix s.taken (sent_to s)
came s = record { rest = s.flight; whole = refl }

module _ (items : List Item) (s : Subscription) (served : IsServed items s) where
  -- what it received is a replay of its queue
  pub IsReplay-served : IsReplay s.reception.items items
  IsReplay-served =
      IsReplay-of_queue (queue_at items served.delivered s) s.reception
      (record { out = sent_to s; delivered = served.out; taken = s.taken; front = came s; receives = served.receives })

  -- items added to a queue follow all that was delivered
  pub IsServed-longer : (more : List Item) → IsServed (items ++ more) s
  IsServed-longer more = record {
    delivered = served.delivered;
    out = HasDelivered-longer (queue_at items served.delivered s) (sent_to s) more served.out;
    receives = served.receives;
    acks = served.acks;
    acked = served.acked;
  }

  -- the item at the cursor goes on its way
  pub IsServed-sending : (d : Delivery) → delivery_at s.cursor items ≡ Some d → IsServed items (with_delivery d s)
  IsServed-sending d found = record {
    delivered = max served.delivered s.cursor.next;
    out = subst (HasDelivered (queue_at items (max served.delivered s.cursor.next) (with_delivery d s)))
        (append_assoc s.taken s.flight (d ∷ []))
        (HasDelivered-next (queue_at items served.delivered s) (sent_to s) d served.out found);
    receives = served.receives;
    acks = served.acks;
    acked = served.acked;
  }

  -- the queue rewinds
  pub IsServed-rewound : IsServed items (with_rewind s)
  IsServed-rewound = record {
    delivered = served.delivered;
    out = HasDelivered-rewound (queue_at items served.delivered s) (sent_to s) served.out;
    receives = served.receives;
    acks = served.acks;
    acked = served.acked;
  }

  -- a subscriber that closes keeps what it has received
  pub IsServed-close : IsServed items (with_close s)
  IsServed-close = record {
    delivered = served.delivered;
    out = served.out;
    receives = HasTaken-close s.reception s.taken served.receives;
    acks = served.acks;
    acked = served.acked;
  }

  -- ---- what is acknowledged was taken, and all before it

  -- a position of the queue, up to which all was taken
  record IsReached (p : ℕ) : Type 0 where
    within : p ≤ length items
    all : (d : Delivery) → Contains (take p (deliveries items)) d → Contains s.taken d

  -- the subscriber acknowledges only what it took, and the queue leaves nothing out before that
  IsReached-acks : (p : ℕ) → Contains s.acks p → IsReached p
  IsReached-acks p there =
      let replay : IsReplay s.taken (deliveries items) =
      IsReplay-front s.taken (sent_to s) (deliveries items) (came s) served.out.replay in
      let d =
      Contains-unmap (λ (d : Delivery). d.position) s.taken p (subst (λ ps. Contains ps p) served.acks there) in
      let found = IsReplay-Contains s.taken (deliveries items) d.0 replay d.1 in
      let within : found.0 < length items = omega (arith, length-deliveries items, found.1) in
      let position : found.0 + 1 ≡ p =
      sym (position-deliveries items found.0 d.0 within) ∙ ap (λ (x : Delivery). x.position) found.2 ∙ d.2 in
      record {
        within = omega (arith, within, position);
        all = λ y before.
            let early : before.0 < p = omega (arith, length-take p (deliveries items), before.1) in
            let here : get_or (deliveries items) before.0 y ≡ y =
            sym (get_or-take p (deliveries items) before.0 y early) ∙ before.2 in
            IsReplay-earlier s.taken (deliveries items) y d.0 before.0 found.0 replay (HasNoneTwice-deliveries items)
            (omega (arith, early, position)) found.1 here found.2 d.1;
      }

  -- so is what the broker knows of
  IsReached-acked : (p : ℕ) → (p ≡ 0) ⊎ Contains s.acks p → IsReached p
  IsReached-acked p (inl none) = record {
    within = omega (arith, none);
    all = λ y before. absurd (omega (arith, none, length-take p (deliveries items), before.1));
  }
  IsReached-acked p (inr there) = IsReached-acks p there

  -- the queue rewinds, and what is on its way is lost
  pub IsServed-broken : IsServed items (with_break s)
  IsServed-broken =
      let reached : IsReached s.cursor.acked = IsReached-acked s.cursor.acked served.acked in
      record {
        delivered = s.cursor.acked;
        out = subst (HasDelivered (queue_at items s.cursor.acked (with_break s))) (sym (append-nil s.taken))
            (record {
              replay = IsReplay-front s.taken (sent_to s) (deliveries items) (came s) served.out.replay;
              all = reached.all;
              there = reached.within;
              from_one = omega arith;
              next_at_most = omega arith;
              acked_delivered = omega arith;
            });
        receives = served.receives;
        acks = served.acks;
        acked = served.acked;
      }

  -- an acknowledgement comes to the queue: it lifts the cursor past nothing but what was taken
  pub IsServed-ack : (position : ℕ) → Contains s.acks position → IsServed items (with_ack position s)
  IsServed-ack position there =
      let reached : IsReached position = IsReached-acks position there in
      record {
        delivered = max served.delivered position;
        out = record {
          replay = served.out.replay;
          all = λ d before.
              elim (cases_lt served.delivered position) [
                | inl further ↦
                    let count : max served.delivered position ≡ position = omega (arith, further) in
                    Contains-append_left s.taken s.flight d
                    (reached.all d (subst (λ n. Contains (take n (deliveries items)) d) count before))
                | inr known ↦
                    let count : max served.delivered position ≡ served.delivered = omega (arith, known) in
                    served.out.all d (subst (λ n. Contains (take n (deliveries items)) d) count before)
              ];
          there = omega (arith, reached.within, served.out.there);
          from_one = omega (arith, served.out.from_one);
          next_at_most = omega (arith, served.out.next_at_most, served.out.acked_delivered);
          acked_delivered = omega (arith, served.out.acked_delivered);
        };
        receives = served.receives;
        acks = served.acks;
        acked = elim (cases_lt s.cursor.acked position) [
          | inl newer ↦
              let is : max s.cursor.acked position ≡ position = omega (arith, newer) in inr (rw is there)
          | inr older ↦
              let is : max s.cursor.acked position ≡ s.cursor.acked = omega (arith, older) in rw is served.acked
        ];
      }

  -- ---- the subscriber takes a delivery

  -- the first delivery on its way and those after it are all that are
  in_flight : (flight : List Delivery) (first : Delivery × List Delivery) → first_flight flight ≡ Some first
      → flight ≡ first.0 ∷ first.1
  in_flight [] first found = cc
  in_flight (d ∷ rest) first found =
      let is : ◌≡◌ {A = Delivery × List Delivery} (d, rest) first = cc in
      ap₂ (λ x xs. x ∷ xs) (ap (λ (p : Delivery × List Delivery). p.0) is)
      (ap (λ (p : Delivery × List Delivery). p.1) is)

  -- it was on its way: all that was delivered is the same, and one more is acknowledged
  pub IsServed-taking : (first : Delivery × List Delivery) → first_flight s.flight ≡ Some first
      → IsServed items (with_taking first.0 first.1 s)
  IsServed-taking first found =
      let d : Delivery = first.0 in
      let sent : sent_to s ≡ (s.taken ++ d ∷ []) ++ first.1 =
      ap (λ ds. s.taken ++ ds) (in_flight s.flight first found) ∙ sym (append_assoc s.taken (d ∷ []) first.1) in
      record {
        delivered = served.delivered;
        out = subst (HasDelivered (queue_at items served.delivered s)) sent served.out;
        receives = HasTaken-next s.reception s.taken d served.receives;
        acks = ap (λ ps. ps ++ d.position ∷ []) served.acks
            ∙ sym (map_push (λ (x : Delivery). x.position) s.taken d);
        acked = elim served.acked [
          | inl none ↦ inl none
          | inr old ↦ inr (Contains-append_left s.acks (d.position ∷ []) s.cursor.acked old)
        ];
      }
