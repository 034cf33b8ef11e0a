-- How far a subscriber actor has come that has met a fault.
use Rattle.cdc_broker_actors.proofs.Words.{◌++◌, ◌∙◌, ◌∷◌, ◌≡◌, ◌⊎◌, Arrival, Carries, ComesSoFar, Delivery, Incoming, IsSubscriberActor, IsSubscriberSoFar, List, OutOfMemory, Outgoing, PeerGone, Reception, RunFault, SubscriberCore, SubscriberState, SubscribersComeSoFar, ToBroker, ToSubscriber, [], ack_of, ap, append-nil, arith, arrivals_by, delivery_of, false, filter_map-append, fold-append, inl, inr, kept_of, nothing, received_after, received_by, subst, sym, taken_by, with_arrival, with_message, with_received, with_sent, with_unacknowledged, with_untaken, ℕ}
use Rattle.cdc_broker_actors.specs.Subscriber.SoFar.{HasFailed}
use Rattle.cdc_broker_actors.proofs.SubscriberLemmas.Arriving.{noted_more}
use Rattle.cdc_broker_actors.proofs.SubscriberLemmas.Taking.{came_more, of_broker_more}

-- one that has met none has acknowledged all that it has taken
subscriber_so_far : (c : SubscriberCore) → IsSubscriberActor c → IsSubscriberSoFar c
subscriber_so_far c is = record {
  acknowledged = taken_by c.inbox;
  rest = [];
  own = is.own;
  alone = is.alone;
  of_broker = is.of_broker;
  came = is.came;
  all = sym (append-nil (taken_by c.inbox));
  at_most_one = omega arith;
  acks = is.acknowledged;
  keeps = inl is.keeps;
}

module _ (c : SubscriberCore) (is : IsSubscriberActor c) (goes_on : c.finished ≡ false) (d : Delivery) where
  abbrev brought : Incoming ToSubscriber (Unit {0})
  brought = with_received c.inbox (0, (Carries d, tt))

  more : taken_by brought ≡ taken_by c.inbox ++ d ∷ []
  more = filter_map-append (λ (e : ℕ × (ToSubscriber × Unit {0})). delivery_of e.1.0) c.inbox.received
      ((0, (Carries d, tt)) ∷ [])

  -- one more delivery was received, whether its subscriber has taken it or not
  with_one_more : (subscriber : SubscriberState) (arrivals : List Arrival)
      → (subscriber ≡ kept_of (received_by c.close_after (taken_by c.inbox)))
      ⊎ (subscriber ≡ kept_of (received_by c.close_after (taken_by brought)))
      → IsSubscriberSoFar (record c { inbox = brought; subscriber = subscriber; arrivals = arrivals })
  with_one_more subscriber arrivals keeps = record {
    acknowledged = taken_by c.inbox;
    rest = d ∷ [];
    own = is.own;
    alone = is.alone;
    of_broker = of_broker_more c is goes_on (Carries d);
    came = came_more c is goes_on d;
    all = more;
    at_most_one = omega arith;
    acks = is.acknowledged;
    keeps = keeps;
  }

  untaken_so_far : IsSubscriberSoFar (with_untaken d c)
  untaken_so_far = with_one_more c.subscriber c.arrivals (inl is.keeps)

  unacknowledged_so_far : IsSubscriberSoFar (with_unacknowledged d c)
  unacknowledged_so_far =
      with_one_more (kept_of (received_by c.close_after (taken_by c.inbox ++ d ∷ [])))
      (arrivals_by c.close_after (taken_by c.inbox ++ d ∷ []))
      (inr (ap (λ (l : List Delivery). kept_of (received_by c.close_after l)) (sym more)))

comes_so_far : (old : SubscriberCore) (fault : RunFault) (new : SubscriberCore) → IsSubscriberActor old → old.finished
    ≡ false → ComesSoFar old fault new → IsSubscriberSoFar new
comes_so_far old PeerGone new is goes_on (inl same) = subst IsSubscriberSoFar (sym same) (subscriber_so_far old is)
comes_so_far old PeerGone new is goes_on (inr (d, (came, after))) = rw after (unacknowledged_so_far old is goes_on d)
comes_so_far old OutOfMemory new is goes_on (d, (came, after)) = rw after (untaken_so_far old is goes_on d)
comes_so_far old other new is goes_on comes = absurd comes

-- one whose turn fails all but the last delivery
failed_so_far : (old : SubscriberCore) (fault : RunFault) (new : SubscriberCore) → IsSubscriberActor old
    → HasFailed old fault new → IsSubscriberSoFar new
failed_so_far old fault new is failed = comes_so_far old fault new is failed.working failed.comes

pub subscribers_come_so_far : SubscribersComeSoFar
subscribers_come_so_far = record { between = subscriber_so_far; failed = failed_so_far }

-- the work inside a subscriber actor, once its subscriber has taken a delivery
module _ (inside now : SubscriberCore) (same : inside ≡ now) (inbox : Incoming ToSubscriber (Unit {0}))
    (subscriber : SubscriberState) (arrivals : List Arrival) (d : Delivery)
    (received : inbox ≡ with_received now.inbox (0, (Carries d, tt)))
    (keeps : now.subscriber ≡ kept_of (received_by now.close_after (taken_by now.inbox)))
    (arrives : now.arrivals ≡ arrivals_by now.close_after (taken_by now.inbox))
    (took : (reception : Reception) → inside.subscriber ≡ kept_of reception
    → subscriber ≡ kept_of (received_after inside.close_after reception d))
    (noted : arrivals ≡ with_arrival inside.subscriber.closed d inside.arrivals) where
  receives : subscriber ≡ kept_of (received_by now.close_after (taken_by now.inbox ++ d ∷ []))
  receives =
      let reception : Reception = received_by now.close_after (taken_by now.inbox) in
      took reception (ap (λ (c : SubscriberCore). c.subscriber) same ∙ keeps)
      ∙ ap (λ (c : SubscriberCore). kept_of (received_after c.close_after reception d)) same
      ∙ ap kept_of (sym (fold-append (received_after now.close_after) nothing (taken_by now.inbox) (d ∷ [])))

  notes : arrivals ≡ arrivals_by now.close_after (taken_by now.inbox ++ d ∷ [])
  notes =
      noted
      ∙ ap (λ (c : SubscriberCore). with_arrival c.subscriber.closed d c.arrivals) same
      ∙ noted_more now d keeps arrives

  -- it couldn't acknowledge it
  pub unacknowledged_so : (acks : Outgoing ToBroker (Unit {0})) → acks ≡ inside.acks
      → record inside { inbox = inbox; acks = acks; subscriber = subscriber; arrivals = arrivals }
      ≡ with_unacknowledged d now
  unacknowledged_so acks unsent =
      (λ i. record inside { inbox = received i; acks = unsent i; subscriber = receives i; arrivals = notes i })
      ∙ ap (λ (c : SubscriberCore). record c {
        inbox = with_received now.inbox (0, (Carries d, tt));
        subscriber = kept_of (received_by now.close_after (taken_by now.inbox ++ d ∷ []));
        arrivals = arrivals_by now.close_after (taken_by now.inbox ++ d ∷ []);
      }) same

  -- it has acknowledged it
  pub acknowledged_so : (acks : Outgoing ToBroker (Unit {0}))
      → acks ≡ with_sent inside.acks (ack_of inside.number d, tt)
      → record inside { inbox = inbox; acks = acks; subscriber = subscriber; arrivals = arrivals }
      ≡ with_message (Carries d) now
  acknowledged_so acks sent =
      (λ i. record inside { inbox = received i; acks = sent i; subscriber = receives i; arrivals = notes i })
      ∙ ap (λ (c : SubscriberCore). record c {
        inbox = with_received now.inbox (0, (Carries d, tt));
        acks = with_sent c.acks (ack_of c.number d, tt);
        subscriber = kept_of (received_by now.close_after (taken_by now.inbox ++ d ∷ []));
        arrivals = arrivals_by now.close_after (taken_by now.inbox ++ d ∷ []);
      }) same
