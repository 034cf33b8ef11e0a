-- The broker actor in its first state, after a turn, and once it has finished.
use Rattle.cdc_broker_actors.proofs.Words.{◌&&◌, ◌+◌, ◌-◌, ◌<◌, ◌==◌, ◌∙◌, ◌∷◌, ◌≡◌, ◌≤◌, All, Arguments, Bool, BrokerCore, BrokerPlan, Consumer, Dealings, Delivery, HasArrived-nil, HasReceivedAll, HasTurned, Incoming, IsBrokerActor, IsBrokerCore, IsConsumerServed, IsFreshLink, IsWhole, List, MayStop, None, Option, Outgoing, Past, QueueState, Some, ToBroker, ToConnector, ToSubscriber, [], acks_at, all_served, ap, ap₂, arith, as_confirm, cases_Bool, dealings, empty_broker, empty_queue, ends_to_broker, eqb-true, false, first_broker, first_consumer, get_or, get_or_from_slice_get, has_ended, inl, inr, is_over, items_of, length, length-map, list_all, list_all-map, map, next_delivery, no_dealings, nobody, of_sender, option_map, packets_in, queue_of, refl, slice_get, slice_get-get_or, slice_get-map, slice_get_within, stopped, subst, suc, sym, taken_of, true, unwrap_or, with_stop, zero, ℕ}
use Rattle.cdc_broker_actors.proofs.BrokerLemmas.Receiving.{GoesOn, GoesOn-all, IsServedTo, IsServedTo-first, IsServedTo-next, served_one}
use Rattle.cdc_broker_actors.proofs.BrokerLemmas.Places.{HoldsOfAll, HoldsOfAll-consumers, slice_get_made}
use Rattle.cdc_broker_actors.proofs.BrokerLemmas.Serving.{IsConsumerServed-first, IsConsumerServed-stop, MayStop-served, deliveries_in-stop, whole_queue}

-- nothing and some more
none_more : (n : ℕ) → 0 + n ≡ n
none_more n = omega arith

-- both of two tests
both_of : (a b : Bool) → (a && b) ≡ true → (a ≡ true) × (b ≡ true)
both_of true b is = (refl, is)
both_of false b is = cc

-- what each element passes, that at a place does
passes_at : {X : Type 0} (test : X → Bool) (xs : List X) (k : ℕ) (x : X) → list_all test xs ≡ true
    → slice_get xs k ≡ Some x → test x ≡ true
passes_at test [] k x all found = cc
passes_at test (y ∷ xs) zero x all found =
    let same : y ≡ x = cc in ap test (sym same) ∙ (both_of (test y) (list_all test xs) all).0
passes_at test (y ∷ xs) (suc k) x all found = passes_at test xs k x (both_of (test y) (list_all test xs) all).1 found

-- ---- the last step of a turn

-- each subscriber may be sent its last message
pub may_stop : (d : BrokerCore) → IsBrokerCore d → d.finished ≡ false → All MayStop d.consumers
may_stop d is goes k x below =
    let c : Consumer = get_or d.consumers k x in
    let found : slice_get d.consumers k ≡ Some c = slice_get-get_or d.consumers k x below in
    MayStop-served d.prefetch (acks_at d k) (queue_of d.broker (k + 1)) c (served_one d is goes k c found)

-- no copy is without an acknowledgement
abbrev has_none : Consumer → Bool
has_none c = c.unacked == 0

module _ (d : BrokerCore) (count : ℕ) (so_far : IsServedTo count count d) where
  -- each queue has delivered as much as it may
  eager_all : HoldsOfAll (λ k q c. c.unacked < d.prefetch → next_delivery q ≡ None) d.broker d.consumers
  eager_all k c found few =
      so_far.eager k c found (omega (arith, slice_get_within d.consumers k c found, so_far.many)) few

  -- not all is over
  more : is_over d ≡ false → IsBrokerActor d
  more isnt = record {
    core = so_far.core;
    eager = eager_all;
    over = so_far.goes_on ∙ sym isnt;
    whole = λ k c found done.
        let isnt : d.finished ≡ false = so_far.goes_on in cc;
  }

  -- all is over
  over : is_over d ≡ true → IsBrokerActor (record d { consumers = map with_stop d.consumers; finished = true })
  over is =
      let new : BrokerCore = record d { consumers = map with_stop d.consumers; finished = true } in
      let both = both_of d.connector_done (list_all has_none d.consumers) is in
      let core : IsBrokerCore d = so_far.core in
      let eager : HoldsOfAll (λ k q c. c.unacked < d.prefetch → next_delivery q ≡ None) d.broker new.consumers =
      HoldsOfAll-consumers (λ k q c. c.unacked < d.prefetch → next_delivery q ≡ None)
      (λ k q c. c.unacked < d.prefetch → next_delivery q ≡ None) d.broker d.consumers with_stop eager_all
      (λ k q c none. none) in
      record {
        core = assumption (
          core.senders ∙ ap (λ (n : ℕ). n + 1) (sym (length-map d.consumers with_stop)),
          core.queues ∙ sym (length-map d.consumers with_stop),
          HoldsOfAll-consumers (λ k q c. IsConsumerServed false d.prefetch (acks_at d k) q c)
              (λ k q c. IsConsumerServed true d.prefetch (acks_at d k) q c) d.broker d.consumers with_stop
              (λ k c found. served_one d core so_far.goes_on k c found)
              (λ k q c one. IsConsumerServed-stop d.prefetch (acks_at d k) q c one),
        );
        eager = eager;
        over = sym (ap₂ (λ (a b : Bool). a && b) both.0 (list_all-map has_none with_stop d.consumers ∙ both.1));
        whole = λ k c found done.
            let made = slice_get_made with_stop d.consumers k c found in
            let x : Consumer = made.0 in
            let zero_copies = eqb-true x.unacked 0 (passes_at has_none d.consumers k x both.1 made.1.0) in
            let none = eager_all k x made.1.0 (omega (arith, zero_copies, core.some)) in
            let one = served_one d core so_far.goes_on k x made.1.0 in
            subst (IsWhole (acks_at d k) (queue_of d.broker (k + 1))) made.1.1
            (record {
              delivered = whole_queue (queue_of d.broker (k + 1)) _ one.delivered none;
              acknowledged = ap (λ (ds : List Delivery). length ds) (deliveries_in-stop x.link.sent)
                  ∙ one.copies
                  ∙ ap (λ (n : ℕ). n + acks_at d k) zero_copies
                  ∙ none_more (acks_at d k);
            });
      }

  pub IsBrokerActor-stopped : IsBrokerActor (stopped d)
  IsBrokerActor-stopped = elim (cases_Bool (is_over d)) [
    | inl is ↦ rw is (over is)
    | inr isnt ↦ rw isnt (more isnt)
  ]

-- ---- a whole turn

-- the first so many queues are served
pub served_first : (count n : ℕ) (d : BrokerCore) → GoesOn count d → n ≤ count → IsServedTo count n (all_served n d)
served_first count zero d goes below = rw goes.many at (IsServedTo-first d goes.core goes.goes_on)
served_first count (suc n) d goes below =
    IsServedTo-next count n (all_served n d) (served_first count n d goes (omega (arith, below))) (omega (arith, below))

-- all of them are, after messages
pub served_all : (old mid new : BrokerCore) → IsBrokerCore old → old.finished ≡ false → HasReceivedAll old mid
    → new ≡ all_served (length mid.consumers) mid → IsServedTo (length old.consumers) (length old.consumers) new
served_all old mid new is goes all after =
    let on = GoesOn-all old mid is goes all in
    let count : ℕ = length old.consumers in
    rw (after, on.many) (served_first count count mid on (omega arith))

-- so an actor that has taken a turn keeps the invariant
pub turned_is : (old new : BrokerCore) → IsBrokerActor old → old.finished ≡ false → HasTurned old new
    → IsBrokerActor new
turned_is old new is goes turn =
    let count : ℕ = length old.consumers in
    rw turn.after (IsBrokerActor-stopped (all_served count turn.received) count
    (served_first count count turn.received (GoesOn-all old turn.received is.core goes turn.has) (omega arith)))

-- ---- the first state

-- a queue of a broker that nothing has come to
empty_at : (bindings : List Arguments) (k : ℕ)
    → (binding : Arguments) × (queue_of (empty_broker bindings) (k + 1) ≡ empty_queue binding)
empty_at bindings k = (
  found_binding (slice_get bindings (k + 1 - 1)),
  ap (λ (found : Option QueueState). unwrap_or found (empty_queue nobody))
      (slice_get-map empty_queue bindings (k + 1 - 1))
      ∙ is (slice_get bindings (k + 1 - 1)),
)
  where
    found_binding : Option Arguments → Arguments
    found_binding None = nobody
    found_binding (Some binding) = binding

    is : (found : Option Arguments)
        → unwrap_or (option_map empty_queue found) (empty_queue nobody) ≡ empty_queue (found_binding found)
    is None = refl
    is (Some binding) = refl

pub IsBrokerActor-first : (inbox : Incoming ToBroker (Unit {0})) (confirms : Outgoing ToConnector (Option Past))
    (links : List (Outgoing ToSubscriber (Unit {0}))) (bindings : List Arguments) (plan : BrokerPlan) (prefetch : ℕ)
    → inbox.received ≡ [] → inbox.senders ≡ length links + 1 → confirms.number ≡ 1 → confirms.sent ≡ []
    → All IsFreshLink links → length bindings ≡ length links → 0 < prefetch → prefetch ≤ 64
    → IsBrokerActor (first_broker inbox confirms links (empty_broker bindings) plan prefetch)
IsBrokerActor-first inbox confirms links bindings plan prefetch fresh senders own silent fresh_links many some few =
    record {
      core = record {
        senders = senders ∙ ap (λ (n : ℕ). n + 1) (sym (length-map links first_consumer));
        own = own;
        queues = length-map bindings empty_queue ∙ many ∙ sym (length-map links first_consumer);
        some = some;
        few = few;
        arrived = rw none (HasArrived-nil bindings);
        confirmed = silent ∙ ap (λ (made : Dealings). map as_confirm made.confirms) (sym none);
        publishes = ap (λ (made : Dealings). made.publishes) (sym none);
        accepted = ap (λ (made : Dealings). length (items_of (taken_of made.arrived))) (sym none);
        connector = ap (λ (l : List (ℕ × (ToBroker × Unit {0}))). has_ended ends_to_broker (of_sender 0 l)) (sym fresh);
        served = served;
      };
      eager = λ k c found few. ap next_delivery (empty_at bindings k).1;
      over = refl;
      whole = λ k c found done. cc;
    }
  where
    none : dealings plan (packets_in (of_sender 0 inbox.received)) ≡ no_dealings
    none = ap (λ (l : List (ℕ × (ToBroker × Unit {0}))). dealings plan (packets_in (of_sender 0 l))) fresh

    served : (k : ℕ) (c : Consumer) → slice_get (map first_consumer links) k ≡ Some c
        → IsConsumerServed false prefetch (length (of_sender (k + 1) inbox.received))
        (queue_of (empty_broker bindings) (k + 1)) c
    served k c found =
        let made = slice_get_made first_consumer links k c found in
        let link : Outgoing ToSubscriber (Unit {0}) = made.0 in
        let inside = slice_get_within links k link made.1.0 in
        let at = empty_at bindings k in
        let is : IsFreshLink link =
        rw (get_or_from_slice_get links k link link made.1.0) at (fresh_links k link inside) in
        rw fresh (rw at.1 (rw made.1.1 at (IsConsumerServed-first prefetch at.0 link is.0 is.1)))
