-- A subscriber actor: what it may acknowledge, and that one more message keeps its invariant.
use Rattle.cdc_broker_actors.proofs.Words.{◌++◌, ◌<◌, ◌||◌, ◌∙◌, ◌∷◌, ◌≡◌, Bool, Carries, Delivery, FollowsToBroker, Incoming, IsSubscriberActor, List, Option, Stop, SubscriberCore, ToBroker, ToSubscriber, [], ack_of, ap, append-nil, arrivals_by, delivery_of, ends_to_broker, false, filter_map-append, has_ended, kept_of, list_any, map, map-append, of_sender, of_sender-snoc_own, received_by, refl, stop_if, sym, taken_by, with_message, with_received, ℕ}
use Rattle.cdc_broker_actors.specs.Subscriber.{HasReceived}
use Rattle.cdc_broker_actors.proofs.SubscriberLemmas.Closing.{deliveries_are_received}

-- no acknowledgement is a last message
acks_go_on : (number : ℕ) (ds : List Delivery) → list_any ends_to_broker (map (ack_of number) ds) ≡ false
acks_go_on number [] = refl
acks_go_on number (d ∷ ds) = acks_go_on number ds

-- whether a sender has ended depends only on its messages, not on what they name
ended_of : (sent : List (ToBroker × Unit {0}))
    → has_ended ends_to_broker sent ≡ list_any ends_to_broker (map (λ m. m.0) sent)
ended_of [] = refl
ended_of (m ∷ sent) = ap (λ (b : Bool). ends_to_broker m.0 || b) (ended_of sent)

module _ (c : SubscriberCore) (is : IsSubscriberActor c) where
  -- it may acknowledge a delivery that has a position
  pub may_acknowledge : (d : Delivery) → 0 < d.position
      → FollowsToBroker c.acks.number c.acks.sent (ack_of c.number d, tt)
  may_acknowledge d position = record {
    goes_on = ended_of c.acks.sent
        ∙ ap (list_any ends_to_broker) is.acknowledged
        ∙ acks_go_on c.number (taken_by c.inbox);
    may = (rw is.own is.first, sym is.own, position);
  }

  -- of an actor that hasn't finished
  module _ (goes_on : c.finished ≡ false) where
    came_so_far : map (λ e. e.1.0) c.inbox.received ≡ map Carries (taken_by c.inbox)
    came_so_far =
        is.came
        ∙ ap (λ (b : Bool). map Carries (taken_by c.inbox) ++ stop_if b) goes_on
        ∙ append-nil (map Carries (taken_by c.inbox))

    -- what a message more makes of what came of the broker
    pub of_broker_more : (message : ToSubscriber) → of_sender 0 (c.inbox.received ++ (0, (message, tt)) ∷ [])
        ≡ map (λ e. e.1) (c.inbox.received ++ (0, (message, tt)) ∷ [])
    of_broker_more message =
        of_sender-snoc_own (0, (message, tt)) c.inbox.received
        ∙ ap (λ (l : List (ToSubscriber × Unit {0})). l ++ (message, tt) ∷ []) is.of_broker
        ∙ sym (map-append (λ (e : ℕ × (ToSubscriber × Unit {0})). e.1) c.inbox.received ((0, (message, tt)) ∷ []))

    -- and a delivery more of what it has received
    pub came_more : (d : Delivery) → map (λ e. e.1.0) (c.inbox.received ++ (0, (Carries d, tt)) ∷ [])
        ≡ map Carries (taken_by (with_received c.inbox (0, (Carries d, tt)))) ++ stop_if c.finished
    came_more d =
        let next : Incoming ToSubscriber (Unit {0}) = with_received c.inbox (0, (Carries d, tt)) in
        let brings : ℕ × (ToSubscriber × Unit {0}) → Option Delivery = λ e. delivery_of e.1.0 in
        let more = filter_map-append brings c.inbox.received ((0, (Carries d, tt)) ∷ []) in
        map-append (λ (e : ℕ × (ToSubscriber × Unit {0})). e.1.0) c.inbox.received ((0, (Carries d, tt)) ∷ [])
        ∙ ap (λ (l : List ToSubscriber). l ++ Carries d ∷ []) came_so_far
        ∙ sym (map-append Carries (taken_by c.inbox) (d ∷ []))
        ∙ ap (map Carries) (sym more)
        ∙ sym (append-nil (map Carries (taken_by next)))
        ∙ ap (λ (b : Bool). map Carries (taken_by next) ++ stop_if b) (sym goes_on)

    -- with a delivery more it is one still
    taken_is : (d : Delivery) → IsSubscriberActor (with_message (Carries d) c)
    taken_is d =
        let next : SubscriberCore = with_message (Carries d) c in
        let brings : ℕ × (ToSubscriber × Unit {0}) → Option Delivery = λ e. delivery_of e.1.0 in
        let more = filter_map-append brings c.inbox.received ((0, (Carries d, tt)) ∷ []) in
        record {
          first = is.first;
          own = is.own;
          alone = is.alone;
          of_broker = of_broker_more (Carries d);
          came = came_more d;
          acknowledged = map-append (λ (m : ToBroker × Unit {0}). m.0) c.acks.sent ((ack_of c.number d, tt) ∷ [])
              ∙ ap (λ (l : List ToBroker). l ++ ack_of c.number d ∷ []) is.acknowledged
              ∙ sym (map-append (ack_of c.number) (taken_by c.inbox) (d ∷ []))
              ∙ ap (map (ack_of c.number)) (sym more);
          keeps = ap (λ (l : List Delivery). kept_of (received_by c.close_after l)) (sym more);
          receives = deliveries_are_received c.close_after (taken_by next.inbox);
          arrives = ap (λ (l : List Delivery). arrivals_by c.close_after l) (sym more);
        }

    -- and once it was sent the last message
    stopped_is : IsSubscriberActor (with_message Stop c)
    stopped_is =
        let next : SubscriberCore = with_message Stop c in
        let brings : ℕ × (ToSubscriber × Unit {0}) → Option Delivery = λ e. delivery_of e.1.0 in
        let same = filter_map-append brings c.inbox.received ((0, (Stop, tt)) ∷ []) ∙ append-nil (taken_by c.inbox) in
        record {
          first = is.first;
          own = is.own;
          alone = is.alone;
          of_broker = of_broker_more Stop;
          came = map-append (λ (e : ℕ × (ToSubscriber × Unit {0})). e.1.0) c.inbox.received ((0, (Stop, tt)) ∷ [])
              ∙ ap (λ (l : List ToSubscriber). l ++ Stop ∷ []) came_so_far
              ∙ ap (λ (l : List Delivery). map Carries l ++ Stop ∷ []) (sym same);
          acknowledged = is.acknowledged ∙ ap (map (ack_of c.number)) (sym same);
          keeps = is.keeps ∙ ap (λ (l : List Delivery). kept_of (received_by c.close_after l)) (sym same);
          receives = deliveries_are_received c.close_after (taken_by next.inbox);
          arrives = is.arrives ∙ ap (λ (l : List Delivery). arrivals_by c.close_after l) (sym same);
        }

    received_is : (message : ToSubscriber) → IsSubscriberActor (with_message message c)
    received_is (Carries d) = taken_is d
    received_is Stop = stopped_is

-- after a turn it is one still
pub turned_is : (old new : SubscriberCore) → IsSubscriberActor old → old.finished ≡ false → HasReceived old new
    → IsSubscriberActor new
turned_is old new is goes_on has = rw has.after (received_is old is goes_on has.message)
