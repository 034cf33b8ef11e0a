-- A turn of the broker actor leaves its links and its broker's bindings as they are.
use Rattle.cdc_broker_actors.proofs.Words.{◌+◌, ◌-◌, ◌∙◌, ◌∷◌, ◌≡◌, Arguments, Bool, BrokerCore, BrokerState, Connect, Consumer, Delivery, HasReceived, HasReceivedNext, HasSameLinks, HasTurned, Item, Lane, LinkId, List, None, Option, Packet, Publish, QueueState, Some, ToBroker, ToSubscriber, [], acked_if, acknowledged, after_packet, all_served, ap, ap₂, broker_seat, coming_if, delivered_some, empty_queue, false, get_or_from_slice_get, is_lost, is_over, item_for, lane_of, length, map, next_delivery, nobody, queue_of, queued, reception, refl, served_if, slice_get, stopped, stopped_if, subst, suc, sym, takes_packet, true, unwrap_or-slice_get, with_counted, with_item, with_lane, with_next, with_one_fewer, with_received, with_served, with_stop, zero, ℕ}
use Rattle.std.proofs.Math.Seq.{map-set_same}
use Rattle.cdc_broker_actors.proofs.BrokerLemmas.Serving.{same_delivered}
use Rattle.cdc_traffic.specs.declared.messages.ToBroker.TheVariants as to_broker

-- the link of a subscriber
abbrev link_in : Consumer → LinkId ToSubscriber
link_in c = c.link.link

abbrev binding_in : QueueState → Arguments
binding_in q = q.binding

pub same_links : (d : BrokerCore) → HasSameLinks d d
same_links d = record { inbox = refl; confirms = refl; consumers = refl; bindings = refl; plan = refl; prefetch = refl }

pub then_same : (a b c : BrokerCore) → HasSameLinks a b → HasSameLinks b c → HasSameLinks a c
then_same a b c first next = record {
  inbox = next.inbox ∙ first.inbox;
  confirms = next.confirms ∙ first.confirms;
  consumers = next.consumers ∙ first.consumers;
  bindings = next.bindings ∙ first.bindings;
  plan = next.plan ∙ first.plan;
  prefetch = next.prefetch ∙ first.prefetch;
}

-- a lane that changes
pub lane_same : (d : BrokerCore) (place : ℕ) (c : Consumer) (lane : Lane) → slice_get d.consumers place ≡ Some c
    → link_in lane.consumer ≡ link_in c → lane.queue.binding ≡ (queue_of d.broker (place + 1)).binding
    → HasSameLinks d (with_lane place lane d)
lane_same d place c lane found linked bound = record {
  inbox = refl;
  confirms = refl;
  consumers = map-set_same link_in d.consumers place lane.consumer c
      (linked ∙ ap link_in (sym (get_or_from_slice_get d.consumers place c c found)));
  bindings = map-set_same binding_in d.broker.queues (place + 1 - 1) lane.queue (empty_queue nobody)
      (bound ∙ ap binding_in (unwrap_or-slice_get d.broker.queues (place + 1 - 1) (empty_queue nobody)));
  plan = refl;
  prefetch = refl;
}

-- a delivery goes over the same link
pub next_linked : (repeats : List (ℕ × ℕ)) (number : ℕ) (found : Option Delivery) (lane : Lane)
    → link_in (with_next repeats number found lane).consumer ≡ link_in lane.consumer
next_linked repeats number None lane = refl
next_linked repeats number (Some d) lane = refl

delivered_linked : (repeats : List (ℕ × ℕ)) (number n : ℕ) (lane : Lane)
    → link_in (delivered_some repeats number n lane).consumer ≡ link_in lane.consumer
delivered_linked repeats number zero lane = refl
delivered_linked repeats number (suc n) lane =
    delivered_linked repeats number n (with_next repeats number (next_delivery lane.queue) lane)
    ∙ next_linked repeats number (next_delivery lane.queue) lane

served_same : (d : BrokerCore) (place : ℕ) (found : Option Consumer) → slice_get d.consumers place ≡ found
    → HasSameLinks d (served_if place found d)
served_same d place None is = same_links d
served_same d place (Some c) is =
    let lane : Lane = lane_of d.broker (place + 1) c in
    lane_same d place c (delivered_some d.plan.repeat.items (place + 1) (d.prefetch - c.unacked) lane) is
    (delivered_linked d.plan.repeat.items (place + 1) (d.prefetch - c.unacked) lane)
    (same_delivered d.plan.repeat.items (place + 1) (d.prefetch - c.unacked) lane).binding

pub all_same : (n : ℕ) (d : BrokerCore) → HasSameLinks d (all_served n d)
all_same zero d = same_links d
all_same (suc n) d =
    then_same d (all_served n d) (with_served n (all_served n d)) (all_same n d)
    (served_same (all_served n d) n (slice_get (all_served n d).consumers n) refl)

-- a queue that grows
queued_bound : (item : Item) (queues : List QueueState)
    → map binding_in (map (queued item) queues) ≡ map binding_in queues
queued_bound item [] = refl
queued_bound item (q ∷ queues) =
    ap₂ (λ (x : Arguments) (xs : List Arguments). x ∷ xs) (same (item_for q.binding item)) (queued_bound item queues)
  where
    same : (found : Option Item) → (with_item found q).binding ≡ q.binding
    same None = refl
    same (Some x) = refl

packet_bound : (b : BrokerState) (packet : Packet)
    → map binding_in (after_packet b packet).queues ≡ map binding_in b.queues
packet_bound b (Connect session) = refl
packet_bound b (Publish session tag item) = queued_bound item b.queues

pub coming_same : (lost takes : Bool) (packet : Packet) (d : BrokerCore)
    → HasSameLinks d (coming_if lost takes packet (with_counted packet d))
coming_same true takes packet d = assumption
coming_same false true packet d = assumption (packet_bound d.broker packet)
coming_same false false packet d = assumption

acked_same : (d : BrokerCore) (place position : ℕ) (found : Option Consumer) → slice_get d.consumers place ≡ found
    → HasSameLinks d (acked_if place position found d)
acked_same d place position None is = same_links d
acked_same d place position (Some c) is =
    lane_same d place c
    (record { queue = acknowledged position (queue_of d.broker (place + 1)); consumer = with_one_fewer c }) is refl refl

pub received_same : (d : BrokerCore) (j : ℕ) (message : ToBroker) (name : Unit {0})
    → HasSameLinks d (reception (j, (message, name)) d)
received_same d j message name = go message
  where
    came : ToBroker → BrokerCore
    came m = record d { inbox = with_received d.inbox (j, (m, name)) }

    received : (m : ToBroker) → HasSameLinks d (record d { inbox = with_received d.inbox (j, (m, name)) })
    received m = assumption

    go : (m : ToBroker) → HasSameLinks d (reception (j, (m, name)) d)
    go (to_broker.Packet packet) =
        let mid : BrokerCore = record d { inbox = with_received d.inbox (j, (to_broker.Packet packet, name)) } in
        then_same d mid (reception (j, (to_broker.Packet packet, name)) d) (received (to_broker.Packet packet))
        (coming_same (is_lost mid.plan mid.publishes packet) (takes_packet mid.broker packet) packet mid)
    go to_broker.Finish = assumption
    go (to_broker.Ack ack) =
        let mid : BrokerCore = record d { inbox = with_received d.inbox (j, (to_broker.Ack ack, name)) } in
        then_same d mid (reception (j, (to_broker.Ack ack, name)) d) (received (to_broker.Ack ack))
        (acked_same mid (ack.subscriber - 1) ack.position (slice_get mid.consumers (ack.subscriber - 1)) refl)

stops_linked : (consumers : List Consumer) → map link_in (map with_stop consumers) ≡ map link_in consumers
stops_linked [] = refl
stops_linked (c ∷ consumers) = ap (λ (ls : List (LinkId ToSubscriber)). link_in c ∷ ls) (stops_linked consumers)

stopped_same : (over : Bool) (d : BrokerCore) → HasSameLinks d (stopped_if over d)
stopped_same true d = assumption (stops_linked d.consumers)
stopped_same false d = same_links d

-- messages that were handled
pub next_same : (old new : BrokerCore) → HasReceivedNext old new → HasSameLinks old new
next_same old new came = rw came.after (received_same old came.entry.0 came.entry.1.0 came.entry.1.1)

pub has_same : (n : ℕ) (old new : BrokerCore) → HasReceived n old new → HasSameLinks old new
has_same zero old new same = subst (HasSameLinks old) (sym same) (same_links old)
has_same (suc n) old new (mid, before, came) =
    then_same old mid new (has_same n old mid before) (next_same mid new came)

-- so a turn does
turned_links : (old new : BrokerCore) → HasTurned old new → HasSameLinks old new
turned_links old new turn =
    let all : BrokerCore = all_served (length old.consumers) turn.received in
    rw turn.after
    (then_same old turn.received (stopped all) (has_same (suc turn.has.more) old turn.received turn.has.received)
    (then_same turn.received all (stopped all) (all_same (length old.consumers) turn.received)
    (stopped_same (is_over all) all)))

-- and its seat stays
pub links_seat : (old new : BrokerCore) → HasSameLinks old new → broker_seat new ≡ broker_seat old
links_seat old new same = λ i. record {
  inbox = same.inbox i;
  confirms = same.confirms i;
  subscribers = same.consumers i;
  bindings = same.bindings i;
  plan = same.plan i;
  prefetch = same.prefetch i;
}

pub turned_same : (old new : BrokerCore) → HasTurned old new → broker_seat new ≡ broker_seat old
turned_same old new has = links_seat old new (turned_links old new has)
