-- What is kept of the actors after a packet came to the broker.
use Rattle.cdc_world.proofs.Words.{ActorParts, ActorsMove, ActorsStand, Arrive, Arrived, Bool, BrokerSide, BrokerState, ComesTo, Confirm, Connect, Err, Item, List, Ok, Option, OutOfMemory, Packet, Publish, Some, SubscribersStand, Subscription, WorldState, [], after_packet, ap, ap₂, broker_of, broker_parts, confirms_of, current_session-push, expected_after, expected_tag-push, false, is_taken, is_taken_at, items_of, map, next, numbered, queue_for, refl, session_after, sym, takes_packet, true, with_arrival, ℕ, ◌++◌, ◌∙◌, ◌∷◌, ◌≡◌}
use Rattle.std.specs.declared.alloc.AllocError.{AllocError}
use Rattle.cdc_world.proofs.ActorMoves.{done, exhausted, tried}
use Rattle.cdc_world.proofs.QueueViews.{delivered_after, items_of-connected, items_of-published, queues_after}

-- whether the broker takes a packet
takes_is : (a : ActorParts) (w : WorldState) (packet : Packet) → ActorsStand a w
    → takes_packet a.broker packet ≡ is_taken w.accepted packet
takes_is a w packet st = ap (λ (b : BrokerSide). is_taken_at b.connection b.expected packet) st.broker

-- the broker's side after a packet that it took
abbrev after_taken : Packet → BrokerSide → BrokerSide
after_taken packet b = record {
  connection = session_after b.connection packet;
  expected = expected_after b.expected packet;
  confirms = b.confirms ++ confirms_of packet;
}

-- what is kept of the actors then
abbrev with_packet_taken : Packet → ActorParts → ActorParts
with_packet_taken packet a = record a {
  broker = after_packet a.broker packet;
  confirms = a.confirms ++ confirms_of packet;
}

-- the broker goes on so
parts_after : (a : ActorParts) (packet : Packet)
    → broker_parts (with_packet_taken packet a) ≡ after_taken packet (broker_parts a)
parts_after a (Connect session) = refl
parts_after a (Publish session tag item) = refl

-- and so does the world
side_after : (w : WorldState) (packet : Packet)
    → broker_of (with_arrival w packet true) ≡ after_taken packet (broker_of w)
side_after w packet =
    ap₂ (λ (n : ℕ) (e : Option ℕ). record {
      connection = n;
      expected = e;
      confirms = w.confirms ++ confirms_of packet;
    }) (current_session-push w.accepted packet) (expected_tag-push w.accepted packet)

-- each queue has the packet's item if the item matches its binding, and has delivered what it had
subscribers_after : (a : ActorParts) (accepted : List Packet) (packet : Packet) (subscriptions : List Subscription)
    → SubscribersStand a.broker.queues a.subscriptions (items_of accepted) subscriptions
    → SubscribersStand (after_packet a.broker packet).queues a.subscriptions (items_of (accepted ++ packet ∷ []))
    subscriptions
subscribers_after a accepted (Connect session) subscriptions st =
    rw (items_of-connected accepted session) st
subscribers_after a accepted (Publish session tag item) subscriptions st = record {
  queues = queues_after item (items_of accepted) a.broker.queues subscriptions st.queues
      ∙ ap (λ (items : List Item). map (queue_for items) subscriptions) (sym
      (items_of-published accepted session tag item));
  subscriptions = st.subscriptions;
  delivered = delivered_after item a.broker.queues subscriptions st.delivered;
}

-- a packet that is there comes
arrives : (w : WorldState) (k : ℕ) (packet : Packet) (taken : Bool) → numbered w.packets k ≡ Some packet
    → is_taken w.accepted packet ≡ taken → next w (Arrive k) ≡ Ok (Arrived taken, with_arrival w packet taken)
arrives w k packet taken there is =
    rw (there, is)

-- the packet of this number, in the world as in what is kept
packet_is : (a : ActorParts) (w : WorldState) (k : ℕ) (found : Option Packet) → ActorsStand a w
    → numbered a.packets k ≡ found → numbered w.packets k ≡ found
packet_is a w k found st there = ap (λ (ps : List Packet). numbered ps k) (sym st.connector.packets) ∙ there

-- one that is taken
arrive_taken : (a : ActorParts) (packet : Packet) (k : ℕ) → numbered a.packets k ≡ Some packet
    → takes_packet a.broker packet ≡ true → ActorsMove a (Arrive k) (Ok (Arrived true)) (with_packet_taken packet a)
arrive_taken a packet k there takes = (
  tt,
  λ w st. done w (with_arrival w packet true) (Arrive k) (Arrived true)
      (record {
        history = st.history;
        connector = st.connector;
        broker = parts_after a packet ∙ ap (after_taken packet) st.broker ∙ sym (side_after w packet);
        subscribers = subscribers_after a w.accepted packet w.subscriptions st.subscribers;
      })
      (arrives w k packet true (packet_is a w k (Some packet) st there) (sym (takes_is a w packet st) ∙ takes)) refl,
)

-- one that is ignored: nothing changes
arrive_ignored : (a : ActorParts) (packet : Packet) (k : ℕ) → numbered a.packets k ≡ Some packet
    → takes_packet a.broker packet ≡ false → ActorsMove a (Arrive k) (Ok (Arrived false)) a
arrive_ignored a packet k there takes = (
  tt,
  λ w st. done w w (Arrive k) (Arrived false) st
      (arrives w k packet false (packet_is a w k (Some packet) st there) (sym (takes_is a w packet st) ∙ takes)) refl,
)

-- one that memory ran out for: nothing changes
pub arrive_refused : (a : ActorParts) (packet : Packet) (k : ℕ) (why : AllocError) (b' : BrokerState)
    (confirms' : List Confirm)
    → numbered a.packets k ≡ Some packet → ComesTo a.broker a.confirms packet (Err why) b' confirms'
    → ActorsMove a (Arrive k) (Err OutOfMemory) (record a { broker = b'; confirms = confirms' })
arrive_refused a packet k why b' confirms' there comes =
    rw (comes.0, comes.1) (exhausted a (Arrive k) refl (λ w st. tried w _ (Arrive k) _
    (arrives w k packet (is_taken w.accepted packet) (packet_is a w k (Some packet) st there) refl)))

-- a packet comes to the broker
pub arrive_done : (a : ActorParts) (packet : Packet) (k : ℕ) (taken : Bool) (b' : BrokerState)
    (confirms' : List Confirm)
    → numbered a.packets k ≡ Some packet → ComesTo a.broker a.confirms packet (Ok taken) b' confirms'
    → ActorsMove a (Arrive k) (Ok (Arrived taken)) (record a { broker = b'; confirms = confirms' })
arrive_done a packet k true b' confirms' there comes =
    rw (comes.1.0, comes.1.1) (arrive_taken a packet k there comes.0)
arrive_done a packet k false b' confirms' there comes =
    rw (comes.1.0, comes.1.1) (arrive_ignored a packet k there comes.0)
