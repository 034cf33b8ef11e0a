-- What the plan of faults counts, once the connector and the broker of a run have finished.
use Rattle.cdc_run.proofs.Words.{ActorState, All, All-head, All-tail, ArePacketsTo, BrokerCore, ConnectorCore, Consumer, HasCounted, IsBrokerActor, IsConnectorActor, IsCountOf, Item, List, Option, Packet, QueueState, Some, ToBroker, [], accepted_of, and_parts, ap, ap₂, arith, broker_seat, dealings, empty_queue, ends_to_broker, false, finish_if, length, list_all, map, nobody, of_sender, of_sender-append, packets_in, queue, queue_of, refl, slice_get, subst, suc, sym, true, unwrap_or, ℕ, ◌++◌, ◌+◌, ◌-◌, ◌==◌, ◌∙◌, ◌∷◌, ◌≡◌}
use Rattle.cdc_traffic.specs.Following.{has_ended}
use Rattle.cdc_traffic.specs.declared.messages.ToBroker.TheVariants as to_broker
use Rattle.cdc_run.specs.declared.counts.Counts.{Counts}

-- of packets and then the last message whoever has received the last message has received all packets
all_came : (came late : List (ToBroker × Unit {0})) (packets : List Packet)
    → map (λ m. m.0) (came ++ late) ≡ map to_broker.Packet packets ++ to_broker.Finish ∷ []
    → has_ended ends_to_broker came ≡ true → packets_in came ≡ packets
all_came [] late packets sent done = let no : false ≡ true = done in cc
all_came ((to_broker.Packet packet, name) ∷ came) late [] sent done =
    let no : to_broker.Packet packet ∷ map (λ m. m.0) (came ++ late) ≡ to_broker.Finish ∷ [] = sent in
    cc
all_came ((to_broker.Packet packet, name) ∷ came) late (next ∷ packets) sent done =
    let both : to_broker.Packet packet ∷ map (λ m. m.0) (came ++ late)
    ≡ to_broker.Packet next ∷ (map to_broker.Packet packets ++ to_broker.Finish ∷ []) = sent in
    let first : packet ≡ next = cc in
    let later : map (λ m. m.0) (came ++ late) ≡ map to_broker.Packet packets ++ to_broker.Finish ∷ [] = cc in
    ap₂ (λ (p : Packet) (ps : List Packet). p ∷ ps) first (all_came came late packets later done)
all_came ((to_broker.Finish, name) ∷ []) late [] sent done = refl
all_came ((to_broker.Finish, name) ∷ (m ∷ came)) late [] sent done =
    let no : to_broker.Finish ∷ (m.0 ∷ map (λ x. x.0) (came ++ late)) ≡ to_broker.Finish ∷ [] = sent in
    cc
all_came ((to_broker.Finish, name) ∷ came) late (next ∷ packets) sent done =
    let no : to_broker.Finish ∷ map (λ m. m.0) (came ++ late)
    ≡ to_broker.Packet next ∷ (map to_broker.Packet packets ++ to_broker.Finish ∷ []) = sent in
    cc
all_came ((to_broker.Ack ack, name) ∷ came) late [] sent done =
    let no : to_broker.Ack ack ∷ map (λ m. m.0) (came ++ late) ≡ to_broker.Finish ∷ [] = sent in
    cc
all_came ((to_broker.Ack ack, name) ∷ came) late (next ∷ packets) sent done =
    let no : to_broker.Ack ack ∷ map (λ m. m.0) (came ++ late)
    ≡ to_broker.Packet next ∷ (map to_broker.Packet packets ++ to_broker.Finish ∷ []) = sent in
    cc

-- if each queue was delivered whole, as many of its positions were delivered as it is long
all_handed : (accepted : List Item) (consumers : List Consumer) (queues : List QueueState)
    → length consumers ≡ length queues
    → ((k : ℕ) (c : Consumer) (q : QueueState) → slice_get consumers k ≡ Some c → slice_get queues k ≡ Some q
    → c.delivered ≡ length q.items)
    → All (λ q. q.items ≡ queue accepted q.binding) queues
    → map (λ c. c.delivered) consumers ≡ map (λ b. length (queue accepted b)) (map (λ q. q.binding) queues)
all_handed accepted [] [] many each hold = refl
all_handed accepted [] (q ∷ queues) many each hold = absurd (omega arith)
all_handed accepted (c ∷ consumers) [] many each hold = absurd (omega arith)
all_handed accepted (c ∷ consumers) (q ∷ queues) many each hold =
    let P : QueueState → Type 0 = λ x. x.items ≡ queue accepted x.binding in
    let fewer : length consumers ≡ length queues = omega arith in
    let first : c.delivered ≡ length (queue accepted q.binding) =
    each 0 c q refl refl ∙ ap (λ (l : List Item). length l) (All-head P q queues hold) in
    ap₂ (λ (n : ℕ) (ns : List ℕ). n ∷ ns) first
    (all_handed accepted consumers queues fewer (λ k d r found there. each (suc k) d r found there)
    (All-tail P q queues hold))

-- so what both have counted is what there is to count
pub is_count : (connector : ActorState ConnectorCore) (broker : ActorState BrokerCore) (counts : Counts)
    → IsConnectorActor connector.work → connector.work.finished ≡ true → IsBrokerActor broker.work
    → broker.work.finished ≡ true → ArePacketsTo broker.work.inbox connector.work.packets.sent
    → HasCounted connector broker counts
    → IsCountOf broker.work.plan (broker_seat broker.work).bindings (packets_in connector.work.packets.sent) counts
is_count connector broker counts its sent_all is dealt_all came counted =
    let c : ConnectorCore = connector.work in
    let b : BrokerCore = broker.work in
    let mine : List (ToBroker × Unit {0}) = of_sender 0 b.inbox.received in
    let late : List (ToBroker × Unit {0}) = of_sender 0 came.left in
    let dispatched = its.publishing.dispatched in
    let over = and_parts b.connector_done (list_all (λ (x : Consumer). x.unacked == 0) b.consumers)
    (sym is.over ∙ dealt_all) in
    let ended : has_ended ends_to_broker mine ≡ true = sym is.core.connector ∙ over.0 in
    let whole : mine ++ late ≡ c.packets.sent = sym (of_sender-append 0 b.inbox.received came.left) ∙ came.packets in
    let sent : map (λ (m : ToBroker × Unit {0}). m.0) (mine ++ late)
    ≡ map to_broker.Packet (packets_in c.packets.sent) ++ to_broker.Finish ∷ [] =
    ap (map (λ (m : ToBroker × Unit {0}). m.0)) whole ∙ dispatched.sent
    ∙ ap (λ f. map to_broker.Packet (packets_in c.packets.sent) ++ finish_if to_broker.Finish f) sent_all in
    let all : packets_in mine ≡ packets_in c.packets.sent = all_came mine late (packets_in c.packets.sent) sent ended in
    let each : (k : ℕ) (x : Consumer) (q : QueueState) → slice_get b.consumers k ≡ Some x
    → slice_get b.broker.queues k ≡ Some q → x.delivered ≡ length q.items = λ k x q found there.
    let same : k ≡ k + 1 - 1 = omega arith in
    let its_queue : queue_of b.broker (k + 1) ≡ q =
    ap (λ (o : Option QueueState). unwrap_or o (empty_queue nobody))
    (subst (λ (n : ℕ). slice_get b.broker.queues n ≡ Some q) same there) in
    (is.core.served k x found).greatest ∙ (is.whole k x found dealt_all).delivered
    ∙ ap (λ (r : QueueState). length r.items) its_queue in
    record {
      sent = counted.sent ∙ dispatched.counted;
      reached = counted.reached ∙ is.core.publishes ∙ ap (λ l. (dealings b.plan l).publishes) all;
      accepted = counted.accepted ∙ is.core.accepted ∙ ap (λ l. length (accepted_of b.plan l)) all;
      delivered =
          counted.delivered
          ∙ all_handed (accepted_of b.plan (packets_in mine)) b.consumers b.broker.queues (sym is.core.queues) each
          is.core.arrived.queues
          ∙ ap (λ l. map (λ x. length (queue (accepted_of b.plan l) x)) (broker_seat b).bindings) all;
    }
