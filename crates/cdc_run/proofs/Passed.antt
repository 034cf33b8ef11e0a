-- What the actors of a run have kept to, once all have finished.
use Rattle.cdc_run.proofs.Words.{AreAmong, ArrivedWasReceived, BrokerState, Confirm, Contains, Contains-append_left, Contains-get_or, Delivery, EndsCome, EndsPass, FinishedConnectorsAreDone, HasCome, HasDelivered, History, IsDone, List, Option, Packet, Past, QueueState, SubscribersCome, ToBroker, ToConnector, ToSubscriber, [], ap, arith, as_confirm, as_sent, confirm_in, confirms_in, dealings_of, deliveries_in, empty_queue, filter_map-append, held_start, history_of, length, map, map-append, map-map, nobody, of_sender, of_sender-append, origin_of, packet_in, packets_in, passage_of, past_of_inbox, queue_of, received_by, refl, slice_get_within, stop_if, stop_sent_if, subst, sym, taken_by, unwrap_or-slice_get, ℕ, ◌++◌, ◌+◌, ◌-◌, ◌<◌, ◌∙◌, ◌∷◌, ◌≡◌}
use Rattle.std.proofs.Common.{append_assoc}
use Rattle.cdc_traffic.specs.declared.messages.ToSubscriber.TheVariants.{Delivery as Carries, Stop}
use Rattle.cdc_run.proofs.Replied.{alone_sent}

-- ---- packets and confirms

-- confirms are read off messages as they were sent
confirms_as : (confirms : List Confirm) → confirms_in (map as_confirm confirms) ≡ confirms
confirms_as [] = refl
confirms_as (confirm ∷ confirms) = ap (λ (l : List Confirm). confirm ∷ l) (confirms_as confirms)

-- ---- what was taken

-- deliveries and then the last message, received and sent: whoever has received its last message has taken all
all_taken : (taken out : List Delivery) (rest : List ToSubscriber)
    → map Carries taken ++ Stop ∷ rest ≡ map Carries out ++ Stop ∷ [] → taken ≡ out
all_taken [] [] rest same = refl
all_taken [] (d ∷ out) rest same = let no : Stop ∷ rest ≡ Carries d ∷ (map Carries out ++ Stop ∷ []) = same in cc
all_taken (t ∷ taken) [] rest same = let no : Carries t ∷ (map Carries taken ++ Stop ∷ rest) ≡ Stop ∷ [] = same in cc
all_taken (t ∷ taken) (d ∷ out) rest same =
    let both : Carries t ∷ (map Carries taken ++ Stop ∷ rest) ≡ Carries d ∷ (map Carries out ++ Stop ∷ []) = same in
    let later : map Carries taken ++ Stop ∷ rest ≡ map Carries out ++ Stop ∷ [] = cc in
    let first : t ≡ d = cc in
    ap (λ (x : Delivery). x ∷ taken) first ∙ ap (λ (l : List Delivery). d ∷ l) (all_taken taken out rest later)

-- ---- the actors

-- a queue of the broker is among its queues
queue_there : (b : BrokerState) (place : ℕ) → place < length b.queues → Contains b.queues (queue_of b (place + 1))
queue_there b place below =
    let same : place + 1 - 1 ≡ place = omega arith in
    subst (λ (q : QueueState). Contains b.queues q)
    (sym (unwrap_or-slice_get b.queues (place + 1 - 1) (empty_queue nobody)))
    (Contains-get_or b.queues (place + 1 - 1) (empty_queue nobody) (omega arith))

pub ends_pass : FinishedConnectorsAreDone → ArrivedWasReceived → EndsPass
ends_pass done arrived d c b are =
    let is : IsDone c = done c are.connector are.over in
    let early : List (ToConnector × Option Past) = of_sender 0 c.inbox.received in
    let mine : List (ToBroker × Unit {0}) = of_sender 0 b.inbox.received in
    let late : List (ToBroker × Unit {0}) = of_sender 0 are.left_of_packets in
    let reception : List (ToConnector × Option Past) = of_sender 1 c.inbox.received in
    let unheard : List (ToConnector × Option Past) = of_sender 1 are.left_of_replies in
    let sent : packets_in mine ++ packets_in late ≡ packets_in c.packets.sent =
    sym (filter_map-append (λ (m : ToBroker × Unit {0}). packet_in m.0) mine late)
    ∙ ap (λ (l : List (ToBroker × Unit {0})). packets_in l)
    (sym (of_sender-append 0 b.inbox.received are.left_of_packets) ∙ are.packets) in
    let dispatched : confirms_in reception ++ confirms_in unheard ≡ (dealings_of b).confirms =
    sym (filter_map-append (λ (m : ToConnector × Option Past). confirm_in m.0) reception unheard)
    ∙ ap (λ (l : List (ToConnector × Option Past)). confirms_in l)
    (sym (of_sender-append 1 c.inbox.received are.left_of_replies) ∙ are.confirms ∙ are.broker.core.confirmed)
    ∙ confirms_as (dealings_of b).confirms in
    let packets : AreAmong (dealings_of b).arrived (packets_in c.packets.sent) = λ x there.
    subst (λ (l : List Packet). Contains l x) sent
    (Contains-append_left (packets_in mine) (packets_in late) x
    (arrived b.plan (packets_in mine) x there)) in
    let answers : AreAmong (confirms_in reception) (dealings_of b).confirms = λ x there.
    subst (λ (l : List Confirm). Contains l x) dispatched
    (Contains-append_left (confirms_in reception) (confirms_in unheard) x there) in (
      is.course,
      record {
        lawful = are.lawful;
        front = record {
          rest = of_sender 0 are.left_of_replies;
          whole = sym (of_sender-append 0 c.inbox.received are.left_of_replies) ∙ are.replies;
        };
        goes_on = are.core.booked.named;
        keeps = is.keeps is.honest are.origin;
        arrives = are.broker.core.arrived;
        packets = packets;
        answers = answers;
        runs = refl;
        done = is.done;
      },
    )

pub ends_come : FinishedConnectorsAreDone → EndsPass → SubscribersCome → EndsCome
ends_come done pass law d c b place consumer s are found stopped =
    let start : held_start c.held ≡ (origin_of c).start = (done c are.connector are.over).start in
    let passed = pass d c b are in
    let q : QueueState = queue_of b.broker (place + 1) in
    let out : List Delivery = deliveries_in consumer.link.sent in
    let taken : List Delivery = taken_by s.inbox in
    let served = are.broker.core.served place consumer found in
    let whole = are.broker.whole place consumer found are.finished in
    let left = stopped.account.left in
    let sent : map (λ e. e.1) (s.inbox.received ++ left) ≡ consumer.link.sent =
    alone_sent s.inbox consumer.link left stopped.account.account in
    let messages : List (ToSubscriber × Unit {0}) → List ToSubscriber = map (λ m. m.0) in
    let rest : List ToSubscriber = map (λ e. e.1.0) left in
    let came : map (λ e. e.1.0) s.inbox.received ≡ map Carries taken ++ Stop ∷ [] =
    subst (λ f. map (λ e. e.1.0) s.inbox.received ≡ map Carries taken ++ stop_if f) stopped.finished stopped.is.came in
    let received : messages (map (λ e. e.1) (s.inbox.received ++ left)) ≡ map Carries taken ++ Stop ∷ rest =
    map-map (λ (m : ToSubscriber × Unit {0}). m.0) (λ (e : ℕ × (ToSubscriber × Unit {0})). e.1)
    (s.inbox.received ++ left)
    ∙ map-append (λ (e : ℕ × (ToSubscriber × Unit {0})). e.1.0) s.inbox.received left
    ∙ ap (λ (l : List ToSubscriber). l ++ rest) came
    ∙ append_assoc (map Carries taken) (Stop ∷ []) rest in
    let given : consumer.link.sent ≡ map as_sent out ++ (Stop, tt) ∷ [] =
    subst (λ f. consumer.link.sent ≡ map as_sent out ++ stop_sent_if f) are.finished served.sent in
    let delivered : messages consumer.link.sent ≡ map Carries out ++ Stop ∷ [] =
    ap messages given
    ∙ map-append (λ (m : ToSubscriber × Unit {0}). m.0) (map as_sent out) ((Stop, tt) ∷ [])
    ∙ ap (λ (l : List ToSubscriber). l ++ Stop ∷ []) (map-map (λ (m : ToSubscriber × Unit {0}). m.0) as_sent out) in
    let same : taken ≡ out = all_taken taken out rest (sym received ∙ ap messages sent ∙ delivered) in
    let of_queue : HasDelivered q taken = subst (HasDelivered q) (sym same) served.delivered in
    let within : place < length b.consumers = slice_get_within b.consumers place consumer found in
    let many : length b.broker.queues ≡ length b.consumers = are.broker.core.queues in
    record {
      reception = received_by s.close_after taken;
      come =
          subst (λ (h : History). HasCome h (origin_of c).start q.binding s.close_after
          (received_by s.close_after taken))
          (sym are.core.booked.history)
          (subst (λ (n : ℕ). HasCome (history_of (past_of_inbox d.inbox)) n q.binding s.close_after
          (received_by s.close_after taken)) start
          (law (passage_of d c b passed.0) q taken s.close_after passed.1
          (queue_there b.broker place (omega arith)) of_queue whole.delivered));
      keeps = stopped.is.keeps;
    }
