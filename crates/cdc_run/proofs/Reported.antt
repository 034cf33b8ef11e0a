-- What is reported of actors that have finished.
use Rattle.cdc_run.proofs.Words.{ActorState, AllCome, AreFinished, AreLeftBy, AreSubscribed, Bool, BrokerCore, BrokerHasFinishedWith, ConnectorCore, Course, Ends, HasCome, IfSome, IsAtRest, IsAtStart, IsConnectorActor, IsLedgerActor, LedgerCore, LedgerHasFinishedWith, List, Middle, None, Option, Origin, QueueState, Some, SubscriberCore, [], and_parts, ap, arith, at_start, connector_seat, empty_queue, false, has_finished, is_none, length, map, nobody, origin_if, origin_of, queue_of, refl, slice_get, subst, suc, sym, true, true≢false, unwrap_or, works_of, ℕ, ◌+◌, ◌-◌, ◌∙◌, ◌∷◌, ◌≡◌}
use Rattle.cdc_run.proofs.Applied.{kept_emitted}
use Rattle.cdc_run.proofs.Seated.{AreBetween}

-- if it is known where a run over a store began, it began there
began : (honest : Bool) (origin known : Origin) → origin_if honest origin ≡ Some known → origin ≡ known
began true origin known same = cc
began false origin known same = cc

-- if a run began at its start
pub start_known : {S : Type 0} (ends : Ends S) (start : ℕ)
    → (connector_seat ends.connector.work).origin ≡ Some (at_start start)
    → (origin_of ends.connector.work).start ≡ start
start_known ends start known =
    let work = ends.connector.work in
    ap (λ (o : Origin). o.start) (began work.honest (origin_of work) (at_start start) known)

-- a connector that has finished has run a session, so its store is honest
pub finished_honest : (c : ConnectorCore) → IsConnectorActor c → c.finished ≡ true → c.honest ≡ true
finished_honest c is over = go is.course is.publishing.honest is.rest
  where
    go : (course : Option Course) → IfSome course (λ _. c.honest ≡ true) → IsAtRest c course → c.honest ≡ true
    go None honest rest = absurd (true≢false (sym over ∙ rest.working))
    go (Some course) honest rest = honest

-- the connector, with the endpoints of its links, if the run is known to have begun at its start
pub left_by : {S : Type 0} (ends : Ends S) (m : Middle) → AreBetween ends m → IsLedgerActor ends.ledger.work
    → has_finished (λ (c : ConnectorCore). c.finished) ends.connector ≡ true → (start : ℕ)
    → (connector_seat ends.connector.work).origin ≡ Some (at_start start)
    → AreLeftBy ends.ledger.work ends.connector.work m
left_by ends m are core over start seat =
    let work = ends.connector.work in
    let known = began work.honest (origin_of work) (at_start start) seat in
    record {
      core = core;
      connector = are.connector;
      over = (and_parts (is_none ends.connector.fault) work.finished over).1;
      origin = subst IsAtStart (sym known) refl;
      inbox = sym are.inbox;
      replies = sym are.replies;
      packets = sym are.packets;
    }

-- subscribers that have come to what they may rely on, with the queue of each
pub subscribed : (d : LedgerCore) (start : ℕ) (b : BrokerCore) (place : ℕ)
    (subscribers : List (ActorState SubscriberCore))
    (queues : List QueueState) → AllCome d start b place (works_of subscribers) → length subscribers ≡ length queues
    → ((k : ℕ) (q : QueueState) → slice_get queues k ≡ Some q → queue_of b.broker (place + k + 1) ≡ q)
    → AreSubscribed d.ledger start (map (λ q. q.binding) queues) (map (λ s. s.work.close_after) subscribers)
    (map (λ s. s.subscriber) (works_of subscribers))
subscribed d start b place [] [] come many there = tt
subscribed d start b place [] (q ∷ queues) come many there = absurd (omega arith)
subscribed d start b place (s ∷ subscribers) [] come many there = absurd (omega arith)
subscribed d start b place (s ∷ subscribers) (q ∷ queues) come many there =
    let here : place + 0 + 1 ≡ place + 1 = omega arith in
    let its : queue_of b.broker (place + 1) ≡ q =
    subst (λ (n : ℕ). queue_of b.broker n ≡ q) here (there 0 q refl) in
    let rest : length subscribers ≡ length queues = omega arith in (
      record {
        reception = come.0.reception;
        come = subst (λ (x : QueueState). HasCome d.ledger start x.binding s.work.close_after come.0.reception)
            its come.0.come;
        keeps = come.0.keeps ∙ kept_emitted come.0.reception come.0.come.faithful.rising;
      },
      subscribed d start b (place + 1) subscribers queues come.1 rest (λ k next found.
          let same : place + suc k + 1 ≡ place + 1 + k + 1 = omega arith in
          subst (λ (n : ℕ). queue_of b.broker n ≡ next) same (there (suc k) next found)),
    )

-- all of them
pub all_subscribed : (d : LedgerCore) (start : ℕ) (b : BrokerCore) (subscribers : List (ActorState SubscriberCore))
    → AllCome d start b 0 (works_of subscribers) → length subscribers ≡ length b.broker.queues
    → AreSubscribed d.ledger start (map (λ q. q.binding) b.broker.queues) (map (λ s. s.work.close_after) subscribers)
    (map (λ s. s.subscriber) (works_of subscribers))
all_subscribed d start b subscribers come many =
    subscribed d start b 0 subscribers b.broker.queues come many (λ k q found.
    let same : k ≡ 0 + k + 1 - 1 = omega arith in
    ap (λ (o : Option QueueState). unwrap_or o (empty_queue nobody))
    (subst (λ (n : ℕ). slice_get b.broker.queues n ≡ Some q) same found))

-- actors of a run that have finished
pub finished : {S : Type 0} (ends : Ends S) → LedgerHasFinishedWith ends.ledger ends.clients.items
    → has_finished (λ (c : ConnectorCore). c.finished) ends.connector ≡ true → ends.connector.system
    ≡ ends.ledger.system
    → BrokerHasFinishedWith ends.ledger.system ends.broker ends.subscribers.items → AreFinished ends
finished ends books over same streams = record {
  ledger = books.over;
  clients_count = books.count;
  clients = books.clients_are;
  connector = over;
  connector_system = same;
  broker = streams.over;
  broker_system = streams.same;
  subscribers_count = streams.count;
  subscribers = streams.subscribers_are;
}

-- the ledger actor and the clients are among them
pub books_of : {S : Type 0} (ends : Ends S) → AreFinished ends
    → LedgerHasFinishedWith ends.ledger ends.clients.items
books_of ends are = record { over = are.ledger; count = are.clients_count; clients_are = are.clients }

-- and so are the broker actor and the subscribers
pub streams_of : {S : Type 0} (ends : Ends S) → AreFinished ends
    → BrokerHasFinishedWith ends.ledger.system ends.broker ends.subscribers.items
streams_of ends are = record {
  same = are.broker_system;
  over = are.broker;
  count = are.subscribers_count;
  subscribers_are = are.subscribers;
}
