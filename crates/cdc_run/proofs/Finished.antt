-- The actors of a run that have all left have finished, and are of one system.
use Rattle.cdc_run.proofs.Words.{ActorState, AllZip, AreClientsOf, AreFinished, AreLeft, AreMade, AreSeated, AreSubscribersOf, Batch, Bool, BrokerCore, ClientCore, ClientLeaves, ClientSeat, Config, ConnectorCore, Consumer, Ends, Faults, LedgerCore, LinkId, List, Option, Outgoing, Past, Reply, Risks, Saved, SubscriberCore, SubscriberLeaves, SubscriberSeat, ToBroker, ToLedger, ToSubscriber, Wiring, [], ap, arith, length, length-map, made_clients, made_subscribers, places_of, refl, subst, suc, sym, with_scripts, ℕ, ◌+◌, ◌∙◌, ◌∷◌, ◌≡◌}
use Rattle.cdc_run.proofs.Leaving.{made_clients_left, made_subscribers_left}
use Rattle.cdc_run.proofs.Seated.{all_seated}

module _ (system : ℕ) where
  -- new clients, once they have left, have finished, and there are as many as there were
  clients_finished : (requests : LinkId ToLedger) (number : ℕ) (links : List (LinkId Reply))
      (scripts : List (List Batch)) (news : List (ActorState ClientCore)) → length scripts ≡ length links
      → AllZip ClientLeaves (with_scripts (made_clients system requests number links) scripts) news
      → AreClientsOf system number news × (length news ≡ length links)
  clients_finished requests number [] [] [] many all = (tt, refl)
  clients_finished requests number [] [] (new ∷ news) many all = absurd all
  clients_finished requests number [] (script ∷ scripts) news many all = absurd (omega arith)
  clients_finished requests number (link ∷ links) [] news many all = absurd (omega arith)
  clients_finished requests number (link ∷ links) (script ∷ scripts) [] many all = absurd all
  clients_finished requests number (link ∷ links) (script ∷ scripts) (new ∷ news) many all =
      let fewer : length scripts ≡ length links = omega arith in
      let one = all.0.left in
      let rest = clients_finished requests (number + 1) links scripts news fewer all.1 in (
        (one.system, ap (λ (seat : ClientSeat). seat.number) one.seat, one.kept, one.done, rest.0),
        ap (λ (n : ℕ). suc n) rest.1,
      )

  -- so have new subscribers
  subscribers_finished : (acks : LinkId ToBroker) (number : ℕ) (links : List (LinkId ToSubscriber))
      (closes : List (Option ℕ)) (news : List (ActorState SubscriberCore)) → length closes ≡ length links
      → AllZip SubscriberLeaves (made_subscribers system acks number links closes) news
      → AreSubscribersOf system number news × (length news ≡ length links)
  subscribers_finished acks number [] [] [] many all = (tt, refl)
  subscribers_finished acks number [] [] (new ∷ news) many all = absurd all
  subscribers_finished acks number [] (close ∷ closes) news many all = absurd (omega arith)
  subscribers_finished acks number (link ∷ links) [] news many all = absurd (omega arith)
  subscribers_finished acks number (link ∷ links) (close ∷ closes) [] many all = absurd all
  subscribers_finished acks number (link ∷ links) (close ∷ closes) (new ∷ news) many all =
      let fewer : length closes ≡ length links = omega arith in
      let one = all.0 in
      let rest = subscribers_finished acks (number + 1) links closes news fewer all.1 in (
        (one.system, ap (λ (seat : SubscriberSeat). seat.number) one.seat, one.kept, one.done, rest.0),
        ap (λ (n : ℕ). suc n) rest.1,
      )

-- all actors of a run
pub all_finished : {S : Type 0} (config : Config) (faults : Faults) (held : Option Saved) (honest : Bool)
    (risks : Risks) (ends new : Ends S) (scripts : List (List Batch)) → AreMade config faults held honest risks ends
    → length scripts ≡ config.clients → AreLeft (places_of ends) scripts (places_of new) → AreFinished new
all_finished config faults held honest risks ends new scripts made many are =
    let w : Wiring = made.wiring in
    let seated : AreSeated (λ system. w) new =
    all_seated config faults held honest risks ends new scripts made are in
    let ledger : new.ledger.system ≡ config.system =
    are.ledger.system ∙ ap (λ (e : ActorState LedgerCore). e.system) made.ledger in
    let connector : new.connector.system ≡ config.system =
    are.connector.system ∙ ap (λ (e : ActorState ConnectorCore). e.system) made.connector in
    let broker : new.broker.system ≡ config.system =
    are.broker.system ∙ ap (λ (e : ActorState BrokerCore). e.system) made.broker in
    let clients = clients_finished config.system w.to_ledger 1 w.to_clients scripts new.clients.items
    (many ∙ sym made.clients_count)
    (made_clients_left config faults held honest risks ends made new scripts are) in
    let subscribers = subscribers_finished config.system w.to_broker 1 w.to_subscribers made.closes
    new.subscribers.items (made.closes_count ∙ sym made.subscribers_count)
    (made_subscribers_left config faults held honest risks ends made new scripts are) in
    let replied : length new.ledger.work.clients ≡ length w.to_clients =
    sym (length-map new.ledger.work.clients (λ (o : Outgoing Reply Past). o.link))
    ∙ ap (λ (l : List (LinkId Reply)). length l) seated.ledger.clients in
    let delivered : length new.broker.work.consumers ≡ length w.to_subscribers =
    sym (length-map new.broker.work.consumers (λ (c : Consumer). c.link.link))
    ∙ ap (λ (l : List (LinkId ToSubscriber)). length l) seated.broker.subscribers in
    record {
      ledger = are.ledger.done;
      clients_count = clients.1 ∙ sym replied;
      clients = subst (λ (n : ℕ). AreClientsOf n 1 new.clients.items) (sym ledger) clients.0;
      connector = are.connector.done;
      connector_system = connector ∙ sym ledger;
      broker = are.broker.done;
      broker_system = broker ∙ sym ledger;
      subscribers_count = subscribers.1 ∙ sym delivered;
      subscribers = subst (λ (n : ℕ). AreSubscribersOf n 1 new.subscribers.items) (sym ledger) subscribers.0;
    }
