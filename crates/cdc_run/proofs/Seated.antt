-- Once they have worked, the actors of a run are where its wiring has them; and actors that are there are wired to
-- one another.
use Rattle.cdc_run.proofs.Words.{ActorState, All, All-cons, All-head, All-nil, All-tail, AllZip, AreClientsOf, AreJoined, AreLeft, AreMade, ArePollsTo, AreSeated, AreSubscribersOf, AreWiredTo, Batch, Bool, BrokerCore, BrokerSits, ClientCore, ClientLeaves, ClientSits, Config, ConnectorCore, ConnectorSits, Consumer, Ends, Faults, Incoming, IsConnectorActor, IsOnlySender, LedgerCore, LedgerSits, LinkId, List, Middle, Option, Outgoing, Past, Reply, Risks, Saved, Some, SubscriberCore, SubscriberLeaves, SubscriberSits, ToBroker, ToConnector, ToLedger, ToSubscriber, Wiring, [], ap, append_assoc, arith, broker_seat, client_seat, connector_seat, first_consumer, fresh_endpoint, ledger_seat, length, length-map, length_push, links_of, made_clients, made_subscribers, map, map-map, places_of, refl, slice_get, slice_get-behind, slice_get-map, subscriber_seat, subst, suc, sym, with_scripts, works_of, ℕ, ◌++◌, ◌+◌, ◌-◌, ◌∙◌, ◌∷◌, ◌≡◌, ◌≤◌}
use Rattle.std.specs.Option.{option_map}
use Rattle.cdc_run.proofs.Leaving.{made_clients_left, made_subscribers_left}

-- ---- actors that were made, once they have worked

-- an element is at the place of its number, which counts from 1
at_place : {A : Type 0} (before : List A) (x : A) (rest all : List A) (number : ℕ) → before ++ x ∷ rest ≡ all
    → number ≡ length before + 1 → slice_get all (number - 1) ≡ Some x
at_place {A} before x rest all number split count =
    let behind : length before ≤ number - 1 = omega arith in
    let first : number - 1 - length before ≡ 0 = omega arith in
    subst (λ (l : List A). slice_get l (number - 1) ≡ Some x) split
    (slice_get-behind before (x ∷ rest) (number - 1) behind ∙ ap (λ (k : ℕ). slice_get (x ∷ rest) k) first)

-- the number of the next
next_number : {A : Type 0} (before : List A) (x : A) (number : ℕ) → number ≡ length before + 1
    → number + 1 ≡ length (before ++ x ∷ []) + 1
next_number before x number count =
    let long = length_push before x in
    omega arith

-- the links over which new actors send
links_made : (links : List (LinkId Reply)) → links_of (map (λ link. fresh_endpoint link 0) links) ≡ links
links_made [] = refl
links_made (link ∷ links) = ap (λ (l : List (LinkId Reply)). link ∷ l) (links_made links)

consumers_made : (links : List (LinkId ToSubscriber))
    → map (λ c. c.link.link) (map first_consumer (map (λ link. fresh_endpoint link 0) links)) ≡ links
consumers_made [] = refl
consumers_made (link ∷ links) = ap (λ (l : List (LinkId ToSubscriber)). link ∷ l) (consumers_made links)

module _ (system : ℕ) (w : Wiring) where
  -- each client, after those of some links
  clients_seated : (before links : List (LinkId Reply)) (number : ℕ) (scripts : List (List Batch))
      (news : List (ActorState ClientCore)) → before ++ links ≡ w.to_clients → number ≡ length before + 1
      → AllZip ClientLeaves (with_scripts (made_clients system w.to_ledger number links) scripts) news
      → All (λ c. ClientSits w (client_seat c.work)) news
  clients_seated before [] number scripts [] split count all = λ k d below. absurd (omega arith)
  clients_seated before [] number scripts (new ∷ news) split count all = absurd all
  clients_seated before (link ∷ links) number [] [] split count all = λ k d below. absurd (omega arith)
  clients_seated before (link ∷ links) number [] (new ∷ news) split count all = absurd all
  clients_seated before (link ∷ links) number (script ∷ scripts) [] split count all = absurd all
  clients_seated before (link ∷ links) number (script ∷ scripts) (new ∷ news) split count all =
      All-cons (λ c. ClientSits w (client_seat c.work)) new news
      (subst (ClientSits w) (sym all.0.left.seat) (record {
        requests = refl;
        answers = at_place before link links w.to_clients number split count;
      }))
      (clients_seated (before ++ link ∷ []) links (number + 1) scripts news
      (append_assoc before (link ∷ []) links ∙ split) (next_number before link number count) all.1)

  -- each subscriber, after those of some links
  subscribers_seated : (before links : List (LinkId ToSubscriber)) (number : ℕ) (closes : List (Option ℕ))
      (news : List (ActorState SubscriberCore)) → before ++ links ≡ w.to_subscribers → number ≡ length before + 1
      → AllZip SubscriberLeaves (made_subscribers system w.to_broker number links closes) news
      → All (λ s. SubscriberSits w (subscriber_seat s.work)) news
  subscribers_seated before [] number closes [] split count all = λ k d below. absurd (omega arith)
  subscribers_seated before [] number closes (new ∷ news) split count all = absurd all
  subscribers_seated before (link ∷ links) number [] [] split count all = λ k d below. absurd (omega arith)
  subscribers_seated before (link ∷ links) number [] (new ∷ news) split count all = absurd all
  subscribers_seated before (link ∷ links) number (close ∷ closes) [] split count all = absurd all
  subscribers_seated before (link ∷ links) number (close ∷ closes) (new ∷ news) split count all =
      All-cons (λ s. SubscriberSits w (subscriber_seat s.work)) new news
      (subst (SubscriberSits w) (sym all.0.seat) (record {
        acks = refl;
        inbox = at_place before link links w.to_subscribers number split count;
      }))
      (subscribers_seated (before ++ link ∷ []) links (number + 1) closes news
      (append_assoc before (link ∷ []) links ∙ split) (next_number before link number count) all.1)

-- all actors, once they have worked
pub all_seated : {S : Type 0} (config : Config) (faults : Faults) (held : Option Saved) (honest : Bool)
    (risks : Risks) (ends new : Ends S) (scripts : List (List Batch))
    (made : AreMade config faults held honest risks ends)
    → AreLeft (places_of ends) scripts (places_of new) → AreSeated (λ system. made.wiring) new
all_seated config faults held honest risks ends new scripts made are =
    let w : Wiring = made.wiring in
    let ledger = ap (λ (e : ActorState LedgerCore). ledger_seat e.work) made.ledger in
    let connector = ap (λ (e : ActorState ConnectorCore). connector_seat e.work) made.connector in
    let broker = ap (λ (e : ActorState BrokerCore). broker_seat e.work) made.broker in
    record {
      ledger = subst (LedgerSits w) (sym (are.ledger.seat ∙ ledger))
          (record { inbox = refl; clients = links_made w.to_clients; connector = refl });
      clients = clients_seated config.system w [] w.to_clients 1 scripts new.clients.items refl refl
          (made_clients_left config faults held honest risks ends made new scripts are);
      connector = subst (ConnectorSits w) (sym (are.connector.seat ∙ connector))
          (record { inbox = refl; polls = refl; packets = refl });
      broker = subst (BrokerSits w) (sym (are.broker.seat ∙ broker))
          (record { inbox = refl; confirms = refl; subscribers = consumers_made w.to_subscribers });
      subscribers = subscribers_seated config.system w [] w.to_subscribers 1 made.closes new.subscribers.items refl refl
          (made_subscribers_left config faults held honest risks ends made new scripts are);
    }

-- ---- links by place

module _ {M N : Type 0} where
  -- receivers' endpoints, each of the link at its place, from this place on, and each with one sender
  abbrev AreAt : List (LinkId M) → ℕ → List (Incoming M N) → Type 0
  AreAt links place [] = Unit {0}
  AreAt links place (into ∷ ins) =
      (slice_get links place ≡ Some into.link) × (into.senders ≡ 1) × AreAt links (place + 1) ins

  -- the senders' endpoints of these links, by place, are those of the receivers' links
  only_senders : (links : List (LinkId M)) (place : ℕ) (ins : List (Incoming M N)) (outs : List (Outgoing M N))
      → AreAt links place ins → length ins ≡ length outs
      → ((k : ℕ) (out : Outgoing M N) → slice_get outs k ≡ Some out → slice_get links (place + k) ≡ Some out.link)
      → AllZip IsOnlySender ins outs
  only_senders links place [] [] at many there = tt
  only_senders links place [] (out ∷ outs) at many there = absurd (omega arith)
  only_senders links place (into ∷ ins) [] at many there = absurd (omega arith)
  only_senders links place (into ∷ ins) (out ∷ outs) at many there =
      let here : place + 0 ≡ place = omega arith in
      let its : slice_get links place ≡ Some out.link =
      subst (λ (k : ℕ). slice_get links k ≡ Some out.link) here (there 0 out refl) in
      let mine : slice_get links place ≡ Some into.link = at.0 in
      let rest : length ins ≡ length outs = omega arith in (
        record { link = cc; alone = at.1 },
        only_senders links (place + 1) ins outs at.2 rest (λ k next found.
            let same : place + suc k ≡ place + 1 + k = omega arith in
            subst (λ (n : ℕ). slice_get links n ≡ Some next.link) same (there (suc k) next found)),
      )

  -- if the links are exactly those of the senders' endpoints
  joined_at : (links : List (LinkId M)) (ins : List (Incoming M N)) (outs : List (Outgoing M N)) → AreAt links 0 ins
      → map (λ out. out.link) outs ≡ links → length ins ≡ length outs → AllZip IsOnlySender ins outs
  joined_at links ins outs at same many =
      only_senders links 0 ins outs at many (λ k out found.
      let counted : k ≡ 0 + k = omega arith in
      let there : slice_get (map (λ (o : Outgoing M N). o.link) outs) k ≡ Some out.link =
      slice_get-map (λ (o : Outgoing M N). o.link) outs k ∙ ap (option_map (λ (o : Outgoing M N). o.link)) found in
      subst (λ (n : ℕ). slice_get links n ≡ Some out.link) counted
      (subst (λ (l : List (LinkId M)). slice_get l k ≡ Some out.link) same there))

-- ---- ledger and clients

module _ (wiring : ℕ → Wiring) (system : ℕ) where
  abbrev ClientIsSeated : ActorState ClientCore → Type 0
  ClientIsSeated c = ClientSits (wiring c.system) (client_seat c.work)

  -- the clients of one system ask over its link
  clients_ask : (link : LinkId ToLedger) (number : ℕ) (clients : List (ActorState ClientCore))
      → (wiring system).to_ledger ≡ link
      → AreClientsOf system number clients → All ClientIsSeated clients
      → All (λ c. c.work.requests.link ≡ link) clients
  clients_ask link number [] same are seated = All-nil (λ (c : ActorState ClientCore). c.work.requests.link ≡ link)
  clients_ask link number (c ∷ clients) same are seated =
      let sits : ClientSits (wiring c.system) (client_seat c.work) = All-head ClientIsSeated c clients seated in
      All-cons (λ (s : ActorState ClientCore). s.work.requests.link ≡ link) c clients
      (sits.requests ∙ ap (λ (n : ℕ). (wiring n).to_ledger) are.0 ∙ same)
      (clients_ask link (number + 1) clients same are.4 (All-tail ClientIsSeated c clients seated))

  -- and are answered each over the link at its place
  clients_at : (place : ℕ) (clients : List (ActorState ClientCore)) → AreClientsOf system (place + 1) clients
      → All ClientIsSeated clients → AreAt (wiring system).to_clients place (map (λ c. c.answers) (works_of clients))
  clients_at place [] are seated = tt
  clients_at place (c ∷ clients) are seated =
      let sits : ClientSits (wiring c.system) (client_seat c.work) = All-head ClientIsSeated c clients seated in
      let own : slice_get (wiring system).to_clients (c.work.number - 1) ≡ Some c.work.answers.link =
      subst (λ (n : ℕ). slice_get (wiring n).to_clients (c.work.number - 1) ≡ Some c.work.answers.link) are.0
      sits.answers in
      let named : c.work.number ≡ place + 1 = are.1 in
      let here : c.work.number - 1 ≡ place = omega arith in (
        subst (λ (k : ℕ). slice_get (wiring system).to_clients k ≡ Some c.work.answers.link) here own,
        are.2.alone,
        clients_at (place + 1) clients are.4 (All-tail ClientIsSeated c clients seated),
      )

  abbrev SubscriberIsSeated : ActorState SubscriberCore → Type 0
  SubscriberIsSeated s = SubscriberSits (wiring s.system) (subscriber_seat s.work)

  -- the subscribers of one system acknowledge over its link
  subscribers_acknowledge : (link : LinkId ToBroker) (number : ℕ) (subscribers : List (ActorState SubscriberCore))
      → (wiring system).to_broker ≡ link → AreSubscribersOf system number subscribers
      → All SubscriberIsSeated subscribers → All (λ s. s.work.acks.link ≡ link) subscribers
  subscribers_acknowledge link number [] same are seated =
      All-nil (λ (s : ActorState SubscriberCore). s.work.acks.link ≡ link)
  subscribers_acknowledge link number (s ∷ subscribers) same are seated =
      let sits : SubscriberSits (wiring s.system) (subscriber_seat s.work) =
      All-head SubscriberIsSeated s subscribers seated in
      All-cons (λ (t : ActorState SubscriberCore). t.work.acks.link ≡ link) s subscribers
      (sits.acks ∙ ap (λ (n : ℕ). (wiring n).to_broker) are.0 ∙ same)
      (subscribers_acknowledge link (number + 1) subscribers same are.4
      (All-tail SubscriberIsSeated s subscribers seated))

  -- and each receives deliveries over the link at its place
  subscribers_at : (place : ℕ) (subscribers : List (ActorState SubscriberCore)) → AreSubscribersOf system
      (place + 1) subscribers
      → All SubscriberIsSeated subscribers
      → AreAt (wiring system).to_subscribers place (map (λ s. s.inbox) (works_of subscribers))
  subscribers_at place [] are seated = tt
  subscribers_at place (s ∷ subscribers) are seated =
      let sits : SubscriberSits (wiring s.system) (subscriber_seat s.work) =
      All-head SubscriberIsSeated s subscribers seated in
      let own : slice_get (wiring system).to_subscribers (s.work.number - 1) ≡ Some s.work.inbox.link =
      subst (λ (n : ℕ). slice_get (wiring n).to_subscribers (s.work.number - 1) ≡ Some s.work.inbox.link) are.0
      sits.inbox in
      let named : s.work.number ≡ place + 1 = are.1 in
      let here : s.work.number - 1 ≡ place = omega arith in (
        subst (λ (k : ℕ). slice_get (wiring system).to_subscribers k ≡ Some s.work.inbox.link) here own,
        are.2.alone,
        subscribers_at (place + 1) subscribers are.4 (All-tail SubscriberIsSeated s subscribers seated),
      )

-- the endpoints of the connector's links, if it is of the ledger's system
pub record AreBetween {S : Type 0} (ends : Ends S) (m : Middle) : Type 0 where
  pub same : ends.connector.system ≡ ends.ledger.system
  pub connector : IsConnectorActor ends.connector.work
  pub inbox : m.inbox ≡ ends.connector.work.inbox
  pub replies : m.replies ≡ ends.ledger.work.connector
  pub packets : m.packets ≡ ends.connector.work.packets

module _ {S : Type 0} (wiring : ℕ → Wiring) (ends : Ends S) (seated : AreSeated wiring ends) where
  -- the clients are wired to the ledger
  pub wired : AreClientsOf ends.ledger.system 1 ends.clients.items → AreWiredTo ends.ledger ends.clients.items
  wired are =
      let system : ℕ = ends.ledger.system in
      let clients : List (ActorState ClientCore) = ends.clients.items in
      let outs : List (Outgoing Reply Past) = ends.ledger.work.clients in
      record {
        requests = clients_ask wiring system ends.ledger.work.inbox.link 1 clients (sym seated.ledger.inbox) are
            seated.clients;
        answers = λ many.
            joined_at (wiring system).to_clients (map (λ (c : ClientCore). c.answers) (works_of clients)) outs
            (clients_at wiring system 0 clients are seated.clients) seated.ledger.clients
            (length-map (works_of clients) (λ (c : ClientCore). c.answers)
            ∙ length-map clients (λ (s : ActorState ClientCore). s.work) ∙ many);
      }

  -- so is the connector
  pub polls_to : (polls : Outgoing ToLedger (Unit {0})) → ends.connector.system ≡ ends.ledger.system
      → IsConnectorActor ends.connector.work → polls ≡ ends.connector.work.polls → ArePollsTo ends.ledger polls
  polls_to polls same is are = record {
    link =
        ap (λ (o : Outgoing ToLedger (Unit {0})). o.link) are ∙ seated.connector.polls
        ∙ ap (λ (n : ℕ). (wiring n).to_ledger) same ∙ sym seated.ledger.inbox;
    number = ap (λ (o : Outgoing ToLedger (Unit {0})). o.number) are ∙ is.publishing.wired.polls;
  }

  -- and the broker is joined to the connector and to the subscribers
  pub joined : (m : Middle) → AreBetween ends m → ends.broker.system ≡ ends.ledger.system
      → AreSubscribersOf ends.ledger.system 1 ends.subscribers.items
      → AreJoined m ends.broker.work ends.subscribers.items
  joined m are its subscribers_are =
      let system : ℕ = ends.ledger.system in
      let subscribers : List (ActorState SubscriberCore) = ends.subscribers.items in
      let consumers : List Consumer = ends.broker.work.consumers in
      let inbox : m.inbox.link ≡ (wiring system).to_connector =
      ap (λ (i : Incoming ToConnector (Option Past)). i.link) are.inbox ∙ seated.connector.inbox
      ∙ ap (λ (n : ℕ). (wiring n).to_connector) are.same in
      let broker : ends.broker.work.inbox.link ≡ (wiring system).to_broker =
      seated.broker.inbox ∙ ap (λ (n : ℕ). (wiring n).to_broker) its in
      record {
        two =
            ap (λ (i : Incoming ToConnector (Option Past)). i.senders) are.inbox ∙ are.connector.publishing.wired.two;
        replies =
            ap (λ (o : Outgoing ToConnector (Option Past)). o.link) are.replies ∙ seated.ledger.connector ∙ sym inbox;
        confirms = seated.broker.confirms ∙ ap (λ (n : ℕ). (wiring n).to_connector) its ∙ sym inbox;
        packets =
            ap (λ (o : Outgoing ToBroker (Unit {0})). o.link) are.packets ∙ seated.connector.packets
            ∙ ap (λ (n : ℕ). (wiring n).to_broker) are.same ∙ sym broker;
        acks = subscribers_acknowledge wiring system ends.broker.work.inbox.link 1 subscribers (sym broker)
            subscribers_are seated.subscribers;
        inboxes = λ many.
            joined_at (wiring system).to_subscribers (map (λ (s : SubscriberCore). s.inbox) (works_of subscribers))
            (map (λ (x : Consumer). x.link) consumers)
            (subscribers_at wiring system 0 subscribers subscribers_are seated.subscribers)
            (map-map (λ (o : Outgoing ToSubscriber (Unit {0})). o.link) (λ (x : Consumer). x.link) consumers
            ∙ seated.broker.subscribers ∙ ap (λ (n : ℕ). (wiring n).to_subscribers) its)
            (length-map (works_of subscribers) (λ (s : SubscriberCore). s.inbox)
            ∙ length-map subscribers (λ (s : ActorState SubscriberCore). s.work) ∙ many
            ∙ sym (length-map consumers (λ (x : Consumer). x.link)));
      }
