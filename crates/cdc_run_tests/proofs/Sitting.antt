-- The seats of a system's actors, from where they were made to where they are settled.
use Rattle.std.proofs.Common.{◌≡◌, ◌==◌, ℕ, ◌+◌, ◌-◌, ◌<◌, List, [], ◌∷◌, ◌++◌, refl, sym, ap, ◌∙◌, subst, arith, cond, length, map}
use Rattle.std.specs.Prelude.{All, Bool, true, false, IfOk, if◌then◌else◌, Ok, Option, Result, Some, slice_get}
use Rattle.std.proofs.Math.ListN.{get_or-map}
use Rattle.std.proofs.lemmas.List.{append_assoc, length_push, length-map}
use Rattle.std.proofs.lemmas.List.Elements.{All-cons, All-nil, All-weaker}
use Rattle.std.proofs.lemmas.Result.{IfOk-at_ok}
use Rattle.cdc_broker_actors.specs.Broker.{BrokerCore}
use Rattle.cdc_broker_actors.specs.Broker.Turns.{first_consumer}
use Rattle.cdc_actors.specs.Client.{ClientCore, finished_client}
use Rattle.cdc_actors.specs.Connector.{ConnectorCore}
use Rattle.cdc_actors.specs.Ledger.{LedgerCore, links_of}
use Rattle.cdc_actors.specs.RunFault.{RunFault}
use Rattle.cdc_run.specs.Links.{LinkId, fresh_endpoint, with_sent}
use Rattle.cdc_progress.specs.Records.{Saved}
use Rattle.cdc_progress.specs.Stores.{Risks}
use Rattle.cdc_run.specs.Made.{AreMade, made_clients, made_subscribers}
use Rattle.cdc_actors.specs.Seats.{ClientSeat, LedgerSeat, client_seat, ledger_seat}
use Rattle.cdc_run.specs.Seats.{ConnectorSeat, connector_seat}
use Rattle.cdc_broker_actors.specs.Seats.{BrokerSeat, SubscriberSeat, broker_seat, subscriber_seat}
use Rattle.cdc_actors.specs.Ends.{ActorState}
use Rattle.cdc_run.specs.Wirings.{AreSeated, BrokerSits, ClientSits, ConnectorSits, LedgerSits, SubscriberSits, Wiring}
use Rattle.cdc_run.specs.declared.configs.Config.{Config}
use Rattle.cdc_run.specs.declared.ends.Ends.{Ends}
use Rattle.cdc_run.specs.Faults.{Faults}
use Rattle.cdc_run_tests.specs.Systems.{AreOfSystem, MayBeSettled, RunSeats, seats_of, sits_at}
use Rattle.cdc_traffic.specs.declared.messages.ToLedger.TheVariants.{Done}
use Rattle.cdc_traffic.specs.declared.messages.ToSubscriber.{ToSubscriber}
use Rattle.cdc_traffic.specs.declared.requests.Reply.{Reply}

-- ---- made

-- the next after so many
slice_at : {A : Type 0} (before : List A) (x : A) (rest : List A)
    → slice_get (before ++ x ∷ rest) (length before) ≡ Some x
slice_at [] x rest = refl
slice_at (first ∷ before) x rest = slice_at before x rest

-- it is at the place of its number, which counts from 1
at_place : {A : Type 0} (before : List A) (x : A) (rest all : List A) (number : ℕ) → before ++ x ∷ rest ≡ all
    → number ≡ length before + 1 → slice_get all (number - 1) ≡ Some x
at_place before x rest all number split count =
    let same : length before ≡ number - 1 = omega arith in
    subst (λ l. slice_get l (number - 1) ≡ Some x) split
    (subst (λ (k : ℕ). slice_get (before ++ x ∷ rest) k ≡ Some x) same (slice_at before x rest))

-- the links over which new actors send
links_made : (links : List (LinkId Reply)) → links_of (map (λ link. fresh_endpoint link 0) links) ≡ links
links_made [] = refl
links_made (link ∷ links) = ap (λ (l : List (LinkId Reply)). link ∷ l) (links_made links)

consumers_made : (links : List (LinkId ToSubscriber))
    → map (λ c. c.link.link) (map first_consumer (map (λ link. fresh_endpoint link 0) links)) ≡ links
consumers_made [] = refl
consumers_made (link ∷ links) = ap (λ (l : List (LinkId ToSubscriber)). link ∷ l) (consumers_made links)

module _ (system : ℕ) (w : Wiring) where
  -- a client's, and a subscriber's
  abbrev IsClient : ℕ × ClientSeat → Type 0
  IsClient c = (c.0 ≡ system) × ClientSits w c.1

  abbrev IsSubscriber : ℕ × SubscriberSeat → Type 0
  IsSubscriber s = (s.0 ≡ system) × SubscriberSits w s.1

  -- each client, after those of some links
  clients_made : (before links : List (LinkId Reply)) (number : ℕ) → before ++ links ≡ w.to_clients
      → number ≡ length before + 1
      → All IsClient (map (sits_at client_seat) (made_clients system w.to_ledger number links))
  clients_made before [] number split count = All-nil IsClient
  clients_made before (link ∷ links) number split count =
      let long = length_push before link in
      let next : number + 1 ≡ length (before ++ link ∷ []) + 1 = omega arith in
      All-cons IsClient
      (system, record { number = number; requests = w.to_ledger; answers = link })
      (map (sits_at client_seat) (made_clients system w.to_ledger (number + 1) links))
      (refl, record { requests = refl; answers = at_place before link links w.to_clients number split count })
      (clients_made (before ++ link ∷ []) links (number + 1) (append_assoc before (link ∷ []) links ∙ split) next)

  -- each subscriber, after those of some links
  subscribers_made : (before links : List (LinkId ToSubscriber)) (number : ℕ) (closes : List (Option ℕ))
      → before ++ links ≡ w.to_subscribers → number ≡ length before + 1
      → All IsSubscriber (map (sits_at subscriber_seat) (made_subscribers system w.to_broker number links closes))
  subscribers_made before [] number closes split count = All-nil IsSubscriber
  subscribers_made before (link ∷ links) number [] split count = All-nil IsSubscriber
  subscribers_made before (link ∷ links) number (close ∷ closes) split count =
      let long = length_push before link in
      let next : number + 1 ≡ length (before ++ link ∷ []) + 1 = omega arith in
      All-cons IsSubscriber
      (system, record { number = number; inbox = link; acks = w.to_broker; close_after = close })
      (map (sits_at subscriber_seat) (made_subscribers system w.to_broker (number + 1) links closes))
      (refl, record { acks = refl; inbox = at_place before link links w.to_subscribers number split count })
      (subscribers_made (before ++ link ∷ []) links (number + 1) closes
      (append_assoc before (link ∷ []) links ∙ split) next)

-- all actors, as they were made
pub system_made : {S : Type 0} (config : Config) (faults : Faults) (held : Option Saved) (honest : Bool) (risks : Risks)
    (ends : Ends S) → AreMade config faults held honest risks ends → AreOfSystem config.system (seats_of ends)
system_made config faults held honest risks ends made =
    let w : Wiring = made.wiring in
    let system : ℕ = config.system in
    record {
      wiring = w;
      ledger = subst (LedgerSits w) (sym (ap (λ (e : ActorState LedgerCore). ledger_seat e.work) made.ledger))
          (record { inbox = refl; clients = links_made w.to_clients; connector = refl });
      ledger_system = ap (λ e. e.system) made.ledger;
      clients = subst (λ l. All (IsClient system w) (map (sits_at client_seat) l)) (sym made.clients)
          (clients_made system w [] w.to_clients 1 refl refl);
      connector = subst (ConnectorSits w) (sym (ap
          (λ (e : ActorState ConnectorCore). connector_seat e.work) made.connector))
          (record { inbox = refl; polls = refl; packets = refl });
      connector_system = ap (λ e. e.system) made.connector;
      broker = subst (BrokerSits w) (sym (ap (λ (e : ActorState BrokerCore). broker_seat e.work) made.broker))
          (record { inbox = refl; confirms = refl; subscribers = consumers_made w.to_subscribers });
      broker_system = ap (λ e. e.system) made.broker;
      subscribers = subst (λ l. All (IsSubscriber system w) (map (sits_at subscriber_seat) l)) (sym made.subscribers)
          (subscribers_made system w [] w.to_subscribers 1 made.closes refl refl);
    }

-- the actors that a call has made
pub wired_up : {S : Type 0} (config : Config) (faults : Faults) (held : Option Saved) (honest : Bool) (risks : Risks)
    (system : ℕ) (wired : Result (Ends S) RunFault) (ends : Ends S)
    → IfOk wired (AreMade config faults held honest risks) → wired ≡ Ok ends → config.system ≡ system
    → AreOfSystem system (seats_of ends)
wired_up config faults held honest risks system wired ends made is named =
    subst (λ (n : ℕ). AreOfSystem n (seats_of ends)) named
    (system_made config faults held honest risks ends (IfOk-at_ok (AreMade config faults held honest risks) is made))

-- ---- turns

-- all actors, by their seats
abbrev all_seats : ℕ × LedgerSeat → List (ℕ × ClientSeat) → ℕ × ConnectorSeat → ℕ × BrokerSeat
    → List (ℕ × SubscriberSeat)
    → RunSeats
all_seats ledger clients connector broker subscribers = record {
  ledger = ledger;
  clients = clients;
  connector = connector;
  broker = broker;
  subscribers = subscribers;
}

-- a client that reports that it is done keeps its seat
pub finished_sits : (system : ℕ) (c : ClientCore)
    → ◌≡◌ {A = ℕ × ClientSeat} (system, client_seat (finished_client c)) (system, client_seat c)
finished_sits system c = go c.finished
  where
    done : ClientCore
    done = record c { requests = with_sent c.requests (Done c.number, tt); finished = true }

    go : (b : Bool)
        → ◌≡◌ {A = ℕ × ClientSeat} (system, client_seat (if b then c else done)) (system, client_seat c)
    go true = refl
    go false = refl

-- if each keeps its seat, all do
pub same_seats : {l l' : ℕ × LedgerSeat} {c c' : List (ℕ × ClientSeat)} {k k' : ℕ × ConnectorSeat}
    {b b' : ℕ × BrokerSeat} {s s' : List (ℕ × SubscriberSeat)} → l ≡ l' → c ≡ c' → k ≡ k' → b ≡ b' → s ≡ s'
    → all_seats l c k b s ≡ all_seats l' c' k' b' s'
same_seats {l} {l'} {c} {c'} {k} {k'} {b} {b'} {s} {s'} ledger clients connector broker subscribers =
    ap (λ (x : ℕ × LedgerSeat). all_seats x c k b s) ledger
    ∙ ap (λ (x : List (ℕ × ClientSeat)). all_seats l' x k b s) clients
    ∙ ap (λ (x : ℕ × ConnectorSeat). all_seats l' c' x b s) connector
    ∙ ap (λ (x : ℕ × BrokerSeat). all_seats l' c' k' x s) broker
    ∙ ap (λ (x : List (ℕ × SubscriberSeat)). all_seats l' c' k' b' x) subscribers

-- ---- to be settled

-- what is so of what is read of each is so of each
read_back : {A B : Type 0} (P : B → Type 0) (read : A → B) (xs : List A) → All P (map read xs)
    → All (λ x. P (read x)) xs
read_back P read xs all = λ k d below.
    let within : k < length (map read xs) = omega (arith, length-map xs read) in
    subst P (get_or-map read xs k d) (all k (read d) within)

-- the actors of a system, with a broker actor in the place of its own
pub seated : {S : Type 0} (wiring : ℕ → Wiring) (system : ℕ) (ends : Ends S) (broker : ActorState BrokerCore)
    (are : AreOfSystem system (seats_of ends)) → wiring system ≡ are.wiring
    → BrokerSits (wiring broker.system) (broker_seat broker.work) → AreSeated wiring (record ends { broker = broker })
seated wiring system ends broker are same sits =
    let w : Wiring = are.wiring in
    record {
      ledger = subst (λ n. LedgerSits (wiring n) (ledger_seat ends.ledger.work)) (sym are.ledger_system)
          (subst (λ (v : Wiring). LedgerSits v (ledger_seat ends.ledger.work)) (sym same) are.ledger);
      clients = All-weaker (λ c. IsClient system w (sits_at client_seat c))
          (λ c. ClientSits (wiring c.system) (client_seat c.work))
          (λ c h. subst (λ n. ClientSits (wiring n) (client_seat c.work)) (sym h.0)
          (subst (λ (v : Wiring). ClientSits v (client_seat c.work)) (sym same) h.1))
          ends.clients.items (read_back (IsClient system w) (sits_at client_seat) ends.clients.items are.clients);
      connector = subst (λ n. ConnectorSits (wiring n) (connector_seat ends.connector.work)) (sym are.connector_system)
          (subst (λ (v : Wiring). ConnectorSits v (connector_seat ends.connector.work)) (sym same) are.connector);
      broker = sits;
      subscribers = All-weaker (λ s. IsSubscriber system w (sits_at subscriber_seat s))
          (λ s. SubscriberSits (wiring s.system) (subscriber_seat s.work))
          (λ s h. subst (λ n. SubscriberSits (wiring n) (subscriber_seat s.work)) (sym h.0)
          (subst (λ (v : Wiring). SubscriberSits v (subscriber_seat s.work)) (sym same) h.1))
          ends.subscribers.items
          (read_back (IsSubscriber system w) (sits_at subscriber_seat) ends.subscribers.items are.subscribers);
    }

-- the actors of one system
pub system_seated : {S : Type 0} (system : ℕ) (ends : Ends S) → AreOfSystem system (seats_of ends) → MayBeSettled ends
system_seated system ends are =
    ((λ n. are.wiring), seated (λ n. are.wiring) system ends ends.broker are refl are.broker)

-- ---- the broker actors of two systems, exchanged

module _ {S : Type 0} (first second : Ends S) (one : AreOfSystem 1 (seats_of first))
    (two : AreOfSystem 2 (seats_of second)) where
  -- system 1 has the wiring of the first actors, any other that of the second
  abbrev wiring_by : ℕ → Wiring
  wiring_by n = cond (n == 1) one.wiring two.wiring

  -- the first system, with the broker actor of the second
  pub first_seated : MayBeSettled (record first { broker = second.broker })
  first_seated = (
    wiring_by,
    seated wiring_by 1 first second.broker one refl
        (subst (λ n. BrokerSits (wiring_by n) (broker_seat second.broker.work)) (sym two.broker_system) two.broker),
  )

  -- and the other way round
  pub second_seated : MayBeSettled (record second { broker = first.broker })
  second_seated = (
    wiring_by,
    seated wiring_by 2 second first.broker two refl
        (subst (λ n. BrokerSits (wiring_by n) (broker_seat first.broker.work)) (sym one.broker_system) one.broker),
  )
