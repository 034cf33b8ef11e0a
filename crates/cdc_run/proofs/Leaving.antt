-- What the actors of a run leave, place by place.
use Rattle.cdc_run.proofs.Words.{Actor, ActorState, AllZip, AreLeft, AreMade, Batch, Bool, BrokerCore, BrokerLeaves, ClientCore, ClientLeaves, Config, ConnectorCore, ConnectorLeaves, Ends, Faults, Leaves, LedgerCore, LedgerLeaves, List, Option, Placed, Risks, Saved, ScriptedState, SubscriberCore, SubscriberLeaves, Task, [], ap, ap₂, left_at, made_clients, made_subscribers, map, places_of, refl, subst, sym, tasks_at, with_scripts, ◌++◌, ◌∙◌, ◌∷◌, ◌≡◌}
use Rattle.cdc_run.specs.declared.actors.Actor.TheVariants as actor
use Rattle.cdc_run.specs.declared.tasks.Task.TheVariants as task

module _ (S : Type 0) where
  -- each kind leaves one of its own
  ledger_left : (old : ActorState LedgerCore) (l : Actor S) → Leaves (task.Ledger old) l
      → (new : ActorState LedgerCore) × (l ≡ actor.Ledger new) × LedgerLeaves old new
  ledger_left old (actor.Ledger new) leaves = (new, refl, leaves)
  ledger_left old other leaves = absurd leaves

  client_left : (old : ScriptedState) (l : Actor S) → Leaves (task.Client old) l
      → (new : ActorState ClientCore) × (l ≡ actor.Client new) × ClientLeaves old new
  client_left old (actor.Client new) leaves = (new, refl, leaves)
  client_left old other leaves = absurd leaves

  connector_left : (old : ActorState ConnectorCore) (l : Actor S) → Leaves (task.Connector old) l
      → (new : ActorState ConnectorCore) × (l ≡ actor.Connector new) × ConnectorLeaves old new
  connector_left old (actor.Connector new) leaves = (new, refl, leaves)
  connector_left old other leaves = absurd leaves

  broker_left : (old : ActorState BrokerCore) (l : Actor S) → Leaves (task.Broker old) l
      → (new : ActorState BrokerCore) × (l ≡ actor.Broker new) × BrokerLeaves old new
  broker_left old (actor.Broker new) leaves = (new, refl, leaves)
  broker_left old other leaves = absurd leaves

  subscriber_left : (old : ActorState SubscriberCore) (l : Actor S) → Leaves (task.Subscriber old) l
      → (new : ActorState SubscriberCore) × (l ≡ actor.Subscriber new) × SubscriberLeaves old new
  subscriber_left old (actor.Subscriber new) leaves = (new, refl, leaves)
  subscriber_left old other leaves = absurd leaves

  -- all clients, and the actors after them
  clients_left : (olds : List ScriptedState) (rest : List (Task S)) (lefts : List (Actor S))
      → AllZip Leaves (map task.Client olds ++ rest) lefts
      → (news : List (ActorState ClientCore)) × (others : List (Actor S)) × (lefts ≡ map actor.Client news ++ others)
      × AllZip ClientLeaves olds news × AllZip Leaves rest others
  clients_left [] rest lefts all = ([], lefts, refl, tt, all)
  clients_left (old ∷ olds) rest [] all = absurd all
  clients_left (old ∷ olds) rest (l ∷ lefts) all =
      let one = client_left old l all.0 in
      let more = clients_left olds rest lefts all.1 in (
        one.0 ∷ more.0,
        more.1,
        ap₂ (λ (x : Actor S) (xs : List (Actor S)). x ∷ xs) one.1 more.2,
        (one.2, more.3),
        more.4,
      )

  -- all subscribers
  subscribers_left : (olds : List (ActorState SubscriberCore)) (lefts : List (Actor S))
      → AllZip Leaves (map task.Subscriber olds) lefts
      → (news : List (ActorState SubscriberCore)) × (lefts ≡ map actor.Subscriber news)
      × AllZip SubscriberLeaves olds news
  subscribers_left [] [] all = ([], refl, tt)
  subscribers_left [] (l ∷ lefts) all = absurd all
  subscribers_left (old ∷ olds) [] all = absurd all
  subscribers_left (old ∷ olds) (l ∷ lefts) all =
      let one = subscriber_left old l all.0 in
      let more = subscribers_left olds lefts all.1 in
      (one.0 ∷ more.0, ap₂ (λ (x : Actor S) (xs : List (Actor S)). x ∷ xs) one.1 more.1, (one.2, more.2))

  -- those after the clients
  others_left : (old : Placed) (lefts : List (Actor S))
      → AllZip Leaves (task.Connector old.connector ∷ task.Broker old.broker
      ∷ map task.Subscriber old.subscribers) lefts
      → (connector : ActorState ConnectorCore) × (broker : ActorState BrokerCore)
      × (subscribers : List (ActorState SubscriberCore))
      × (lefts ≡ actor.Connector connector ∷ actor.Broker broker ∷ map actor.Subscriber subscribers)
      × ConnectorLeaves old.connector connector × BrokerLeaves old.broker broker
      × AllZip SubscriberLeaves old.subscribers subscribers
  others_left old [] all = absurd all
  others_left old (l ∷ []) all = absurd all.1
  others_left old (l ∷ m ∷ lefts) all =
      let connector = connector_left old.connector l all.0 in
      let broker = broker_left old.broker m all.1.0 in
      let subscribers = subscribers_left old.subscribers lefts all.1.1 in (
        connector.0,
        broker.0,
        subscribers.0,
        ap₂ (λ (x : Actor S) (xs : List (Actor S)). x ∷ xs) connector.1
            (ap₂ (λ (x : Actor S) (xs : List (Actor S)). x ∷ xs) broker.1 subscribers.1),
        connector.2,
        broker.2,
        subscribers.2,
      )

  -- all of a run
  pub all_left : (old : Placed) (scripts : List (List Batch)) (lefts : List (Actor S))
      → AllZip Leaves (tasks_at old scripts) lefts
      → (new : Placed) × (lefts ≡ left_at new) × AreLeft old scripts new
  all_left old scripts [] all = absurd all
  all_left old scripts (l ∷ lefts) all =
      let ledger = ledger_left old.ledger l all.0 in
      let clients = clients_left (with_scripts old.clients scripts)
      (task.Connector old.connector ∷ task.Broker old.broker ∷ map task.Subscriber old.subscribers) lefts all.1 in
      let others = others_left old clients.1 clients.4 in (
        record {
          ledger = ledger.0;
          clients = clients.0;
          connector = others.0;
          broker = others.1;
          subscribers = others.2;
        },
        ap₂ (λ (x : Actor S) (xs : List (Actor S)). x ∷ xs) ledger.1
            (clients.2 ∙ ap (λ (xs : List (Actor S)). map actor.Client clients.0 ++ xs) others.3),
        record {
          ledger = ledger.2;
          clients = clients.3;
          connector = others.4;
          broker = others.5;
          subscribers = others.6;
        },
      )

  -- if all tasks were worked, what is left is in its places
  pub in_places : (old : Placed) (scripts : List (List Batch)) (tasks : List (Task S)) (lefts : List (Actor S))
      → AllZip Leaves tasks lefts → tasks ≡ tasks_at old scripts → (p : Placed) × (lefts ≡ left_at p)
  in_places old scripts tasks lefts all same =
      let placed = all_left old scripts lefts (subst (λ (l : List (Task S)). AllZip Leaves l lefts) same all) in
      (placed.0, placed.1)

  -- and actors in those places are what is left
  pub are_left : (old : Placed) (scripts : List (List Batch)) (tasks : List (Task S)) (lefts : List (Actor S))
      (new : Placed) → AllZip Leaves tasks lefts → tasks ≡ tasks_at old scripts
      → ((p : Placed) → lefts ≡ left_at p → new ≡ p) → AreLeft old scripts new
  are_left old scripts tasks lefts new all same is =
      let placed = all_left old scripts lefts (subst (λ (l : List (Task S)). AllZip Leaves l lefts) same all) in
      subst (AreLeft old scripts) (sym (is placed.0 placed.1)) placed.2

module _ {S : Type 0} (config : Config) (faults : Faults) (held : Option Saved) (honest : Bool) (risks : Risks)
    (ends : Ends S) (made : AreMade config faults held honest risks ends) (new : Ends S) (scripts : List (List Batch))
    (are : AreLeft (places_of ends) scripts (places_of new)) where
  -- the clients that were made have left, each with its script
  pub made_clients_left : AllZip ClientLeaves
      (with_scripts (made_clients config.system made.wiring.to_ledger 1 made.wiring.to_clients) scripts)
      new.clients.items
  made_clients_left =
      subst (λ (l : List (ActorState ClientCore)). AllZip ClientLeaves (with_scripts l scripts) new.clients.items)
      made.clients
      are.clients

  -- and so have the subscribers
  pub made_subscribers_left : AllZip SubscriberLeaves
      (made_subscribers config.system made.wiring.to_broker 1 made.wiring.to_subscribers made.closes)
      new.subscribers.items
  made_subscribers_left =
      subst (λ (l : List (ActorState SubscriberCore)). AllZip SubscriberLeaves l new.subscribers.items) made.subscribers
      are.subscribers
