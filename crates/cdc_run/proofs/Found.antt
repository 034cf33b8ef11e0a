-- The actors of a list, taken apart by their kinds.
use Rattle.cdc_run.proofs.Words.{Actor, ActorState, BrokerCore, ClientCore, ConnectorCore, LedgerCore, List, None, Option, Placed, Some, SubscriberCore, [], ap, append_assoc, is_some, left_at, map, map-id, refl, sym, true, ◌++◌, ◌∙◌, ◌∷◌, ◌≡◌}
use Rattle.std.proofs.lemmas.List.{append-nil}
use Rattle.cdc_run.specs.declared.actors.Actor.TheVariants as actor

-- what was found of each kind
pub record Found : Type 0 where
  pub ledger : Option (ActorState LedgerCore)
  pub clients : List (ActorState ClientCore)
  pub connector : Option (ActorState ConnectorCore)
  pub broker : Option (ActorState BrokerCore)
  pub subscribers : List (ActorState SubscriberCore)

abbrev pub nothing : Found
nothing = record { ledger = None; clients = []; connector = None; broker = None; subscribers = [] }

-- all of these
abbrev pub all_of : Placed → Found
all_of p = record {
  ledger = Some p.ledger;
  clients = p.clients;
  connector = Some p.connector;
  broker = Some p.broker;
  subscribers = p.subscribers;
}

-- it is what was found, if all was found
pub of_parts : (ledger : Option (ActorState LedgerCore)) (connector : Option (ActorState ConnectorCore))
    (broker : Option (ActorState BrokerCore)) (p : Placed) → ledger ≡ Some p.ledger → connector ≡ Some p.connector
    → broker ≡ Some p.broker → all_of p ≡ record {
      ledger = ledger;
      clients = p.clients;
      connector = connector;
      broker = broker;
      subscribers = p.subscribers;
    }
of_parts ledger connector broker p one two three = cc

module _ {S : Type 0} where
  -- one more actor
  abbrev pub with_end : Found → Actor S → Found
  with_end f (actor.Ledger end) = record f { ledger = Some end }
  with_end f (actor.Client end) = record f { clients = f.clients ++ end ∷ [] }
  with_end f (actor.Connector end) = record f { connector = Some end }
  with_end f (actor.Broker end) = record f { broker = Some end }
  with_end f (actor.Subscriber end) = record f { subscribers = f.subscribers ++ end ∷ [] }

  -- all actors of a list
  abbrev pub found_in : Found → List (Actor S) → Found
  found_in f [] = f
  found_in f (end ∷ ends) = found_in (with_end f end) ends

  pub found_push : (f : Found) (ends : List (Actor S)) (end : Actor S)
      → found_in f (ends ++ end ∷ []) ≡ with_end (found_in f ends) end
  found_push f [] end = refl
  found_push f (first ∷ ends) end = found_push (with_end f first) ends end

  -- one more is found
  pub found_step : (ends : List (Actor S)) (end is : Actor S) (found : Found) → found_in nothing ends ≡ found
      → end ≡ is → found_in nothing (ends ++ end ∷ []) ≡ with_end found is
  found_step ends end is found so_far same =
      found_push nothing ends end ∙ ap (λ (f : Found). with_end f end) so_far ∙ ap (with_end found) same

  -- it is a client
  pub found_client : (ends : List (Actor S)) (end : Actor S) (c : ActorState ClientCore) (found : Found)
      (clients : List (ActorState ClientCore)) → found_in nothing ends ≡ found → end ≡ actor.Client c
      → clients ≡ found.clients ++ c ∷ []
      → found_in nothing (ends ++ end ∷ []) ≡ record found { clients = clients }
  found_client ends end c found clients so_far same more =
      found_step ends end (actor.Client c) found so_far same
      ∙ ap (λ (l : List (ActorState ClientCore)). record found { clients = l }) (sym more)

  -- it is a subscriber
  pub found_subscriber : (ends : List (Actor S)) (end : Actor S) (s : ActorState SubscriberCore) (found : Found)
      (subscribers : List (ActorState SubscriberCore)) → found_in nothing ends ≡ found → end ≡ actor.Subscriber s
      → subscribers ≡ found.subscribers ++ s ∷ []
      → found_in nothing (ends ++ end ∷ []) ≡ record found { subscribers = subscribers }
  found_subscriber ends end s found subscribers so_far same more =
      found_step ends end (actor.Subscriber s) found so_far same
      ∙ ap (λ (l : List (ActorState SubscriberCore)). record found { subscribers = l }) (sym more)

module _ (S : Type 0) where
  -- clients, one after another
  found_clients : (f : Found) (clients : List (ActorState ClientCore)) (rest : List (Actor S))
      → found_in f (map actor.Client clients ++ rest) ≡ found_in (record f { clients = f.clients ++ clients }) rest
  found_clients f [] rest =
      ap (λ (l : List (ActorState ClientCore)). found_in (record f { clients = l }) rest) (sym (append-nil f.clients))
  found_clients f (c ∷ clients) rest =
      found_clients (record f { clients = f.clients ++ c ∷ [] }) clients rest
      ∙ ap (λ (l : List (ActorState ClientCore)). found_in (record f { clients = l }) rest)
      (append_assoc f.clients (c ∷ []) clients)

  -- subscribers, one after another
  found_subscribers : (f : Found) (subscribers : List (ActorState SubscriberCore))
      → found_in {S = S} f (map actor.Subscriber subscribers) ≡ record f { subscribers = f.subscribers ++ subscribers }
  found_subscribers f [] =
      ap (λ (l : List (ActorState SubscriberCore)). record f { subscribers = l }) (sym (append-nil f.subscribers))
  found_subscribers f (s ∷ subscribers) =
      found_subscribers (record f { subscribers = f.subscribers ++ s ∷ [] }) subscribers
      ∙ ap (λ (l : List (ActorState SubscriberCore)). record f { subscribers = l })
      (append_assoc f.subscribers (s ∷ []) subscribers)

  -- all actors of a run
  found_all : (p : Placed) → found_in {S = S} nothing (left_at p) ≡ all_of p
  found_all p =
      found_clients (record nothing { ledger = Some p.ledger }) p.clients
      (actor.Connector p.connector ∷ actor.Broker p.broker ∷ map actor.Subscriber p.subscribers)
      ∙ found_subscribers (record (all_of p) { subscribers = [] }) p.subscribers

  -- are found
  pub all_found : (p : Placed) (ends all : List (Actor S)) (found : Found) → found_in nothing ends ≡ found
      → map (λ end. end) ends ≡ all → all ≡ left_at p → found ≡ all_of p
  all_found p ends all found is same placed =
      sym is ∙ ap (found_in nothing) (sym (map-id ends) ∙ same ∙ placed) ∙ found_all p

-- what was found is there
pub is_there : {A : Type 0} (found : Option A) (one : A) → found ≡ Some one → is_some found ≡ true
is_there found one same = ap is_some same

-- if the same was found, the actors are the same
pub same_placed : (p new : Placed) → all_of new ≡ all_of p → new ≡ p
same_placed p new same =
    let ledger_some : Some new.ledger ≡ Some p.ledger = ap (λ (f : Found). f.ledger) same in
    let connector_some : Some new.connector ≡ Some p.connector = ap (λ (f : Found). f.connector) same in
    let broker_some : Some new.broker ≡ Some p.broker = ap (λ (f : Found). f.broker) same in
    let ledger : new.ledger ≡ p.ledger = cc in
    let clients : new.clients ≡ p.clients = ap (λ (f : Found). f.clients) same in
    let connector : new.connector ≡ p.connector = cc in
    let broker : new.broker ≡ p.broker = cc in
    let subscribers : new.subscribers ≡ p.subscribers = ap (λ (f : Found). f.subscribers) same in
    ap (λ (x : ActorState LedgerCore). record new { ledger = x }) ledger
    ∙ ap (λ (x : List (ActorState ClientCore)). record new { ledger = p.ledger; clients = x }) clients
    ∙ ap (λ (x : ActorState ConnectorCore). record new { ledger = p.ledger; clients = p.clients; connector = x })
    connector
    ∙ ap (λ (x : ActorState BrokerCore). record p { broker = x; subscribers = new.subscribers }) broker
    ∙ ap (λ (x : List (ActorState SubscriberCore)). record p { subscribers = x }) subscribers
