-- The actors of a run over its wires.
use Rattle.cdc_run.proofs.Words.{ActorState, All, All-cons, All-nil, AreFreshSubscribers, AreMade, AreOwn, AreWired, Binding, Bool, BrokerCore, BrokerPlan, Config, ConnectorCore, Ends, Faults, Incoming, LedgerCore, LinkId, List, None, Option, Outgoing, Past, Reply, Risks, Saved, ToBroker, ToConnector, ToLedger, ToSubscriber, Wiring, [], ap, empty_broker, first_broker, first_connector, first_ledger, fresh_endpoint, fresh_inbox, length, length-map, made_broker, made_clients, made_connector, made_ledger, map, only_sender, plan_of, refl, subst, sym, ℕ, ◌+◌, ◌∙◌, ◌∷◌, ◌≡◌}
use Rattle.cdc_run.specs.declared.wires.Wires.{Wires}
use Rattle.cdc_run.proofs.ActorsMade.{is_fresh}

-- ---- links of one sender each

-- the senders' endpoints, from the links
senders : {M N : Type 0} (ins : List (Incoming M N))
    → map only_sender ins ≡ map (λ link. fresh_endpoint {M = M} {N = N} link 0) (map (λ i. i.link) ins)
senders [] = refl
senders {M} {N} (i ∷ ins) = ap (λ (l : List (Outgoing M N)). fresh_endpoint i.link 0 ∷ l) (senders ins)

-- each has the number 0 and has sent nothing
unused : {M N : Type 0} (ins : List (Incoming M N))
    → All (λ (o : Outgoing M N). (o.number ≡ 0) × (o.sent ≡ [])) (map only_sender ins)
unused {M} {N} [] = All-nil (λ (o : Outgoing M N). (o.number ≡ 0) × (o.sent ≡ []))
unused {M} {N} (i ∷ ins) =
    All-cons (λ (o : Outgoing M N). (o.number ≡ 0) × (o.sent ≡ [])) (fresh_endpoint i.link 0) (map only_sender ins)
    (refl, refl) (unused ins)

pub all_unused : {M N : Type 0} (outs : List (Outgoing M N)) (ins : List (Incoming M N)) → AreOwn outs ins
    → All (λ o. (o.number ≡ 0) × (o.sent ≡ [])) outs
all_unused {M} {N} outs ins own =
    subst (λ (l : List (Outgoing M N)). All (λ (o : Outgoing M N). (o.number ≡ 0) × (o.sent ≡ [])) l) (sym own.sender)
    (unused ins)

-- and there are as many of them
pub as_many : {M N : Type 0} (outs : List (Outgoing M N)) (ins : List (Incoming M N)) → AreOwn outs ins
    → length outs ≡ length ins
as_many outs ins own = ap (λ l. length l) own.sender ∙ length-map ins only_sender

-- ---- the actors

abbrev wiring_of : Wires → Wiring
wiring_of w = record {
  to_ledger = w.to_ledger.link;
  to_connector = w.to_connector.link;
  to_broker = w.to_broker.link;
  to_clients = map (λ i. i.link) w.answers.items;
  to_subscribers = map (λ i. i.link) w.inboxes.items;
}

abbrev ledger_of : ℕ → Incoming ToLedger (Unit {0}) → List (Outgoing Reply Past) → Outgoing ToConnector (Option Past)
    → ActorState LedgerCore
ledger_of system inbox clients connector =
    record { system = system; work = first_ledger inbox clients connector; fault = None }

ledger_made : (system n m : ℕ) (w : Wires) → AreWired n m w
    → ledger_of system w.to_ledger w.replies.items w.poll_replies ≡ made_ledger system (wiring_of w)
ledger_made system n m w wired =
    let links : List (LinkId Reply) = map (λ i. i.link) w.answers.items in
    let count : n + 1 ≡ length links + 1 =
    ap (λ k. k + 1) (sym (length-map w.answers.items (λ i. i.link) ∙ wired.clients)) in
    let inbox : Incoming ToLedger (Unit {0}) = fresh_inbox w.to_ledger.link (length links + 1) in
    ap (λ i. ledger_of system i w.replies.items w.poll_replies)
    (is_fresh (n + 1) w.to_ledger wired.to_ledger ∙ ap (λ k. fresh_inbox w.to_ledger.link k) count)
    ∙ ap (λ l. ledger_of system inbox l w.poll_replies) (wired.replies.sender ∙ senders w.answers.items)
    ∙ ap (λ o. ledger_of system inbox (map (λ link. fresh_endpoint link 0) links) o) wired.poll_replies

abbrev connector_of : ℕ → Incoming ToConnector (Option Past) → Outgoing ToLedger (Unit {0})
    → Outgoing ToBroker (Unit {0}) → Option Saved → Bool → Risks → Option ℕ → ℕ → List ℕ → ActorState ConnectorCore
connector_of system inbox polls packets held honest risks start window restarts =
    let work : ConnectorCore = first_connector inbox polls packets held honest risks start window restarts in
    record { system = system; work = work; fault = None }

connector_made : (system n m : ℕ) (w : Wires) (held : Option Saved) (honest : Bool) (risks : Risks)
    (start : Option ℕ) (window : ℕ) (restarts : List ℕ) → AreWired n m w
    → connector_of system w.to_connector w.polls w.packets held honest risks start window restarts
    ≡ made_connector system (wiring_of w) held honest risks start window restarts
connector_made system n m w held honest risks start window restarts wired =
    let inbox : Incoming ToConnector (Option Past) = fresh_inbox w.to_connector.link 2 in
    let polls : Outgoing ToLedger (Unit {0}) = fresh_endpoint w.to_ledger.link 0 in
    ap (λ i. connector_of system i w.polls w.packets held honest risks start window restarts)
    (is_fresh 2 w.to_connector wired.to_connector)
    ∙ ap (λ o. connector_of system inbox o w.packets held honest risks start window restarts) wired.polls
    ∙ ap (λ o. connector_of system inbox polls o held honest risks start window restarts) wired.packets

abbrev broker_of : ℕ → Incoming ToBroker (Unit {0}) → Outgoing ToConnector (Option Past)
    → List (Outgoing ToSubscriber (Unit {0})) → List Binding → BrokerPlan → ℕ → ActorState BrokerCore
broker_of system inbox confirms links bindings plan prefetch = record {
  system = system;
  work = first_broker inbox confirms links (empty_broker bindings) plan prefetch;
  fault = None;
}

broker_made : (config : Config) (faults : Faults) (n m : ℕ) (w : Wires) → AreWired n m w
    → broker_of config.system w.to_broker w.confirms w.deliveries.items config.bindings.items (plan_of faults)
    config.prefetch
    ≡ made_broker config faults (wiring_of w)
broker_made config faults n m w wired =
    let links : List (LinkId ToSubscriber) = map (λ i. i.link) w.inboxes.items in
    let bindings = config.bindings.items in
    let plan : BrokerPlan = plan_of faults in
    let count : m + 1 ≡ length links + 1 =
    ap (λ k. k + 1) (sym (length-map w.inboxes.items (λ i. i.link) ∙ wired.subscribers)) in
    let inbox : Incoming ToBroker (Unit {0}) = fresh_inbox w.to_broker.link (length links + 1) in
    ap (λ i. broker_of config.system i w.confirms w.deliveries.items bindings plan config.prefetch)
    (is_fresh (m + 1) w.to_broker wired.to_broker ∙ ap (λ k. fresh_inbox w.to_broker.link k) count)
    ∙ ap (λ o. broker_of config.system inbox o w.deliveries.items bindings plan config.prefetch) wired.confirms
    ∙ ap (λ l. broker_of config.system inbox (fresh_endpoint w.to_connector.link 1) l bindings plan config.prefetch)
    (wired.deliveries.sender ∙ senders w.inboxes.items)

-- all actors of a run
pub are_made : {S : Type 0} (config : Config) (faults : Faults) (held : Option Saved) (honest : Bool) (risks : Risks)
    (ends : Ends S) (w : Wires) → AreWired config.clients (length config.bindings.items) w
    → ends.ledger ≡ ledger_of config.system w.to_ledger w.replies.items w.poll_replies
    → ends.clients.items ≡ made_clients config.system w.to_ledger.link 1 (map (λ i. i.link) w.answers.items)
    → ends.connector ≡ connector_of config.system w.to_connector w.polls w.packets held honest risks config.start
    config.window faults.restart_after.items
    → ends.broker ≡ broker_of config.system w.to_broker w.confirms w.deliveries.items config.bindings.items
    (plan_of faults) config.prefetch
    → AreFreshSubscribers config.system w.to_broker.link faults.close.items (map (λ i. i.link) w.inboxes.items)
    ends.subscribers.items
    → AreMade config faults held honest risks ends
are_made config faults held honest risks ends w wired ledger clients connector broker subscribers =
    let n : ℕ = config.clients in
    let m : ℕ = length config.bindings.items in
    let answers : length (map (λ i. i.link) w.answers.items) ≡ n =
    length-map w.answers.items (λ i. i.link) ∙ wired.clients in
    let inboxes : length (map (λ i. i.link) w.inboxes.items) ≡ m =
    length-map w.inboxes.items (λ i. i.link) ∙ wired.subscribers in
    record {
      wiring = wiring_of w;
      clients_count = answers;
      subscribers_count = inboxes;
      closes = subscribers.closes;
      closes_count = subscribers.count ∙ inboxes;
      closes_are = subscribers.closes_are;
      ledger = ledger ∙ ledger_made config.system n m w wired;
      clients = clients;
      connector =
          connector
          ∙ connector_made config.system n m w held honest risks config.start config.window faults.restart_after.items
          wired;
      broker = broker ∙ broker_made config faults n m w wired;
      subscribers = subscribers.subscribers_are;
    }
