-- The actors of a run before their first turns.
use Rattle.std.specs.Prelude.{◌≡◌, ℕ, ◌+◌, Bool, Option, None, List, [], ◌∷◌, length, map}
use Rattle.cdc_broker.specs.Broker.{empty_broker}
use Rattle.cdc_broker_actors.specs.Broker.{BrokerCore}
use Rattle.cdc_broker_actors.specs.Broker.Turns.{first_broker}
use Rattle.cdc_ledger_actors.specs.Client.{first_client, ClientCore}
use Rattle.cdc_connector_actor.specs.Connector.{first_connector, ConnectorCore}
use Rattle.cdc_ledger_actors.specs.Ledger.{first_ledger, LedgerCore}
use Rattle.cdc_broker_actors.specs.Subscriber.{first_subscriber, SubscriberCore}
use Rattle.cdc_broker_actors.specs.declared.broker.plans.BrokerPlan.{BrokerPlan}
use Rattle.cdc_actors.specs.Ends.{ActorState}
use Rattle.cdc_links.specs.Links.{Incoming, LinkId, fresh_endpoint}
use Rattle.cdc_progress.specs.Records.{Saved}
use Rattle.cdc_progress.specs.Stores.{Risks}
use Rattle.cdc_plans.specs.Faults.{IsLeastClose}
use Rattle.cdc_run.specs.Wirings.{Wiring}
use Rattle.cdc_run.specs.declared.configs.Config.{Config}
use Rattle.cdc_run.specs.declared.ends.Ends.{Ends}
use Rattle.cdc_plans.specs.declared.faults.Faults.{Faults}
use Rattle.cdc_traffic.specs.declared.messages.ToBroker.{ToBroker}
use Rattle.cdc_traffic.specs.declared.messages.ToLedger.{ToLedger}
use Rattle.cdc_traffic.specs.declared.messages.ToSubscriber.{ToSubscriber}
use Rattle.cdc_traffic.specs.declared.requests.Reply.{Reply}

-- the receiver's endpoint of a link with so many senders, which has received nothing
abbrev pub fresh_inbox : {M N : Type 0} → LinkId M → ℕ → Incoming M N
fresh_inbox link senders = record { link = link; senders = senders; received = [] }

-- after how many events the subscribers from this number on are to close, each by the least number given for it
abbrev pub AreCloses : ℕ → List (ℕ × ℕ) → List (Option ℕ) → Type 0
AreCloses number given [] = Unit {0}
AreCloses number given (close ∷ closes) = IsLeastClose number given close × AreCloses (number + 1) given closes

-- a ledger that has taken nothing
abbrev pub made_ledger : ℕ → Wiring → ActorState LedgerCore
made_ledger system w = record {
  system = system;
  work = first_ledger (fresh_inbox w.to_ledger (length w.to_clients + 1))
      (map (λ link. fresh_endpoint link 0) w.to_clients)
      (fresh_endpoint w.to_connector 0);
  fault = None;
}

-- clients that have sent nothing, numbered from this number on
abbrev pub made_clients : ℕ → LinkId ToLedger → ℕ → List (LinkId Reply) → List (ActorState ClientCore)
made_clients system requests number [] = []
made_clients system requests number (answers ∷ rest) = record {
  system = system;
  work = first_client number (fresh_endpoint requests number) (fresh_inbox answers 1);
  fault = None;
} ∷ made_clients system requests (number + 1) rest

-- a connector that has sent nothing, over a store that holds this and may refuse for these reasons. Its first session
-- is to start after this timestamp, if there is one
abbrev pub made_connector : ℕ → Wiring → Option Saved → Bool → Risks → Option ℕ → ℕ → List ℕ → ActorState ConnectorCore
made_connector system w held honest risks start window restarts = record {
  system = system;
  work = first_connector (fresh_inbox w.to_connector 2) (fresh_endpoint w.to_ledger 0)
      (fresh_endpoint w.to_broker 0) held honest
      risks start window restarts;
  fault = None;
}

-- what goes wrong at the broker
abbrev pub plan_of : Faults → BrokerPlan
plan_of faults = record {
  lose_confirm = faults.lose_confirm;
  lose_publish = faults.lose_publish;
  repeat = faults.repeat;
}

-- a broker that nothing has come to, with a queue for each binding
abbrev pub made_broker : Config → Faults → Wiring → ActorState BrokerCore
made_broker config faults w = record {
  system = config.system;
  work = first_broker (fresh_inbox w.to_broker (length w.to_subscribers + 1)) (fresh_endpoint w.to_connector 1)
      (map (λ link. fresh_endpoint link 0) w.to_subscribers) (empty_broker config.bindings.items) (plan_of faults)
      config.prefetch;
  fault = None;
}

-- subscribers to which nothing has come, numbered from this number on, which are to close after so many events
abbrev pub made_subscribers : ℕ → LinkId ToBroker → ℕ → List (LinkId ToSubscriber) → List (Option ℕ)
    → List (ActorState SubscriberCore)
made_subscribers system acks number [] closes = []
made_subscribers system acks number (inbox ∷ rest) [] = []
made_subscribers system acks number (inbox ∷ rest) (close ∷ closes) = record {
  system = system;
  work = first_subscriber number (fresh_inbox inbox 1) (fresh_endpoint acks number) close;
  fault = None;
} ∷ made_subscribers system acks (number + 1) rest closes

-- so they are of a system, numbered from 1, each to close after the least number given for it
pub record AreFreshSubscribers (system : ℕ) (acks : LinkId ToBroker) (given : List (ℕ × ℕ))
    (inboxes : List (LinkId ToSubscriber)) (subscribers : List (ActorState SubscriberCore)) : Type 0 where
  pub closes : List (Option ℕ)
  pub count : length closes ≡ length inboxes
  pub closes_are : AreCloses 1 given closes
  pub subscribers_are : subscribers ≡ made_subscribers system acks 1 inboxes closes

-- the actors of a run, over one wiring with a link for each client and each subscriber, and over a store with these
-- risks. None of them has done anything
pub record AreMade {S : Type 0} (config : Config) (faults : Faults) (held : Option Saved) (honest : Bool)
    (risks : Risks) (ends : Ends S) : Type 0 where
  pub wiring : Wiring
  pub clients_count : length wiring.to_clients ≡ config.clients
  pub subscribers_count : length wiring.to_subscribers ≡ length config.bindings.items
  pub closes : List (Option ℕ)
  pub closes_count : length closes ≡ length config.bindings.items
  pub closes_are : AreCloses 1 faults.close.items closes
  pub ledger : ends.ledger ≡ made_ledger config.system wiring
  pub clients : ends.clients.items ≡ made_clients config.system wiring.to_ledger 1 wiring.to_clients
  pub connector : ends.connector
      ≡ made_connector config.system wiring held honest risks config.start config.window faults.restart_after.items
  pub broker : ends.broker ≡ made_broker config faults wiring
  pub subscribers : ends.subscribers.items
      ≡ made_subscribers config.system wiring.to_broker 1 wiring.to_subscribers closes
