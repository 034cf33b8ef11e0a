-- What is reported of a run once all its actors have finished.
use Rattle.std.specs.Prelude.{◌≡◌, ℕ, Option, Some, List, [], ◌∷◌, length, map, true}
use Rattle.std.specs.List.{AllZip}
use Rattle.cdc_ledger_actors.specs.Ledger.{order_of, is_over}
use Rattle.cdc_actor_work.specs.declared.faults.RunFault.{RunFault}
use Rattle.cdc_broker_actors.specs.declared.subscriber.arrivals.Arrival.{Arrival}
use Rattle.cdc_ledger_actors.specs.Orders.{clients_in}
use Rattle.cdc_laws.specs.Faithful.{kept_from}
use Rattle.cdc_ledger.specs.History.{History}
use Rattle.cdc_match.specs.declared.binding.Binding.{Binding}
use Rattle.cdc_subscriber.specs.Reception.{Reception}
use Rattle.cdc_subscriber.specs.SubscriberState.{SubscriberState}
use Rattle.cdc_traffic.specs.declared.requests.Reply.{Reply}
use Rattle.cdc_types.specs.declared.batches.Batch.{Batch}
use Rattle.cdc_run.specs.Parts.{works_of}
use Rattle.cdc_run.specs.SettledLinks.{IsAccounted, IsRefused}
use Rattle.cdc_run.specs.Books.{AreBooks}
use Rattle.cdc_run.specs.ClientMail.{AreClientsOf}
use Rattle.cdc_run.specs.Counts.{IsCountOf}
use Rattle.cdc_connector_actor.specs.Seats.{at_start, connector_seat}
use Rattle.cdc_broker_actors.specs.Seats.{broker_seat}
use Rattle.cdc_actors.specs.Ends.{has_finished}
use Rattle.cdc_broker_actors.specs.Broker.{BrokerCore}
use Rattle.cdc_actor_work.specs.Packets.{packets_in}
use Rattle.cdc_connector_actor.specs.Connector.{ConnectorCore}
use Rattle.cdc_run.specs.SubscriberMail.{AreSubscribersOf}
use Rattle.cdc_run.specs.Subscribing.{HasCome}
use Rattle.cdc_run.specs.declared.ends.Ends.{Ends}
use Rattle.cdc_run.specs.declared.reports.Report.{Report}

-- the replies to each client, in its order
abbrev pub replies_of : Report → List (List Reply)
replies_of report = map (λ v. v.items) report.replies.items

-- what each subscriber was delivered until it closed
abbrev pub deliveries_of : Report → List (List Arrival)
deliveries_of report = map (λ v. v.items) report.deliveries.items

-- against this ledger a subscriber has come to what it may rely on after this start. What it keeps is given by what
-- it has applied: its book is that of exactly these events
pub record IsSubscribed (h : History) (start : ℕ) (binding : Binding) (close_after : Option ℕ)
    (subscriber : SubscriberState) : Type 0 where
  pub reception : Reception
  pub come : HasCome h start binding close_after reception
  pub keeps : subscriber ≡ kept_from reception

-- so has each subscriber; there is one for each binding
abbrev pub AreSubscribed : History → ℕ → List Binding → List (Option ℕ) → List SubscriberState → Type 0
AreSubscribed h start [] [] [] = Unit {0}
AreSubscribed h start [] [] (subscriber ∷ subscribers) = ⊥
AreSubscribed h start [] (close ∷ closes) subscribers = ⊥
AreSubscribed h start (binding ∷ bindings) [] subscribers = ⊥
AreSubscribed h start (binding ∷ bindings) (close ∷ closes) [] = ⊥
AreSubscribed h start (binding ∷ bindings) (close ∷ closes) (subscriber ∷ subscribers) =
    IsSubscribed h start binding close subscriber × AreSubscribed h start bindings closes subscribers

-- actors of one system, in all of its places, each of which has finished and has met no fault
pub record AreFinished {S : Type 0} (ends : Ends S) : Type 0 where
  pub ledger : has_finished is_over ends.ledger ≡ true
  pub clients_count : length ends.clients.items ≡ length ends.ledger.work.clients
  pub clients : AreClientsOf ends.ledger.system 1 ends.clients.items
  pub connector : has_finished (λ (c : ConnectorCore). c.finished) ends.connector ≡ true
  pub connector_system : ends.connector.system ≡ ends.ledger.system
  pub broker : has_finished (λ (d : BrokerCore). d.finished) ends.broker ≡ true
  pub broker_system : ends.broker.system ≡ ends.ledger.system
  pub subscribers_count : length ends.subscribers.items ≡ length ends.broker.work.consumers
  pub subscribers : AreSubscribersOf ends.ledger.system 1 ends.subscribers.items

-- what actors that have finished come to. All batches, in the order in which the ledger's actor has received them, give
-- the ledger and the replies, and that is the order in the report. What each subscriber was delivered until it closed
-- is what its actor has noted of what it received, and that is what the broker sent to it. The counts are those of all
-- packets that the connector has sent. The connector has run a session, so its store is honest. If the run began at
-- this start, each subscriber has come to what it may rely on after it
pub record IsReportOf {S : Type 0} (ends : Ends S) (report : Report) : Type 0 where
  pub finished : AreFinished ends
  pub order : report.order.items ≡ clients_in (order_of ends.ledger.work.inbox.received)
  pub replies : replies_of report ≡ map (λ c. c.work.replies) ends.clients.items
  pub books : AreBooks (order_of ends.ledger.work.inbox.received) report.ledger (replies_of report)
  pub deliveries : deliveries_of report ≡ map (λ s. s.work.arrivals) ends.subscribers.items
  pub received : AllZip IsAccounted (map (λ s. s.inbox) (works_of ends.subscribers.items))
      (map (λ c. c.link) ends.broker.work.consumers)
  pub counts : IsCountOf ends.broker.work.plan (broker_seat ends.broker.work).bindings
      (packets_in ends.connector.work.packets.sent) report.counts
  pub honest : ends.connector.work.honest ≡ true
  pub subscribers : (start : ℕ) → (connector_seat ends.connector.work).origin ≡ Some (at_start start)
      → AreSubscribed report.ledger start (broker_seat ends.broker.work).bindings
      (map (λ s. s.work.close_after) ends.subscribers.items) report.subscribers.items

-- nothing is reported: the actors aren't of one system that has finished, or there was no memory to put them together
abbrev pub IsUnreported : {S : Type 0} → Ends S → RunFault → Type 0
IsUnreported ends fault = IsRefused (AreFinished ends) fault

-- what a run comes to that submits these scripts, one for each client: the batches in the order in which the report has
-- their clients give the ledger and the replies, and each client has submitted its own script, in its order
pub record HasRun (scripts : List (List Batch)) (report : Report) : Type 0 where
  pub order : List (ℕ × Batch)
  pub reported : report.order.items ≡ clients_in order
  pub books : AreBooks order report.ledger (replies_of report)
  pub scripts_are : map (map (λ r. r.batch)) (replies_of report) ≡ scripts
