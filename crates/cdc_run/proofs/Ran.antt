-- The result of a run, from how its actors were made and what they have left.
use Rattle.cdc_run.proofs.Words.{ActorState, All, All-cons, AllZip, AreLeft, AreMade, AreSubscribed, Batch, Binding, Bool, BrokerCore, BrokerPlan, BrokerSeat, ClientCore, ClientLeaves, Config, Confirm, ConnectorCore, ConnectorSeat, Ends, Faults, FinishedConnectorsAreDone, HasRun, IsCountOf, IsDone, IsReportOf, IsUnplanned, LinkId, List, MayCount, None, Option, Packet, QueueState, Reply, RestartsAsPlanned, Risks, Saved, Some, SubscriberCore, SubscriberLeaves, SubscriberSeat, ToBroker, ToLedger, ToSubscriber, [], and_parts, ap, ap₂, arith, at_start, broker_seat, confirms_in, connector_seat, empty_queue, false, first_client, first_origin, fresh_endpoint, fresh_inbox, held_start, held_timestamp, is_none, length, made_broker, made_clients, made_subscribers, map, of_sender, order_of, origin_if, packets_in, places_of, plan_of, refl, subst, sym, true, with_scripts, ℕ, ◌+◌, ◌∙◌, ◌∷◌, ◌≡◌}
use Rattle.cdc_run.specs.Ran.{RanFrom}
use Rattle.cdc_run.specs.declared.reports.Report.{Report}
use Rattle.cdc_run.proofs.Leaving.{made_clients_left, made_subscribers_left}

-- new clients haven't finished
clients_talk : (system : ℕ) (requests : LinkId ToLedger) (number : ℕ) (links : List (LinkId Reply))
    → All (λ (c : ActorState ClientCore). c.work.finished ≡ false) (made_clients system requests number links)
clients_talk system requests number [] = λ k d below. absurd (omega arith)
clients_talk system requests number (link ∷ links) =
    All-cons (λ (c : ActorState ClientCore). c.work.finished ≡ false) (record {
      system = system;
      work = first_client number (fresh_endpoint requests number) (fresh_inbox link 1);
      fault = None;
    }) (made_clients system requests (number + 1) links) refl
    (clients_talk system requests (number + 1) links)

-- new clients have submitted their scripts, once they have left
scripts_submitted : (system : ℕ) (requests : LinkId ToLedger) (number : ℕ) (links : List (LinkId Reply))
    (scripts : List (List Batch)) (news : List (ActorState ClientCore)) → length scripts ≡ length links
    → AllZip ClientLeaves (with_scripts (made_clients system requests number links) scripts) news
    → map (map (λ (r : Reply). r.batch)) (map (λ (c : ActorState ClientCore). c.work.replies) news) ≡ scripts
scripts_submitted system requests number [] [] [] many all = refl
scripts_submitted system requests number [] [] (new ∷ news) many all = absurd all
scripts_submitted system requests number [] (script ∷ scripts) news many all = absurd (omega arith)
scripts_submitted system requests number (link ∷ links) [] news many all = absurd (omega arith)
scripts_submitted system requests number (link ∷ links) (script ∷ scripts) [] many all = absurd all
scripts_submitted system requests number (link ∷ links) (script ∷ scripts) (new ∷ news) many all =
    let fewer : length scripts ≡ length links = omega arith in
    ap₂ (λ (x : List Batch) (xs : List (List Batch)). x ∷ xs) all.0.batches
    (scripts_submitted system requests (number + 1) links scripts news fewer all.1)

-- subscribers close when they were to
closes_stay : (system : ℕ) (acks : LinkId ToBroker) (number : ℕ) (links : List (LinkId ToSubscriber))
    (closes : List (Option ℕ)) (news : List (ActorState SubscriberCore)) → length closes ≡ length links
    → AllZip SubscriberLeaves (made_subscribers system acks number links closes) news
    → map (λ (s : ActorState SubscriberCore). s.work.close_after) news ≡ closes
closes_stay system acks number [] [] [] many all = refl
closes_stay system acks number [] [] (new ∷ news) many all = absurd all
closes_stay system acks number [] (close ∷ closes) news many all = absurd (omega arith)
closes_stay system acks number (link ∷ links) [] news many all = absurd (omega arith)
closes_stay system acks number (link ∷ links) (close ∷ closes) [] many all = absurd all
closes_stay system acks number (link ∷ links) (close ∷ closes) (new ∷ news) many all =
    let fewer : length closes ≡ length links = omega arith in
    ap₂ (λ (x : Option ℕ) (xs : List (Option ℕ)). x ∷ xs) (ap (λ (seat : SubscriberSeat). seat.close_after) all.0.seat)
    (closes_stay system acks (number + 1) links closes news fewer all.1)

-- over a store that holds nothing, or a timestamp that is its start, a run begins at its start
begins_at_start : (at : Option ℕ) (held : Option Saved) → held_timestamp held ≡ held_start held
    → record { after = (first_origin at held).after; start = (first_origin at held).start }
    ≡ at_start (first_origin at held).start
begins_at_start at None same = refl
begins_at_start at (Some saved) same = ap (λ (t : ℕ). record { after = t; start = saved.start }) same

-- the bindings of new queues
bindings_of_empty : (bindings : List Binding)
    → map (λ (q : QueueState). q.binding) (map empty_queue bindings) ≡ bindings
bindings_of_empty [] = refl
bindings_of_empty (binding ∷ bindings) = ap (λ (l : List Binding). binding ∷ l) (bindings_of_empty bindings)

-- actors without the type of their store
abbrev without_store : {S : Type 0} → Ends S → Ends (Unit {0})
without_store ends = record {
  ledger = ends.ledger;
  clients = ends.clients;
  connector = ends.connector;
  broker = ends.broker;
  subscribers = ends.subscribers;
}

module _ {S : Type 0} (config : Config) (faults : Faults) (held : Option Saved) (honest : Bool) (risks : Risks)
    (ends : Ends S) (made : AreMade config faults held honest risks ends) where
  -- no client has finished before the first turn
  pub no_client_done : All (λ (c : ActorState ClientCore). c.work.finished ≡ false) ends.clients.items
  no_client_done =
      subst (λ (l : List (ActorState ClientCore)). All (λ (c : ActorState ClientCore). c.work.finished ≡ false) l)
      (sym made.clients)
      (clients_talk config.system made.wiring.to_ledger 1 made.wiring.to_clients)

  module _ (new : Ends S) (scripts : List (List Batch)) (are : AreLeft (places_of ends) scripts (places_of new))
      (report : Report) (reported : IsReportOf new report) where
    -- its connector has the plan of the faults
    plan_kept : new.connector.work.restarts ≡ faults.restart_after.items
    plan_kept =
        ap (λ (seat : ConnectorSeat). seat.restarts)
        (are.connector.seat ∙ ap (λ (e : ActorState ConnectorCore). connector_seat e.work) made.connector)

    honest_kept : new.connector.work.honest ≡ honest
    honest_kept =
        ap (λ (seat : ConnectorSeat). seat.honest)
        (are.connector.seat ∙ ap (λ (e : ActorState ConnectorCore). connector_seat e.work) made.connector)

    -- and has restarted by it
    restarted_so : IsDone new.connector.work
        → RestartsAsPlanned faults.restart_after.items honest
        (confirms_in (of_sender 1 new.connector.work.inbox.received)) (packets_in new.connector.work.packets.sent)
    restarted_so is =
        let confirms : List Confirm = confirms_in (of_sender 1 new.connector.work.inbox.received) in
        let packets : List Packet = packets_in new.connector.work.packets.sent in
        subst (λ plan. RestartsAsPlanned plan honest confirms packets) plan_kept
        (subst (λ b. RestartsAsPlanned new.connector.work.restarts b confirms packets) honest_kept is.restarted)

    unplanned_so : IsDone new.connector.work
        → IsUnplanned faults.restart_after.items (packets_in new.connector.work.packets.sent)
    unplanned_so is =
        subst (λ plan. IsUnplanned plan (packets_in new.connector.work.packets.sent)) plan_kept is.last

    -- so it is of a run that was made so
    pub ran_from : FinishedConnectorsAreDone → RanFrom config faults held honest risks scripts report
    ran_from done = record {
      made = without_store ends;
      are_made = record {
        wiring = made.wiring;
        clients_count = made.clients_count;
        subscribers_count = made.subscribers_count;
        closes = made.closes;
        closes_count = made.closes_count;
        closes_are = made.closes_are;
        ledger = made.ledger;
        clients = made.clients;
        connector = made.connector;
        broker = made.broker;
        subscribers = made.subscribers;
      };
      left = without_store new;
      are_left = are;
      reported = record {
        finished = record {
          ledger = reported.finished.ledger;
          clients_count = reported.finished.clients_count;
          clients = reported.finished.clients;
          connector = reported.finished.connector;
          connector_system = reported.finished.connector_system;
          broker = reported.finished.broker;
          broker_system = reported.finished.broker_system;
          subscribers_count = reported.finished.subscribers_count;
          subscribers = reported.finished.subscribers;
        };
        order = reported.order;
        replies = reported.replies;
        deliveries = reported.deliveries;
        received = reported.received;
        books = reported.books;
        counts = reported.counts;
        honest = reported.honest;
        subscribers = reported.subscribers;
      };
      restarted = restarted_so is_done;
      unplanned = unplanned_so is_done;
    }
      where
        is_done : IsDone new.connector.work
        is_done = done new.connector.work are.connector.kept
            (and_parts (is_none new.connector.fault) new.connector.work.finished are.connector.done).1

    -- so the report is that of these scripts
    pub has_run : length scripts ≡ config.clients → HasRun scripts report
    has_run many = record {
      order = order_of new.ledger.work.inbox.received;
      reported = reported.order;
      books = reported.books;
      scripts_are =
          ap (map (map (λ (r : Reply). r.batch))) reported.replies
          ∙ scripts_submitted config.system made.wiring.to_ledger 1 made.wiring.to_clients scripts new.clients.items
          (many ∙ sym made.clients_count) (made_clients_left config faults held honest risks ends made new scripts are);
    }

    -- what its plan of faults counts is that of some packets
    pub has_counted : MayCount (plan_of faults) config.bindings.items report.counts
    has_counted =
        let seat : broker_seat new.broker.work ≡ broker_seat ends.broker.work = are.broker.seat in
        let first : broker_seat new.broker.work ≡ broker_seat (made_broker config faults made.wiring).work =
        seat ∙ ap (λ (e : ActorState BrokerCore). broker_seat e.work) made.broker in
        let plan : new.broker.work.plan ≡ plan_of faults = ap (λ (s : BrokerSeat). s.plan) first in
        let bindings : (broker_seat new.broker.work).bindings ≡ config.bindings.items =
        ap (λ (s : BrokerSeat). s.bindings) first ∙ bindings_of_empty config.bindings.items in
        let packets : List Packet = packets_in new.connector.work.packets.sent in (
          packets,
          subst (λ (l : List Binding). IsCountOf (plan_of faults) l packets report.counts) bindings
              (subst (λ (p : BrokerPlan).
              IsCountOf p (broker_seat new.broker.work).bindings packets report.counts) plan reported.counts),
        )

    -- and its subscribers have come to what they may rely on
    pub have_subscribed : held_timestamp held ≡ held_start held
        → AreSubscribed report.ledger (first_origin config.start held).start config.bindings.items made.closes
        report.subscribers.items
    have_subscribed same =
        let seated = are.connector.seat ∙ ap (λ (e : ActorState ConnectorCore). connector_seat e.work) made.connector in
        let gives : honest ≡ true = sym (ap (λ (seat : ConnectorSeat). seat.honest) seated) ∙ reported.honest in
        let start : ℕ = (first_origin config.start held).start in
        let seat : (connector_seat new.connector.work).origin ≡ Some (at_start start) =
        ap (λ (seat : ConnectorSeat). seat.origin) seated
        ∙ ap₂ origin_if gives (begins_at_start config.start held same) in
        let bindings : (broker_seat new.broker.work).bindings ≡ config.bindings.items =
        ap (λ (seat : BrokerSeat). seat.bindings)
        (are.broker.seat ∙ ap (λ (e : ActorState BrokerCore). broker_seat e.work) made.broker)
        ∙ bindings_of_empty config.bindings.items in
        let closes : map (λ (s : ActorState SubscriberCore). s.work.close_after) new.subscribers.items ≡ made.closes =
        closes_stay config.system made.wiring.to_broker 1 made.wiring.to_subscribers made.closes new.subscribers.items
        (made.closes_count ∙ sym made.subscribers_count)
        (made_subscribers_left config faults held honest risks ends made new scripts are) in
        subst (λ (l : List Binding). AreSubscribed report.ledger start l made.closes report.subscribers.items) bindings
        (subst (λ (l : List (Option ℕ)).
        AreSubscribed report.ledger start (broker_seat new.broker.work).bindings l report.subscribers.items) closes
        (reported.subscribers start seat))
