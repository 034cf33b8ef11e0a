-- What the actors of a run came to, by their places.
use Rattle.cdc_run.proofs.Words.{Actor, ActorState, AllByRecursion, AllZip, AreMade, Batch, Bool, BrokerCore, CameTo, ClientCore, ClientSeat, ComesTo, Config, ConnectorCore, ConnectorSeat, Ends, Err, Failure, Fault, Faults, IfSome, IsConnectorFault, IsMetByConnector, IsRefused, IsRunFailure, IsTurnFault, Leaves, LedgerCore, LinkId, List, MayMeet, MayStop, Meets, Met, None, Ok, Option, Place, Reply, Result, Risks, RunFault, Saved, Some, StopState, Stops, SubscriberCore, SubscriberSeat, Task, ToBroker, ToLedger, ToSubscriber, Unstarted, [], ap, arith, clients_from, connector_seat, false, first_of, first_stop, if◌then◌else◌, inl, inr, is_gone, length, made_clients, made_subscribers, map, places_in, places_of, refl, subscribers_from, subst, sym, tasks_at, true, with_scripts, ℕ, ◌++◌, ◌+◌, ◌∙◌, ◌∷◌, ◌≡◌}
use Rattle.cdc_actor_work.specs.declared.faults.RunFault.TheVariants.{PeerGone, OutOfMemory, Store, SessionsExhausted, NotOneSystem, StartNotAllowed}
use Rattle.cdc_actor_work.specs.declared.places.Place.TheVariants as place
use Rattle.cdc_progress.specs.StoreError.TheVariants as store
use Rattle.cdc_run.specs.Worked.{HaveStopped}
use Rattle.cdc_run.specs.declared.actors.Actor.TheVariants as actor
use Rattle.cdc_run.specs.declared.failures.Failure.TheVariants as failure
use Rattle.cdc_run.specs.declared.tasks.Task.TheVariants as task

-- the connector meets such faults alone
fault_kind : (c : ConnectorCore) (fault : RunFault) → IsMetByConnector c fault → IsConnectorFault c.honest c.risks fault
fault_kind c PeerGone is = tt
fault_kind c OutOfMemory is = tt
fault_kind c (Store store.ReadFault) is = is
fault_kind c (Store store.WriteFault) is = is
fault_kind c (Store store.BadRecord) is = is
fault_kind c (Store store.OutOfMemory) is = absurd is
fault_kind c SessionsExhausted is = tt
fault_kind c NotOneSystem is = absurd is
fault_kind c StartNotAllowed is = tt

-- over the store that it began with
connector_kind : (old left : ConnectorCore) → connector_seat left ≡ connector_seat old → (fault : RunFault)
    → IsMetByConnector left fault → IsConnectorFault old.honest old.risks fault
connector_kind old left seat fault is =
    let honest : left.honest ≡ old.honest = ap (λ (s : ConnectorSeat). s.honest) seat in
    let risks : left.risks ≡ old.risks = ap (λ (s : ConnectorSeat). s.risks) seat in
    subst (λ (r : Risks). IsConnectorFault old.honest r fault) risks
    (subst (λ (b : Bool). IsConnectorFault b left.risks fault) honest (fault_kind left fault is))

-- ---- the stop that counts

-- of two, the chosen one is of a kind of which both are
chosen_kind : {A : Type 0} (K : A → Type 0) (b : Bool) (x y : Option A) → IfSome x K → IfSome y K
    → IfSome (if b then x else y) K
chosen_kind K true x y one other = one
chosen_kind K false x y one other = other

first_kind : (K : Place × Met → Type 0) (one later : Option (Place × Met)) → IfSome one K → IfSome later K
    → IfSome (first_of one later) K
first_kind K None later is others = others
first_kind K (Some one) None is others = chosen_kind K (is_gone one.1) (Some one) (Some one) is is
first_kind K (Some one) (Some later) is others =
    chosen_kind K (is_gone one.1) (if is_gone later.1 then Some one else Some later) (Some one)
    (chosen_kind K (is_gone later.1) (Some one) (Some later) is others) is

module _ (honest : Bool) (risks : Risks) where
  -- a place at which an actor may stop so
  abbrev MayStopThere : Place × Met → Type 0
  MayStopThere stop = MayStop honest risks stop.0 stop.1

  -- whatever an actor met is of a kind that one of its place may meet
  may_stop : {W : Type 0} (K : W → RunFault → Type 0) (left : ActorState W) (at : Place)
      → ((fault : RunFault) → K left.work fault → MayMeet honest risks at fault) → (met : Met) → Meets K left met
      → MayStop honest risks at met
  may_stop K left at may (Fault fault) met = may fault met.1
  may_stop K left at may Unstarted met = tt

module _ (S : Type 0) (system : ℕ) (honest : Bool) (risks : Risks) where
  -- the stop that counts is one that may be
  counted_kind : (places : List Place) (outcomes : List (Result (Actor S) StopState))
      → AllZip (CameTo system honest risks) places outcomes
      → IfSome (first_stop outcomes) (MayStopThere honest risks)
  counted_kind [] [] all = tt
  counted_kind [] (outcome ∷ outcomes) all = absurd all
  counted_kind (at ∷ places) [] all = absurd all
  counted_kind (at ∷ places) (Ok one ∷ outcomes) all = counted_kind places outcomes all.1
  counted_kind (at ∷ places) (Err stop ∷ outcomes) all =
      first_kind (MayStopThere honest risks) (Some (stop.place, stop.met)) (first_stop outcomes)
      (subst (λ (p : Place). MayStop honest risks p stop.met) (sym all.0.0) all.0.2)
      (counted_kind places outcomes all.1)

  -- ---- place by place

  -- an actor's place before it works
  abbrev stands_at : Task S → Place
  stands_at (task.Ledger end) = place.Ledger
  stands_at (task.Client client) = place.Client client.end.work.number
  stands_at (task.Connector end) = place.Connector
  stands_at (task.Broker end) = place.Broker
  stands_at (task.Subscriber end) = place.Subscriber end.work.number

  -- it is of this system, and a connector works over such a store
  abbrev IsOver : Task S → Type 0
  IsOver (task.Ledger end) = end.system ≡ system
  IsOver (task.Client client) = client.end.system ≡ system
  IsOver (task.Connector end) = (end.system ≡ system) × (end.work.honest ≡ honest) × (end.work.risks ≡ risks)
  IsOver (task.Broker end) = end.system ≡ system
  IsOver (task.Subscriber end) = end.system ≡ system

  -- one actor came to what it may come to
  one_came : (t : Task S) (outcome : Result (Actor S) StopState) → IsOver t → ComesTo Leaves Stops t outcome
      → CameTo system honest risks (stands_at t) outcome
  one_came (task.Ledger old) (Ok (actor.Ledger new)) over come = (refl, come.end.system ∙ over, come.end.done)
  one_came (task.Ledger old) (Ok other) over come = absurd come.end
  one_came (task.Ledger old) (Err stop) over come = (
    come.stop.place,
    come.stop.system ∙ over,
    may_stop honest risks (λ (d : LedgerCore). IsTurnFault) come.stop.left place.Ledger (λ fault is. is) stop.met
        come.stop.met,
  )
  one_came (task.Client old) (Ok (actor.Client new)) over come = (
    ap (λ (seat : ClientSeat). place.Client seat.number) come.end.left.seat,
    come.end.left.system ∙ over,
    come.end.left.done,
  )
  one_came (task.Client old) (Ok other) over come = absurd come.end
  one_came (task.Client old) (Err stop) over come = (
    come.stop.place ∙ ap (λ (seat : ClientSeat). place.Client seat.number) come.stop.seat,
    come.stop.system ∙ over,
    may_stop honest risks (λ (c : ClientCore). IsTurnFault) come.stop.left (place.Client old.end.work.number)
        (λ fault is. is) stop.met come.stop.met,
  )
  one_came (task.Connector old) (Ok (actor.Connector new)) over come =
      (refl, come.end.system ∙ over.0, come.end.done)
  one_came (task.Connector old) (Ok other) over come = absurd come.end
  one_came (task.Connector old) (Err stop) over come = (
    come.stop.place,
    come.stop.system ∙ over.0,
    may_stop honest risks IsMetByConnector come.stop.left place.Connector (λ fault is.
        subst (λ (r : Risks). IsConnectorFault honest r fault) over.2
        (subst (λ (b : Bool). IsConnectorFault b old.work.risks fault) over.1
        (connector_kind old.work come.stop.left.work come.stop.seat fault is))) stop.met come.stop.met,
  )
  one_came (task.Broker old) (Ok (actor.Broker new)) over come = (refl, come.end.system ∙ over, come.end.done)
  one_came (task.Broker old) (Ok other) over come = absurd come.end
  one_came (task.Broker old) (Err stop) over come = (
    come.stop.place,
    come.stop.system ∙ over,
    may_stop honest risks (λ (d : BrokerCore). IsTurnFault) come.stop.left place.Broker (λ fault is. is) stop.met
        come.stop.met,
  )
  one_came (task.Subscriber old) (Ok (actor.Subscriber new)) over come = (
    ap (λ (seat : SubscriberSeat). place.Subscriber seat.number) come.end.seat,
    come.end.system ∙ over,
    come.end.done,
  )
  one_came (task.Subscriber old) (Ok other) over come = absurd come.end
  one_came (task.Subscriber old) (Err stop) over come = (
    come.stop.place ∙ ap (λ (seat : SubscriberSeat). place.Subscriber seat.number) come.stop.seat,
    come.stop.system ∙ over,
    may_stop honest risks (λ (c : SubscriberCore). IsTurnFault) come.stop.left (place.Subscriber old.work.number)
        (λ fault is. is) stop.met come.stop.met,
  )

  -- so did each
  all_came : (ts : List (Task S)) (outcomes : List (Result (Actor S) StopState)) → AllByRecursion IsOver ts
      → AllZip (ComesTo Leaves Stops) ts outcomes
      → AllZip (CameTo system honest risks) (map stands_at ts) outcomes
  all_came [] [] over all = tt
  all_came [] (outcome ∷ outcomes) over all = absurd all
  all_came (t ∷ ts) [] over all = absurd all
  all_came (t ∷ ts) (outcome ∷ outcomes) over all =
      (one_came t outcome over.0 all.0, all_came ts outcomes over.1 all.1)

  -- the places of new clients, and of what comes after them
  clients_stand : (requests : LinkId ToLedger) (number : ℕ) (links : List (LinkId Reply))
      (scripts : List (List Batch)) (rest : List (Task S)) → length scripts ≡ length links
      → map stands_at (map task.Client (with_scripts (made_clients system requests number links) scripts) ++ rest)
      ≡ clients_from number (length links) ++ map stands_at rest
  clients_stand requests number [] scripts rest many = refl
  clients_stand requests number (link ∷ links) [] rest many = absurd (omega arith)
  clients_stand requests number (link ∷ links) (script ∷ scripts) rest many =
      let fewer : length scripts ≡ length links = omega arith in
      ap (λ (l : List Place). place.Client number ∷ l)
      (clients_stand requests (number + 1) links scripts rest fewer)

  -- and the places of new subscribers
  subscribers_stand : (acks : LinkId ToBroker) (number : ℕ) (links : List (LinkId ToSubscriber))
      (closes : List (Option ℕ)) → length closes ≡ length links
      → map stands_at (map task.Subscriber (made_subscribers system acks number links closes))
      ≡ subscribers_from number (length links)
  subscribers_stand acks number [] closes many = refl
  subscribers_stand acks number (link ∷ links) [] many = absurd (omega arith)
  subscribers_stand acks number (link ∷ links) (close ∷ closes) many =
      let fewer : length closes ≡ length links = omega arith in
      ap (λ (l : List Place). place.Subscriber number ∷ l)
      (subscribers_stand acks (number + 1) links closes fewer)

  -- they are all of the system
  clients_over : (requests : LinkId ToLedger) (number : ℕ) (links : List (LinkId Reply))
      (scripts : List (List Batch)) (rest : List (Task S)) → AllByRecursion IsOver rest
      → AllByRecursion IsOver
      (map task.Client (with_scripts (made_clients system requests number links) scripts) ++ rest)
  clients_over requests number [] scripts rest over = over
  clients_over requests number (link ∷ links) [] rest over = over
  clients_over requests number (link ∷ links) (script ∷ scripts) rest over =
      (refl, clients_over requests (number + 1) links scripts rest over)

  subscribers_over : (acks : LinkId ToBroker) (number : ℕ) (links : List (LinkId ToSubscriber))
      (closes : List (Option ℕ))
      → AllByRecursion IsOver (map task.Subscriber (made_subscribers system acks number links closes))
  subscribers_over acks number [] closes = tt
  subscribers_over acks number (link ∷ links) [] = tt
  subscribers_over acks number (link ∷ links) (close ∷ closes) =
      (refl, subscribers_over acks (number + 1) links closes)

module _ {S : Type 0} (config : Config) (faults : Faults) (held : Option Saved) (honest : Bool) (risks : Risks)
    (ends : Ends S) (made : AreMade config faults held honest risks ends) (scripts : List (List Batch)) where
  -- the actors of a run after its clients
  abbrev others : List (ActorState SubscriberCore) → List (Task S)
  others subscribers =
      task.Connector ends.connector ∷ task.Broker ends.broker ∷ map task.Subscriber subscribers

  -- all are of the system, and the connector works over the store that this was given
  all_over : AllByRecursion (IsOver S config.system honest risks) (tasks_at (places_of ends) scripts)
  all_over =
      let Over : Task S → Type 0 = IsOver S config.system honest risks in
      let subscribers : AllByRecursion Over (map task.Subscriber ends.subscribers.items) =
      subst (λ (l : List (ActorState SubscriberCore)). AllByRecursion Over (map task.Subscriber l))
      (sym made.subscribers)
      (subscribers_over S config.system honest risks made.wiring.to_broker 1 made.wiring.to_subscribers made.closes) in
      let rest : AllByRecursion Over (others ends.subscribers.items) = (
        (
          ap (λ (e : ActorState ConnectorCore). e.system) made.connector,
          ap (λ (e : ActorState ConnectorCore). e.work.honest) made.connector,
          ap (λ (e : ActorState ConnectorCore). e.work.risks) made.connector,
        ),
        (ap (λ (e : ActorState BrokerCore). e.system) made.broker, subscribers),
      ) in (
        ap (λ (e : ActorState LedgerCore). e.system) made.ledger,
        subst (λ (l : List (ActorState ClientCore)).
            AllByRecursion Over (map task.Client (with_scripts l scripts) ++ others ends.subscribers.items))
            (sym made.clients)
            (clients_over S config.system honest risks made.wiring.to_ledger 1 made.wiring.to_clients scripts
            (others ends.subscribers.items) rest),
      )

  -- the places of all actors of a run
  all_stand : length scripts ≡ config.clients
      → map (stands_at S config.system honest risks) (tasks_at (places_of ends) scripts)
      ≡ places_in config.clients (length config.bindings.items)
  all_stand many =
      let at : Task S → Place = stands_at S config.system honest risks in
      let rest : List (Task S) = others ends.subscribers.items in
      let subscribers : map at (map task.Subscriber ends.subscribers.items)
      ≡ subscribers_from 1 (length config.bindings.items) =
      ap (λ (l : List (ActorState SubscriberCore)). map at (map task.Subscriber l)) made.subscribers
      ∙ subscribers_stand S config.system honest risks made.wiring.to_broker 1 made.wiring.to_subscribers made.closes
      (made.closes_count ∙ sym made.subscribers_count)
      ∙ ap (subscribers_from 1) made.subscribers_count in
      ap (λ (l : List Place). place.Ledger ∷ l)
      (ap (λ (cs : List (ActorState ClientCore)). map at (map task.Client (with_scripts cs scripts) ++ rest))
      made.clients
      ∙ clients_stand S config.system honest risks made.wiring.to_ledger 1 made.wiring.to_clients scripts rest
      (many ∙ sym made.clients_count)
      ∙ ap (λ (n : ℕ). clients_from 1 n ++ map at rest) made.clients_count
      ∙ ap (λ (l : List Place). clients_from 1 config.clients ++ place.Connector ∷ place.Broker ∷ l) subscribers)

  -- so the stop that counts is that of a run
  pub has_failed : length scripts ≡ config.clients → (ts : List (Task S)) → ts ≡ tasks_at (places_of ends) scripts
      → (why : Failure S) → HaveStopped ts why
      → IsRunFailure config.system honest risks config.clients (length config.bindings.items) why
  has_failed many ts same failure.OutOfMemory have = tt
  has_failed many ts same (failure.Stopped at met outcomes) have =
      let Came : Place → Result (Actor S) StopState → Type 0 = CameTo config.system honest risks in
      let places : List Place = places_in config.clients (length config.bindings.items) in
      let over : AllByRecursion (IsOver S config.system honest risks) ts =
      subst (λ (l : List (Task S)). AllByRecursion (IsOver S config.system honest risks) l) (sym same) all_over in
      let come : AllZip Came places outcomes.items =
      subst (λ (ps : List Place). AllZip Came ps outcomes.items)
      (ap (map (stands_at S config.system honest risks)) same ∙ all_stand many)
      (all_came S config.system honest risks ts outcomes.items over have.0) in
      record {
        come = come;
        counts = have.1;
        kind = subst (λ (o : Option (Place × Met)). IfSome o (MayStopThere honest risks)) have.1
            (counted_kind S config.system honest risks places outcomes.items come);
      }

-- actors that have all finished are put together, unless memory runs out
pub unsettled : (AreFit : Type 0) → AreFit → (fault : RunFault) → IsRefused AreFit fault → fault ≡ OutOfMemory
unsettled AreFit fit fault (inl none) = none
unsettled AreFit fit fault (inr other) = absurd (other.1 fit)
