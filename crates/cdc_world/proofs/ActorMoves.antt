-- The kept state of the actors after a step that leaves the store alone, and the state of the world that it
-- represents.
use Rattle.cdc_world.proofs.Words.{ActorParts, ActorsMove, ActorsStand, Arguments, BatchResults, BrokerState, CloseLedger, Did, Done, Err, HaveDelivered, History, IsOfActors, IsStepRisked, IsStoreCounted, IsTried, IsTrue, Kept_subscription, List, Moves, MovesBy, Next, NotEnabled, Ok, Option, OutOfMemory, Parts, Result, Risks, Saved, Stands, Step, StepError, Store, Submit, Submitted, WorldState, [], ap, arith, empty_actors, empty_broker, empty_queue, empty_subscription, length, length-map, length-replicate, map, new_subscription, new_world, next, none_there, parts_of, queue_for, refl, replicate, submit, subscription_parts, subst, sym, takes_memory, true, view_of, with_batch, with_ledger_closed, ℕ, ◌∙◌, ◌∷◌, ◌≡◌}
use Rattle.std.specs.Result.{IsErrAnd}
use Rattle.cdc_types.specs.declared.batches.Batch.{Batch}

-- ---- of every step

-- a step from what is kept as a call begins
pub at_entry : {q a new : ActorParts} (step : Step) (answer : Result Did StepError) → q ≡ a
    → ActorsMove q step answer new → ActorsMove a step answer new
at_entry {q} {a} {new} step answer same moves = rw (← same) moves

-- a refusal that an error was turned into
pub refusal_is : (answer : Result Did StepError) (why : StepError) → IsErrAnd answer (λ e. e ≡ why) → answer ≡ Err why
refusal_is (Ok did) why is = absurd is
refusal_is (Err e) why is = ap Err is

-- so a call that fails with the error of an actor is a refused step from the kept state at its entry
pub at_entry_err : {q a new : ActorParts} (step : Step) (answer : Result Did StepError) (why : StepError)
    → IsErrAnd answer (λ e. e ≡ why) → q ≡ a → ActorsMove q step (Err why) new → ActorsMove a step answer new
at_entry_err {q} {a} {new} step answer why is same moves =
    rw (refusal_is answer why is) (at_entry step (Err why) same moves)

-- the same of one that has changed nothing
pub at_entry_unchanged : {q a : ActorParts} (step : Step) (answer : Result Did StepError) (why : StepError)
    → IsErrAnd answer (λ e. e ≡ why) → q ≡ a → ActorsMove q step (Err why) q → ActorsMove a step answer a
at_entry_unchanged {q} {a} step answer why is same moves =
    rw (refusal_is answer why is, ← same) moves

-- a step that has nothing to act on changes nothing
pub unable : (a : ActorParts) (step : Step) → ((w : WorldState) → ActorsStand a w → next w step ≡ Err NotEnabled)
    → ActorsMove a step (Err NotEnabled) a
unable a step none = (tt, λ w st. (w, (st, ((none w st, refl), refl))))

-- if memory runs out, nothing changes
pub exhausted : (a : ActorParts) (step : Step) → IsTrue (takes_memory step)
    → ((w : WorldState) → ActorsStand a w → IsTried (next w step)) → ActorsMove a step (Err OutOfMemory) a
exhausted a step takes tried = (tt, λ w st. (w, (st, ((takes, (tried w st, refl)), refl))))

-- a step that is done, if what is kept represents the world after it, in which the store holds what it held
pub done : {a' : ActorParts} (w w' : WorldState) (step : Step) (did : Did) → ActorsStand a' w'
    → next w step ≡ Ok (did, w') → w'.held ≡ w.held
    → (x : WorldState) × (ActorsStand a' x × (Next w step (Ok did) x × (x.held ≡ w.held)))
done w w' step did st is held = (w', (st, (is, held)))

-- a step that is done is tried
pub tried : (w w' : WorldState) (step : Step) (did : Did) → next w step ≡ Ok (did, w') → IsTried (next w step)
tried w w' step did is = subst IsTried (sym is) tt

-- ---- of the world

-- a step from what is kept as a call begins
pub moves_entry : {q p new : Parts} (step : Step) (answer : Result Did StepError) → q ≡ p → Moves q step answer new
    → Moves p step answer new
moves_entry {q} {p} {new} step answer same moves = subst (λ (r : Parts). Moves r step answer new) same moves

-- a call that fails with the error of a part
pub moves_entry_err : {q p new : Parts} (step : Step) (answer : Result Did StepError) (why : StepError)
    → IsErrAnd answer (λ e. e ≡ why) → q ≡ p → Moves q step (Err why) new → Moves p step answer new
moves_entry_err {q} {p} {new} step answer why is same moves =
    rw (refusal_is answer why is) (moves_entry step (Err why) same moves)

-- a step that is answered as it may be over the risks that are kept
pub Moves-risked : (p : Parts) (step : Step) (answer : Result Did StepError) (p' : Parts)
    → MovesBy Next p step answer p' → IsStepRisked p.risks answer → Moves p step answer p'
Moves-risked p step answer p' moves risked honest w st =
    let after = moves honest w st in (after.0, (after.1.0, (after.1.1, risked)))

-- whatever the actors answer is a risk of each store
own_risked : (risks : Risks) (answer : Result Did StepError) → IsOfActors answer → IsStepRisked risks answer
own_risked risks (Err (Store why)) of = absurd of
own_risked risks answer of = tt

-- a step of the actors is one of the world
pub Moves-actors : (p : Parts) (actors' : ActorParts) (step : Step) (answer : Result Did StepError)
    → ActorsMove p.actors step answer actors' → Moves p step answer (record p { actors = actors' })
Moves-actors p actors' step answer moves honest w st =
    let after = moves.1 w st.actors in (
      after.0,
      (
        record { actors = after.1.0; held = st.held ∙ sym after.1.1.1 },
        (after.1.1.0, own_risked p.risks answer moves.0),
      ),
    )

-- a step of the actors leaves the store's count of failures, also if it is refused
actors_counted : (failed : ℕ) (answer : Result Did StepError) → IsOfActors answer → IsStoreCounted failed failed answer
actors_counted failed (Err (Store why)) own = absurd own
actors_counted failed answer own = refl

-- the same from what is kept as a call begins
pub counted_entry : {q p : Parts} (answer : Result Did StepError) → q ≡ p → IsOfActors answer
    → IsStoreCounted p.failed q.failed answer
counted_entry {q} {p} answer same own =
    subst (λ (n : ℕ). IsStoreCounted n q.failed answer) (ap (λ (r : Parts). r.failed) same)
    (actors_counted q.failed answer own)

-- ---- the ledger's steps

-- a batch is taken
pub submit_done : (a : ActorParts) (b : Batch) (h' : History) (results : BatchResults)
    → submit a.history b ≡ Ok (results, h')
    → ActorsMove a (Submit b) (Ok (Submitted results)) (record a { history = h' })
submit_done a b h' results is = (
  tt,
  λ w st. done w (record w { history = h' }) (Submit b) (Submitted results)
      (record { history = refl; connector = st.connector; broker = st.broker; subscribers = st.subscribers })
      (ap (with_batch w) (ap (λ (h : History). submit h b) (sym st.history) ∙ is)) refl,
)

-- the ledger closes
pub close_done : (a : ActorParts) (h' : History) → h' ≡ record a.history { closed = true }
    → ActorsMove a CloseLedger (Ok Done) (record a { history = h' })
close_done a h' is = (
  tt,
  λ w st. done w (with_ledger_closed w) CloseLedger Done
      (record {
        history = is ∙ ap (λ (h : History). record h { closed = true }) st.history;
        connector = st.connector;
        broker = st.broker;
        subscribers = st.subscribers;
      }) refl refl,
)

-- ---- a new world

-- each queue of the broker is empty, as each subscription's is
new_queues : (bindings : List Arguments)
    → map view_of (map empty_queue bindings) ≡ map (queue_for []) (map new_subscription bindings)
new_queues [] = refl
new_queues (binding ∷ bindings) = ap (λ vs. queue_for [] (new_subscription binding) ∷ vs) (new_queues bindings)

-- to each subscription nothing has come
new_parts : (bindings : List Arguments)
    → replicate (length bindings) empty_subscription ≡ map parts_of (map new_subscription bindings)
new_parts [] = refl
new_parts (binding ∷ bindings) = ap (λ ss. empty_subscription ∷ ss) (new_parts bindings)

-- and nothing was delivered
new_delivered : (bindings : List Arguments) → HaveDelivered (map empty_queue bindings) (map new_subscription bindings)
new_delivered [] = tt
new_delivered (binding ∷ bindings) = (
  record {
    first = omega arith;
    flight = λ d there. absurd (none_there d there);
    acks = λ position there. absurd (none_there position there);
  },
  new_delivered bindings,
)

-- as many subscriptions as queues
pub new_counts : (bindings : List Arguments) (count : ℕ) (items : List Kept_subscription) (b : BrokerState)
    → count ≡ length bindings → map subscription_parts items ≡ replicate count empty_subscription
    → b ≡ empty_broker bindings → length items ≡ length b.queues
new_counts bindings count items b counted kept is =
    sym (length-map items subscription_parts) ∙ (ap length kept ∙ (length-replicate count empty_subscription ∙ (counted
    ∙ (sym (length-map bindings empty_queue) ∙ ap (λ (b : BrokerState). length b.queues) (sym is)))))

-- so actors that have done nothing represent a new world
pub new_stands : (p : Parts) (bindings : List Arguments) (window : ℕ) (held : Option Saved)
    → p.actors ≡ empty_actors bindings window → p.held ≡ held → Stands p (new_world bindings window held)
new_stands p bindings window held actors is = record {
  actors = rw actors (record {
    history = refl;
    connector = record { window = refl; session = tt; packets = refl };
    broker = refl;
    subscribers = record {
      queues = new_queues bindings;
      subscriptions = new_parts bindings;
      delivered = new_delivered bindings;
    };
  });
  held = is;
}
