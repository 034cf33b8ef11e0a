-- The actors of a run as one list, one after another.
use Rattle.cdc_run.proofs.Words.{ActorState, Batch, ClientCore, Global, LedgerCore, List, Placed, ScriptedState, SubscriberCore, Task, Vec, [], ap, append_assoc, map, map-id, map_push, refl, sym, tasks_at, with_scripts, zip, ◌++◌, ◌∙◌, ◌∷◌, ◌≡◌}
use Rattle.cdc_run.specs.declared.tasks.Task.TheVariants as task

module _ (S : Type 0) where
  -- one subscriber more
  pub subscriber_push : (before : List (ActorState SubscriberCore)) (s : ActorState SubscriberCore)
      (first old new : List (Task S))
      → old ≡ first ++ map task.Subscriber before → new ≡ old ++ task.Subscriber s ∷ []
      → new ≡ first ++ map task.Subscriber (before ++ s ∷ [])
  subscriber_push before s first old new old_is more =
      let one : List (Task S) = task.Subscriber s ∷ [] in
      more ∙ ap (λ (l : List (Task S)). l ++ one) old_is
      ∙ append_assoc first (map task.Subscriber before) one
      ∙ ap (λ (l : List (Task S)). first ++ l) (sym (map_push task.Subscriber before s))

  -- a client with its script
  abbrev pub client_task : ActorState ClientCore × Vec Batch Global → Task S
  client_task each = task.Client (record { end = each.0; script = each.1.items })

  -- one client more
  pub client_push : (before : List (ActorState ClientCore × Vec Batch Global))
      (each : ActorState ClientCore × Vec Batch Global)
      (ledger : ActorState LedgerCore) (more : ScriptedState) (old new : List (Task S))
      → old ≡ task.Ledger ledger ∷ map client_task before → more ≡ record { end = each.0; script = each.1.items }
      → new ≡ old ++ task.Client more ∷ [] → new ≡ task.Ledger ledger ∷ map client_task (before ++ each ∷ [])
  client_push before each ledger more old new old_is more_is pushed =
      pushed ∙ ap (λ (l : List (Task S)). l ++ task.Client more ∷ []) old_is
      ∙ ap (λ (c : ScriptedState). (task.Ledger ledger ∷ map client_task before) ++ task.Client c ∷ []) more_is
      ∙ ap (λ (l : List (Task S)). task.Ledger ledger ∷ l) (sym (map_push client_task before each))

  -- each client with its script
  zipped : (clients : List (ActorState ClientCore)) (scripts : List (Vec Batch Global))
      → map client_task (zip clients scripts) ≡ map task.Client (with_scripts clients (map (λ s. s.items) scripts))
  zipped [] scripts = refl
  zipped (c ∷ clients) [] = refl
  zipped (c ∷ clients) (script ∷ scripts) =
      ap (λ (l : List (Task S)). client_task (c, script) ∷ l) (zipped clients scripts)

  -- all of them
  pub all_listed : (p : Placed) (scripts : List (Vec Batch Global))
      (pairs : List (ActorState ClientCore × Vec Batch Global))
      (subscribers : List (ActorState SubscriberCore)) (clients connector broker all : List (Task S))
      → clients ≡ task.Ledger p.ledger ∷ map client_task pairs → map (λ each. each) pairs ≡ zip p.clients scripts
      → connector ≡ clients ++ task.Connector p.connector ∷ [] → broker ≡ connector ++ task.Broker p.broker ∷ []
      → all ≡ broker ++ map task.Subscriber subscribers → map (λ s. s) subscribers ≡ p.subscribers
      → all ≡ tasks_at p (map (λ s. s.items) scripts)
  all_listed p scripts pairs subscribers clients connector broker all one two three four five six =
      let first : List (Task S) =
      task.Ledger p.ledger ∷ map task.Client (with_scripts p.clients (map (λ s. s.items) scripts)) in
      let whole : clients ≡ first =
      one ∙ ap (λ l. task.Ledger p.ledger ∷ map client_task l) (sym (map-id pairs) ∙ two)
      ∙ ap (λ (l : List (Task S)). task.Ledger p.ledger ∷ l) (zipped p.clients scripts) in
      five ∙ ap (λ l. broker ++ map task.Subscriber l) (sym (map-id subscribers) ∙ six)
      ∙ ap (λ (l : List (Task S)). l ++ map task.Subscriber p.subscribers)
      (four ∙ ap (λ (l : List (Task S)). l ++ task.Broker p.broker ∷ [])
      (three ∙ ap (λ (l : List (Task S)). l ++ task.Connector p.connector ∷ []) whole))
      ∙ append_assoc (first ++ task.Connector p.connector ∷ []) (task.Broker p.broker ∷ [])
      (map task.Subscriber p.subscribers)
      ∙ append_assoc first (task.Connector p.connector ∷ []) (task.Broker p.broker ∷ map task.Subscriber p.subscribers)
