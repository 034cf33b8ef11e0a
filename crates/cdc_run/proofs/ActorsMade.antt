-- The actors of a run, made one after another.
use Rattle.cdc_run.proofs.Words.{ActorState, AreCloses, AreFreshSubscribers, ClientCore, Incoming, IsFresh, IsLeastClose, LinkId, List, None, Option, Outgoing, Past, Reply, SubscriberCore, ToBroker, ToLedger, ToSubscriber, [], ap, arith, first_client, first_subscriber, fresh_endpoint, fresh_inbox, length, length-map, length_push, made_clients, made_subscribers, map, map_push, subst, suc, sym, ℕ, ◌++◌, ◌+◌, ◌∙◌, ◌∷◌, ◌≡◌}

-- a receiver's endpoint that has received nothing
pub is_fresh : {M N : Type 0} (count : ℕ) (into : Incoming M N) → IsFresh count into
    → into ≡ fresh_inbox into.link count
is_fresh {M} {N} count into fresh =
    ap (λ (n : ℕ). record into { senders = n }) fresh.senders
    ∙ ap (λ (l : List (ℕ × (M × N))). record into { senders = count; received = l }) fresh.received

-- ---- clients

-- a client that has sent nothing
abbrev client_of : ℕ → ℕ → Outgoing ToLedger (Unit {0}) → Incoming Reply Past → ActorState ClientCore
client_of system number requests answers =
    record { system = system; work = first_client number requests answers; fault = None }

-- one client more
clients_push : (system : ℕ) (link : LinkId ToLedger) (number : ℕ) (links : List (LinkId Reply)) (answers : LinkId Reply)
    → made_clients system link number (links ++ answers ∷ [])
    ≡ made_clients system link number links
    ++ client_of system (number + length links) (fresh_endpoint link (number + length links))
    (fresh_inbox answers 1) ∷ []
clients_push system link number [] answers =
    let same : number ≡ number + 0 = omega arith in
    ap (λ (k : ℕ). client_of system k (fresh_endpoint link k) (fresh_inbox answers 1) ∷ []) same
clients_push system link number (l ∷ links) answers =
    let same : number + 1 + length links ≡ number + suc (length links) = omega arith in
    ap (λ (rest : List (ActorState ClientCore)). client_of system number (fresh_endpoint link number) (fresh_inbox l 1)
    ∷ rest)
    (clients_push system link (number + 1) links answers
    ∙ ap (λ (k : ℕ). made_clients system link (number + 1) links
    ++ client_of system k (fresh_endpoint link k) (fresh_inbox answers 1) ∷ []) same)

-- and so of the actors that a loop has made of these pairs, and of one more pair
pub client_more : (system : ℕ) (link : LinkId ToLedger) (ps : List (Outgoing ToLedger (Unit {0}) × Incoming Reply Past))
    (p : Outgoing ToLedger (Unit {0}) × Incoming Reply Past) (clients : List (ActorState ClientCore)) (number : ℕ)
    → clients ≡ made_clients system link 1 (map (λ p. p.1.link) ps) → number ≡ 1 + length ps
    → (p.0 ≡ fresh_endpoint link (1 + length ps)) × IsFresh 1 p.1
    → clients ++ client_of system number p.0 p.1 ∷ [] ≡ made_clients system link 1 (map (λ p. p.1.link) (ps ++ p ∷ []))
client_more system link ps p clients number are its pair =
    let P : Type 0 = Outgoing ToLedger (Unit {0}) × Incoming Reply Past in
    let links : List (LinkId Reply) = map (λ (q : P). q.1.link) ps in
    let place : 1 + length ps ≡ 1 + length links = ap (λ n. 1 + n) (sym (length-map ps (λ (q : P). q.1.link))) in
    let one : client_of system number p.0 p.1
    ≡ client_of system (1 + length links) (fresh_endpoint link (1 + length links)) (fresh_inbox p.1.link 1) =
    ap (λ n. client_of system n p.0 p.1) (its ∙ place)
    ∙ ap (λ out. client_of system (1 + length links) out p.1) (pair.0 ∙ ap (λ n. fresh_endpoint link n) place)
    ∙ ap (λ into. client_of system (1 + length links) (fresh_endpoint link (1 + length links)) into)
    (is_fresh 1 p.1 pair.1) in
    ap (λ l. l ++ client_of system number p.0 p.1 ∷ []) are
    ∙ ap (λ c. made_clients system link 1 links ++ c ∷ []) one
    ∙ sym (clients_push system link 1 links p.1.link)
    ∙ ap (λ l. made_clients system link 1 l) (sym (map_push (λ (q : P). q.1.link) ps p))

-- ---- subscribers

-- one close number more
closes_push : (number : ℕ) (given : List (ℕ × ℕ)) (closes : List (Option ℕ)) (close : Option ℕ)
    → AreCloses number given closes → IsLeastClose (number + length closes) given close
    → AreCloses number given (closes ++ close ∷ [])
closes_push number given [] close are is =
    let same : number + 0 ≡ number = omega arith in
    (subst (λ n. IsLeastClose n given close) same is, tt)
closes_push number given (c ∷ closes) close are is =
    let same : number + suc (length closes) ≡ number + 1 + length closes = omega arith in
    (are.0, closes_push (number + 1) given closes close are.1 (subst (λ n. IsLeastClose n given close) same is))

-- one to which nothing has come
abbrev subscriber_of : ℕ → ℕ → Incoming ToSubscriber (Unit {0}) → Outgoing ToBroker (Unit {0}) → Option ℕ
    → ActorState SubscriberCore
subscriber_of system number inbox acks close =
    record { system = system; work = first_subscriber number inbox acks close; fault = None }

-- one subscriber more
subscribers_push : (system : ℕ) (acks : LinkId ToBroker) (number : ℕ) (links : List (LinkId ToSubscriber))
    (closes : List (Option ℕ)) (inbox : LinkId ToSubscriber) (close : Option ℕ) → length closes ≡ length links
    → made_subscribers system acks number (links ++ inbox ∷ []) (closes ++ close ∷ [])
    ≡ made_subscribers system acks number links closes
    ++ subscriber_of system (number + length links) (fresh_inbox inbox 1)
    (fresh_endpoint acks (number + length links)) close
    ∷ []
subscribers_push system acks number [] [] inbox close long =
    let same : number ≡ number + 0 = omega arith in
    ap (λ (k : ℕ). subscriber_of system k (fresh_inbox inbox 1) (fresh_endpoint acks k) close ∷ []) same
subscribers_push system acks number [] (c ∷ closes) inbox close long = absurd (omega arith)
subscribers_push system acks number (l ∷ links) [] inbox close long = absurd (omega arith)
subscribers_push system acks number (l ∷ links) (c ∷ closes) inbox close long =
    let shorter : length closes ≡ length links = omega arith in
    let same : number + 1 + length links ≡ number + suc (length links) = omega arith in
    ap (λ (rest : List (ActorState SubscriberCore)).
    subscriber_of system number (fresh_inbox l 1) (fresh_endpoint acks number) c ∷ rest)
    (subscribers_push system acks (number + 1) links closes inbox close shorter
    ∙ ap (λ (k : ℕ). made_subscribers system acks (number + 1) links closes
    ++ subscriber_of system k (fresh_inbox inbox 1) (fresh_endpoint acks k) close ∷ []) same)

-- and so of the actors that a loop has made of these pairs, and of one more pair
pub subscriber_more : (system : ℕ) (acks : LinkId ToBroker) (given : List (ℕ × ℕ))
    (ps : List (Outgoing ToBroker (Unit {0}) × Incoming ToSubscriber (Unit {0})))
    (p : Outgoing ToBroker (Unit {0}) × Incoming ToSubscriber (Unit {0}))
    (subscribers : List (ActorState SubscriberCore)) (number : ℕ) (close : Option ℕ)
    → AreFreshSubscribers system acks given (map (λ p. p.1.link) ps) subscribers → number ≡ 1 + length ps
    → IsLeastClose number given close → (p.0 ≡ fresh_endpoint acks (1 + length ps)) × IsFresh 1 p.1
    → AreFreshSubscribers system acks given (map (λ p. p.1.link) (ps ++ p ∷ []))
    (subscribers ++ subscriber_of system number p.1 p.0 close ∷ [])
subscriber_more system acks given ps p subscribers number close are its least pair =
    let P : Type 0 = Outgoing ToBroker (Unit {0}) × Incoming ToSubscriber (Unit {0}) in
    let links : List (LinkId ToSubscriber) = map (λ (q : P). q.1.link) ps in
    let place : 1 + length ps ≡ 1 + length links = ap (λ n. 1 + n) (sym (length-map ps (λ (q : P). q.1.link))) in
    let more : map (λ (q : P). q.1.link) (ps ++ p ∷ []) ≡ links ++ p.1.link ∷ [] =
    map_push (λ (q : P). q.1.link) ps p in
    let one : subscriber_of system number p.1 p.0 close
    ≡ subscriber_of system (1 + length links) (fresh_inbox p.1.link 1) (fresh_endpoint acks (1 + length links)) close =
    ap (λ n. subscriber_of system n p.1 p.0 close) (its ∙ place)
    ∙ ap (λ out. subscriber_of system (1 + length links) p.1 out close) (pair.0 ∙ ap (λ n. fresh_endpoint acks n) place)
    ∙ ap (λ into. subscriber_of system (1 + length links) into (fresh_endpoint acks (1 + length links)) close)
    (is_fresh 1 p.1 pair.1) in
    let there : number ≡ 1 + length are.closes = its ∙ place ∙ ap (λ n. 1 + n) (sym are.count) in
    let long : length (are.closes ++ close ∷ []) ≡ length (links ++ p.1.link ∷ []) =
    length_push are.closes close ∙ ap (λ n. n + 1) are.count ∙ sym (length_push links p.1.link) in
    record {
      closes = are.closes ++ close ∷ [];
      count = long ∙ ap (λ l. length l) (sym more);
      closes_are =
          closes_push 1 given are.closes close are.closes_are (subst (λ n. IsLeastClose n given close) there least);
      subscribers_are =
          ap (λ l. l ++ subscriber_of system number p.1 p.0 close ∷ []) are.subscribers_are
          ∙ ap (λ c. made_subscribers system acks 1 links are.closes ++ c ∷ []) one
          ∙ sym (subscribers_push system acks 1 links are.closes p.1.link close are.count)
          ∙ ap (λ l. made_subscribers system acks 1 l (are.closes ++ close ∷ [])) (sym more);
    }
