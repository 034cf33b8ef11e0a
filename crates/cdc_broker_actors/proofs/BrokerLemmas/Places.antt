-- The queues of a broker and its subscribers, place by place.
use Rattle.cdc_broker_actors.proofs.Words.{◌++◌, ◌+◌, ◌-◌, ◌<◌, ◌||◌, ◌∙◌, ◌∷◌, ◌≡◌, ◌≤◌, Bool, BrokerState, Consumer, List, None, Option, QueueState, Some, [], ap, arith, cases_eq, empty_queue, false, has_ended, inl, inr, length, map, nobody, option_map, queue_of, refl, slice_get, slice_get-map, slice_get_within, slice_set, suc, sym, true, unwrap_or, with_queue, zero, ℕ}
use Rattle.cdc_broker_actors.proofs.BrokerLemmas.Lanes.{queue_of-with}

-- the value at a place that was written
pub slice_get-set : {X : Type 0} (xs : List X) (i : ℕ) (x : X) → i < length xs → slice_get (slice_set xs i x) i ≡ Some x
slice_get-set [] i x inside = absurd (omega arith)
slice_get-set (y ∷ xs) zero x inside = refl
slice_get-set (y ∷ xs) (suc i) x inside = slice_get-set xs i x (omega arith)

-- and at another one
pub slice_get-set_other : {X : Type 0} (xs : List X) (i k : ℕ) (x : X) → (k ≡ i → ⊥)
    → slice_get (slice_set xs i x) k ≡ slice_get xs k
slice_get-set_other [] i k x other = refl
slice_get-set_other (y ∷ xs) zero zero x other = absurd (other refl)
slice_get-set_other (y ∷ xs) zero (suc k) x other = refl
slice_get-set_other (y ∷ xs) (suc i) zero x other = refl
slice_get-set_other (y ∷ xs) (suc i) (suc k) x other = slice_get-set_other xs i k x (λ e. other (ap suc e))

-- the value at a place of a mapped list
pub slice_get_made : {X Y : Type 0} (f : X → Y) (xs : List X) (k : ℕ) (y : Y) → slice_get (map f xs) k ≡ Some y
    → (x : X) × ((slice_get xs k ≡ Some x) × (f x ≡ y))
slice_get_made f [] k y found = cc
slice_get_made f (x ∷ xs) zero y found = (x, (refl, cc))
slice_get_made f (x ∷ xs) (suc k) y found = slice_get_made f xs k y found

-- within a list there is a value
pub slice_get_some : {X : Type 0} (xs : List X) (k : ℕ) → k < length xs → (x : X) × (slice_get xs k ≡ Some x)
slice_get_some [] k inside = absurd (omega arith)
slice_get_some (x ∷ xs) zero inside = (x, refl)
slice_get_some (x ∷ xs) (suc k) inside = slice_get_some xs k (omega arith)

-- and past its end there is none
pub slice_get_behind : {X : Type 0} (xs : List X) (k : ℕ) → slice_get xs k ≡ None → length xs ≤ k
slice_get_behind [] k none = omega arith
slice_get_behind (x ∷ xs) zero none = cc
slice_get_behind (x ∷ xs) (suc k) none =
    let rest : length xs ≤ k = slice_get_behind xs k none in omega arith

-- whether a sender has ended, with one message more
pub has_ended-push : {M N : Type 0} (is_last : M → Bool) (sent : List (M × N)) (m : M × N)
    → has_ended is_last (sent ++ m ∷ []) ≡ (has_ended is_last sent || is_last m.0)
has_ended-push is_last [] m = or_false (is_last m.0)
  where
    or_false : (b : Bool) → (b || false) ≡ b
    or_false true = refl
    or_false false = refl
has_ended-push is_last (first ∷ sent) m = go (is_last first.0) (has_ended-push is_last sent m)
  where
    go : (b : Bool) → has_ended is_last (sent ++ m ∷ []) ≡ (has_ended is_last sent || is_last m.0)
        → (b || has_ended is_last (sent ++ m ∷ [])) ≡ ((b || has_ended is_last sent) || is_last m.0)
    go true is = refl
    go false is = is

-- ---- each queue and its subscriber

-- this holds of each subscriber, with its place and its queue
abbrev pub HoldsOfAll : (ℕ → QueueState → Consumer → Type 0) → BrokerState → List Consumer → Type 0
HoldsOfAll P b consumers =
    (place : ℕ) (c : Consumer) → slice_get consumers place ≡ Some c → P place (queue_of b (place + 1)) c

-- a queue of another number
queue_of-other : (b : BrokerState) (place k : ℕ) (q : QueueState) → (k ≡ place → ⊥)
    → queue_of (with_queue (place + 1) q b) (k + 1) ≡ queue_of b (k + 1)
queue_of-other b place k q other =
    ap (λ (found : Option QueueState). unwrap_or found (empty_queue nobody))
    (slice_get-set_other b.queues (place + 1 - 1) (k + 1 - 1) q (λ e. other (omega (arith, e))))

-- one of the queues and its subscriber change
pub HoldsOfAll-set : (P Q : ℕ → QueueState → Consumer → Type 0) (b : BrokerState) (consumers : List Consumer)
    (place : ℕ) (q : QueueState) (c : Consumer) → place < length b.queues → place < length consumers
    → HoldsOfAll P b consumers → ((k : ℕ) (p : QueueState) (x : Consumer) → (k ≡ place → ⊥) → P k p x → Q k p x)
    → Q place q c → HoldsOfAll Q (with_queue (place + 1) q b) (slice_set consumers place c)
HoldsOfAll-set P Q b consumers place q c queued inside holds others this k x found = elim (cases_eq k place) [
  | inl same ↦
      let here : slice_get (slice_set consumers place c) place ≡ Some x = rw same at found in
      let there : slice_get (slice_set consumers place c) place ≡ Some c = slice_get-set consumers place c inside in
      let is : c ≡ x = cc in
      let at = queue_of-with b (place + 1) q (omega arith) in
      rw same (rw at (rw is at this))
  | inr other ↦
      let old : slice_get consumers k ≡ Some x = sym (slice_get-set_other consumers place k c other) ∙ found in
      rw (queue_of-other b place k q other) (others k (queue_of b (k + 1)) x other (holds k x old))
]

-- a queue among queues that are made of others
queue_of-map : (f : QueueState → QueueState) (b b' : BrokerState) (place : ℕ) → b'.queues ≡ map f b.queues
    → place < length b.queues → queue_of b' (place + 1) ≡ f (queue_of b (place + 1))
queue_of-map f b b' place are inside =
    let at : place + 1 - 1 < length b.queues = omega arith in
    let there = slice_get_some b.queues (place + 1 - 1) at in
    ap (λ (qs : List QueueState). unwrap_or (slice_get qs (place + 1 - 1)) (empty_queue nobody)) are
    ∙ ap (λ (found : Option QueueState). unwrap_or found (empty_queue nobody))
    (slice_get-map f b.queues (place + 1 - 1) ∙ ap (option_map f) there.1)
    ∙ sym (ap (λ (found : Option QueueState). f (unwrap_or found (empty_queue nobody))) there.1)

-- all queues change
pub HoldsOfAll-queues : (P Q : ℕ → QueueState → Consumer → Type 0) (b b' : BrokerState) (consumers : List Consumer)
    (f : QueueState → QueueState) → b'.queues ≡ map f b.queues → length b.queues ≡ length consumers
    → HoldsOfAll P b consumers → ((k : ℕ) (p : QueueState) (x : Consumer) → P k p x → Q k (f p) x)
    → HoldsOfAll Q b' consumers
HoldsOfAll-queues P Q b b' consumers f are many holds each k x found =
    let inside : k < length consumers = slice_get_within consumers k x found in
    rw (queue_of-map f b b' k are (omega (arith, inside, many))) (each k (queue_of b (k + 1)) x (holds k x found))

-- all subscribers change
pub HoldsOfAll-consumers : (P Q : ℕ → QueueState → Consumer → Type 0) (b : BrokerState) (consumers : List Consumer)
    (f : Consumer → Consumer) → HoldsOfAll P b consumers
    → ((k : ℕ) (p : QueueState) (x : Consumer) → P k p x → Q k p (f x)) → HoldsOfAll Q b (map f consumers)
HoldsOfAll-consumers P Q b consumers f holds each k x found =
    let made = slice_get_made f consumers k x found in
    rw made.1.1 at (each k (queue_of b (k + 1)) made.0 (holds k made.0 made.1.0))
