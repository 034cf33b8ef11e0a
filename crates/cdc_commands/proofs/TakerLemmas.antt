-- What a queue delivers next is taken and acknowledged.
use Rattle.cdc_commands.proofs.Terms.{Bool, BrokerState, List, QueueState, acknowledged, ap, ap₂, empty_queue, false, get_or-set_same, if◌then◌else◌, is_unknown, length, nobody, not, queue_of, refl, set-set, slice_set, true, unwrap_or-slice_get, with_ack, with_queue, ℕ, ◌-◌, ◌<◌, ◌∙◌, ◌≡◌}

-- the queue that was put into its place
queue_of-with_queue : (s : BrokerState) (i : ℕ) (q : QueueState) → i - 1 < length s.queues
    → queue_of (with_queue i q s) i ≡ q
queue_of-with_queue s i q inside =
    unwrap_or-slice_get (slice_set s.queues (i - 1) q) (i - 1) (empty_queue nobody)
    ∙ get_or-set_same s.queues (i - 1) q (empty_queue nobody) inside

-- of a queue that changes twice the later state counts
with_queue_twice : (s : BrokerState) (i : ℕ) (p q : QueueState)
    → with_queue i q (with_queue i p s) ≡ with_queue i q s
with_queue_twice s i p q = ap (λ (qs : List QueueState). record s { queues = qs }) (set-set s.queues (i - 1) p q)

-- a queue that changed is acknowledged up to this position, if it was delivered
pub acknowledges : (s s' s'' : BrokerState) (i position : ℕ) (q : QueueState) (answer : Bool)
    → i - 1 < length s.queues → s' ≡ with_queue i q s → answer ≡ not (is_unknown (queue_of s' i) position)
    → s'' ≡ (if answer then with_queue i (acknowledged position (queue_of s' i)) s' else s')
    → s'' ≡ with_queue i (with_ack position q) s
acknowledges s s' s'' i position q answer inside first answered is =
    let this : queue_of s' i ≡ q = ap (λ x. queue_of x i) first ∙ queue_of-with_queue s i q inside in
    is
    ∙ ap₂ (λ (b : Bool) (x : QueueState). if b then with_queue i (acknowledged position x) s' else s')
    (answered ∙ ap (λ (x : QueueState). not (is_unknown x position)) this) this
    ∙ ap (λ (x : BrokerState). if not (is_unknown q position) then with_queue i (acknowledged position q) x else x)
    first
    ∙ by_answer (is_unknown q position)
  where
    by_answer : (unknown : Bool)
        → (if not unknown then with_queue i (acknowledged position q) (with_queue i q s) else with_queue i q s)
        ≡ with_queue i (if unknown then q else acknowledged position q) s
    by_answer true = refl
    by_answer false = with_queue_twice s i q (acknowledged position q)
