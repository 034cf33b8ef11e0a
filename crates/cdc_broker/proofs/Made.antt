-- The queues that are made of the first bindings.
use Rattle.std.proofs.Common.{◌≡◌, ℕ, ◌+◌, ◌≤◌, List, [], ◌∷◌, ◌++◌, refl, sym, ap, ap₂, ◌∙◌, subst, map, length, arith}
use Rattle.std.specs.Prelude.{All}
use Rattle.std.proofs.lemmas.List.{map_push}
use Rattle.std.proofs.lemmas.List.Elements.{All-map}
use Rattle.cdc_match.specs.Arguments.{Arguments}
use Rattle.cdc_broker.specs.declared.queue.Queue.{Queue}
use Rattle.cdc_broker.specs.Kept.{queue_state, IsInOrder, IsLeft}
use Rattle.cdc_broker.specs.Queues.{QueueState, empty_queue}
use Rattle.cdc_broker.proofs.Accepted.{Holds}

-- a queue for each of the first bindings, and room for those of the rest
pub record AreMade (all first rest : List Arguments) (queues : List Queue) (len capacity : ℕ) : Type 0 where
  pub parts : first ++ rest ≡ all
  pub empty : map (queue_state []) queues ≡ map empty_queue first
  pub in_order : All (IsInOrder []) queues
  pub room : len + length rest ≤ capacity
  pub count : len ≡ length first

-- one more queue
pub empty_push : (queues all : List Queue) (first : List Arguments) (q : Queue) (binding : Arguments)
    → map (queue_state []) queues ≡ map empty_queue first → all ≡ queues ++ q ∷ []
    → queue_state [] q ≡ empty_queue binding
    → map (queue_state []) all ≡ map empty_queue (first ++ binding ∷ [])
empty_push queues all first q binding so_far pushed state =
    ap (map (queue_state [])) pushed ∙ map_push (queue_state []) queues q
    ∙ ap₂ (λ xs x. xs ++ x ∷ []) so_far state ∙ sym (map_push empty_queue first binding)

-- empty queues hold what belongs to them of nothing
pub Holds-empty : (bindings : List Arguments) (queues : List QueueState) → queues ≡ map empty_queue bindings
    → All (Holds []) queues
Holds-empty bindings queues are =
    subst (λ (qs : List QueueState). All (Holds []) qs) (sym are)
    (All-map (Holds []) empty_queue bindings (λ k d inside. refl))

-- of no items none is let go
pub all_left : (queues : List Queue) → All (IsLeft 0) queues
all_left queues = λ k d inside. record { acked = omega arith; cursor = omega arith }
