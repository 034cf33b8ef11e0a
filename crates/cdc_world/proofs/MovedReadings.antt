-- What readers of a world find of the subscriber of a number.
use Rattle.cdc_world.proofs.Words.{BrokerState, Finds, Item, List, None, QueueView, Some, Subscription, [], ap, arith, get_or, length, map, numbered, queue_for, queue_of, refl, slice_get-get_or, slice_get_past, suc, view_of, zero, ℕ, ◌-◌, ◌<◌, ◌∙◌, ◌∷◌, ◌≡◌, ◌≤◌}
use Rattle.cdc_world.proofs.NumberedElements.{numbered_parts, numbered_place}
use Rattle.cdc_world.proofs.QueueViews.{view_read}

-- a queue and its subscription agree on the position up to which all are acknowledged
pub acked_read : (b : BrokerState) (items : List Item) (ss : List Subscription) (i : ℕ) (s : Subscription)
    → map view_of b.queues ≡ map (queue_for items) ss → numbered ss i ≡ Some s
    → (queue_of b i).cursor.acked ≡ s.cursor.acked
acked_read b items ss i s same there =
    ap (λ (v : QueueView). v.cursor.acked) (view_read b items ss i s same (numbered_parts ss i s there).1)

-- a number from 1 on, up to the list's length, is found
pub Finds-there : {X : Type 0} (xs : List X) (k : ℕ) → 0 < k → k ≤ length xs → Finds xs k (Some k)
Finds-there [] k above within = absurd (omega arith)
Finds-there (x ∷ xs) k above within = (
  refl,
  (
    get_or (x ∷ xs) (k - 1) x,
    numbered_place (x ∷ xs) k above ∙ slice_get-get_or (x ∷ xs) (k - 1) x (omega arith),
  ),
)

-- 0 isn't found
pub Finds-zero : {X : Type 0} (xs : List X) (k : ℕ) → k ≤ 0 → Finds xs k None
Finds-zero xs zero low = refl
Finds-zero xs (suc k) low = absurd (omega arith)

-- nor a number past the length
pub Finds-past : {X : Type 0} (xs : List X) (k : ℕ) → length xs < k → Finds xs k None
Finds-past xs k past = numbered_place xs k (omega arith) ∙ slice_get_past xs (k - 1) (omega arith)
