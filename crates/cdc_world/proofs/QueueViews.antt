-- The broker's queues as they represent the subscriptions: after an item was taken, and after one queue has changed.
use Rattle.cdc_world.proofs.Words.{Bool, BrokerState, Connect, HaveDelivered, Item, List, None, Option, Packet, Publish, QueueState, QueueView, Some, Subscription, WereDelivered, [], ap, append-nil, ap₂, empty_queue, false, if◌then◌else◌, item_for, items_of, items_of-push, map, nobody, option_map, queue_for, queue_of, queued, refl, same_Some, slice_get, slice_get-map, slice_set, subst, suc, sym, takes_item, true, unwrap_or, view_of, with_item, zero, ℕ, ◌++◌, ◌-◌, ◌∙◌, ◌∷◌, ◌≡◌}
use Rattle.cdc_broker.proofs.Accepted.{filter_push}
use Rattle.cdc_world.proofs.NumberedElements.{slice_get_made}

-- ---- an item is taken

-- a queue as it is seen, after one more item
abbrev requeued : Item → QueueView → QueueView
requeued item v = record v { items = v.items ++ (if takes_item v.binding item then item ∷ [] else []) }

-- a queue is seen with the item at its end if the item matches its binding, and otherwise as it was
with_item_view : (b : Bool) (item : Item) (q : QueueState)
    → view_of (with_item (if b then Some item else None) q)
    ≡ record (view_of q) { items = q.items ++ (if b then item ∷ [] else []) }
with_item_view true item q = refl
with_item_view false item q = ap (λ (items : List Item). record (view_of q) { items = items }) (sym
    (append-nil q.items))

-- a queue that represents a subscription's does so after one more item
queued_view : (item : Item) (items : List Item) (q : QueueState) (s : Subscription) → view_of q ≡ queue_for items s
    → view_of (queued item q) ≡ queue_for (items ++ item ∷ []) s
queued_view item items q s same =
    with_item_view (takes_item q.binding item) item q ∙ ap (requeued item) same
    ∙ ap (λ (taken : List Item). record (queue_for items s) { items = taken })
    (sym (filter_push (takes_item s.binding) items item))

-- the same of all queues
pub queues_after : (item : Item) (items : List Item) (queues : List QueueState) (subscriptions : List Subscription)
    → map view_of queues ≡ map (queue_for items) subscriptions
    → map view_of (map (queued item) queues) ≡ map (queue_for (items ++ item ∷ [])) subscriptions
queues_after item items [] [] same = refl
queues_after item items [] (s ∷ subscriptions) same = cc
queues_after item items (q ∷ queues) [] same = cc
queues_after item items (q ∷ queues) (s ∷ subscriptions) same =
    let here : view_of q ≡ queue_for items s = cc in
    let rest : map view_of queues ≡ map (queue_for items) subscriptions = cc in
    ap₂ (λ (v : QueueView) (vs : List QueueView). v ∷ vs) (queued_view item items q s here)
    (queues_after item items queues subscriptions rest)

-- an item added to a queue leaves what it delivered
with_item_delivered : (item : Option Item) (q : QueueState) → (with_item item q).delivered ≡ q.delivered
with_item_delivered None q = refl
with_item_delivered (Some item) q = refl

-- so what was delivered stays so in all queues
pub delivered_after : (item : Item) (queues : List QueueState) (subscriptions : List Subscription)
    → HaveDelivered queues subscriptions → HaveDelivered (map (queued item) queues) subscriptions
delivered_after item [] subscriptions delivered = tt
delivered_after item (q ∷ queues) [] delivered = tt
delivered_after item (q ∷ queues) (s ∷ subscriptions) delivered = (
  subst (λ n. WereDelivered n s) (sym (with_item_delivered (item_for q.binding item) q)) delivered.0,
  delivered_after item queues subscriptions delivered.1,
)

-- ---- one queue changes

-- a list is unchanged if the element at a place is put there again
pub set_found : {X : Type 0} (xs : List X) (k : ℕ) (x : X) → slice_get xs k ≡ Some x → slice_set xs k x ≡ xs
set_found [] k x found = refl
set_found (y ∷ xs) zero x found = ap (λ z. z ∷ xs) (sym (same_Some y x found))
set_found (y ∷ xs) (suc k) x found = ap (λ zs. y ∷ zs) (set_found xs k x found)

-- the same for the element there, or for anything if there is none
pub set_same : {X : Type 0} (xs : List X) (k : ℕ) (none : X) → slice_set xs k (unwrap_or (slice_get xs k) none) ≡ xs
set_same [] k none = refl
set_same (x ∷ xs) zero none = refl
set_same (x ∷ xs) (suc k) none = ap (λ zs. x ∷ zs) (set_same xs k none)

-- if one queue and its subscription change so that what was delivered stays so, it does in all
pub delivered_set : (k : ℕ) (queues : List QueueState) (subscriptions : List Subscription) (none q' : QueueState)
    (s s' : Subscription) → slice_get subscriptions k ≡ Some s
    → (WereDelivered (unwrap_or (slice_get queues k) none).delivered s → WereDelivered q'.delivered s')
    → HaveDelivered queues subscriptions → HaveDelivered (slice_set queues k q') (slice_set subscriptions k s')
delivered_set k [] subscriptions none q' s s' found step delivered = tt
delivered_set k (q ∷ queues) [] none q' s s' found step delivered = cc
delivered_set zero (q ∷ queues) (t ∷ subscriptions) none q' s s' found step delivered =
    (step (subst (WereDelivered q.delivered) (same_Some t s found) delivered.0), delivered.1)
delivered_set (suc k) (q ∷ queues) (t ∷ subscriptions) none q' s s' found step delivered =
    (delivered.0, delivered_set k queues subscriptions none q' s s' found step delivered.1)

-- the queue under a number is seen as its subscription's
pub view_read : (b : BrokerState) (items : List Item) (ss : List Subscription) (i : ℕ) (s : Subscription)
    → map view_of b.queues ≡ map (queue_for items) ss → slice_get ss (i - 1) ≡ Some s
    → view_of (queue_of b i) ≡ queue_for items s
view_read b items ss i s same there =
    let found = slice_get_made view_of b.queues (i - 1) (queue_for items s)
    (ap (λ (vs : List QueueView). slice_get vs (i - 1)) same
    ∙ (slice_get-map (queue_for items) ss (i - 1) ∙ ap (option_map (queue_for items)) there)) in
    ap (λ (q : Option QueueState). view_of (unwrap_or q (empty_queue nobody))) found.1.0 ∙ found.1.1

-- what was delivered by the queue of one subscription, which is there since each subscription has a queue
pub delivered_here : (k : ℕ) (queues : List QueueState) (subscriptions : List Subscription) (items : List Item)
    (none : QueueState) (s : Subscription) → map view_of queues ≡ map (queue_for items) subscriptions
    → slice_get subscriptions k ≡ Some s → HaveDelivered queues subscriptions
    → WereDelivered (unwrap_or (slice_get queues k) none).delivered s
delivered_here k [] [] items none s same found delivered = cc
delivered_here k [] (t ∷ subscriptions) items none s same found delivered = cc
delivered_here k (q ∷ queues) [] items none s same found delivered = cc
delivered_here zero (q ∷ queues) (t ∷ subscriptions) items none s same found delivered =
    subst (WereDelivered q.delivered) (same_Some t s found) delivered.0
delivered_here (suc k) (q ∷ queues) (t ∷ subscriptions) items none s same found delivered =
    let rest : map view_of queues ≡ map (queue_for items) subscriptions = cc in
    delivered_here k queues subscriptions items none s rest found delivered.1

-- ---- what packets make of it

-- the items after one more
pub items_of-published : (accepted : List Packet) (session tag : ℕ) (item : Item)
    → items_of (accepted ++ Publish session tag item ∷ []) ≡ items_of accepted ++ item ∷ []
items_of-published accepted session tag item = items_of-push accepted (Publish session tag item)

-- a connect has no item, so nothing joins the queues
pub items_of-connected : (accepted : List Packet) (session : ℕ)
    → items_of (accepted ++ Connect session ∷ []) ≡ items_of accepted
items_of-connected accepted session =
    items_of-push accepted (Connect session) ∙ append-nil (items_of accepted)
