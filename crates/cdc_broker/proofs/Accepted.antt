-- What a broker has accepted, after a change of one of its queues and after one more item.
use Rattle.std.proofs.Common.{◌≡◌, ℕ, ◌-◌, ◌<◌, Bool, true, false, List, [], ◌∷◌, ◌++◌, refl, sym, ap, ◌∙◌, subst, Option, Some, None, Result, Ok, Err, length, get_or, append-nil}
use Rattle.std.specs.Prelude.{All, filter, if◌then◌else◌, OnOk, OnErr}
use Rattle.std.proofs.lemmas.List.Elements.{All-set, All-map, filter-append}
use Rattle.std.proofs.lemmas.Option.{unwrap_or-slice_get}
use Rattle.cdc_match.specs.Queue.{queue, takes_item}
use Rattle.cdc_message.specs.declared.items.Delivery.{Delivery}
use Rattle.cdc_message.specs.declared.items.Item.{Item}
use Rattle.cdc_broker.specs.Broker.{BrokerState, HasAccepted, published, queue_of, with_queue, nobody}
use Rattle.cdc_broker.specs.Queues.{QueueState, acknowledged, empty_queue, queued, rewound_queue, with_delivery, with_item}

-- a queue holds what belongs to it of the accepted items
abbrev pub Holds : List Item → QueueState → Type 0
Holds accepted q = q.items ≡ queue accepted q.binding

-- one more item is added to a queue if it belongs to the queue
pub filter_push : (p : Item → Bool) (items : List Item) (item : Item)
    → filter p (items ++ item ∷ []) ≡ filter p items ++ (if p item then item ∷ [] else [])
filter_push p items item = filter-append p items (item ∷ [])

-- an item that is taken comes last of a queue, and one that isn't leaves the items as they were
queued_items : (b : Bool) (items : List Item) (item : Item) (q : QueueState)
    → (with_item (if b then Some item else None) q).items ≡ q.items ++ (if b then item ∷ [] else [])
queued_items true items item q = refl
queued_items false items item q = sym (append-nil q.items)

-- either way the queue keeps its binding
queued_binding : (b : Bool) (item : Item) (q : QueueState)
    → (with_item (if b then Some item else None) q).binding ≡ q.binding
queued_binding true item q = refl
queued_binding false item q = refl

-- so a queue that holds its own still does when one more item is accepted
pub Holds-queued : (accepted : List Item) (item : Item) (q : QueueState) → Holds accepted q
    → Holds (accepted ++ item ∷ []) (queued item q)
Holds-queued accepted item q holds =
    queued_items (takes_item q.binding item) accepted item q
    ∙ ap (λ items. items ++ (if takes_item q.binding item then item ∷ [] else [])) holds
    ∙ sym (filter_push (takes_item q.binding) accepted item)
    ∙ ap (λ binding. queue (accepted ++ item ∷ []) binding) (sym (queued_binding (takes_item q.binding item) item q))

-- if each queue holds the items that belong to it before, it does so after
pub HasAccepted-published : (s : BrokerState) (tag : ℕ) (item : Item) (accepted : List Item)
    → HasAccepted s accepted → HasAccepted (published tag item s) (accepted ++ item ∷ [])
HasAccepted-published s tag item accepted has =
    All-map (Holds (accepted ++ item ∷ [])) (queued item) s.queues
    (λ k d lt. Holds-queued accepted item (get_or s.queues k d) (has k d lt))

-- a queue of the broker holds its own
Holds-queue_of : (s : BrokerState) (i : ℕ) (accepted : List Item) → i - 1 < length s.queues → HasAccepted s accepted
    → Holds accepted (queue_of s i)
Holds-queue_of s i accepted inside has =
    subst (Holds accepted) (sym (unwrap_or-slice_get s.queues (i - 1) (empty_queue nobody)))
    (has (i - 1) (empty_queue nobody) inside)

-- a queue that changes and keeps its own
HasAccepted-with_queue : (s : BrokerState) (i : ℕ) (q : QueueState) (accepted : List Item)
    → HasAccepted s accepted → Holds accepted q → HasAccepted (with_queue i q s) accepted
HasAccepted-with_queue s i q accepted has holds = All-set (Holds accepted) s.queues (i - 1) q holds has

-- an acknowledgement
pub HasAccepted-acknowledged : (s : BrokerState) (i position : ℕ) (b : Bool) (accepted : List Item)
    → i - 1 < length s.queues
    → HasAccepted s accepted
    → HasAccepted (if b then with_queue i (acknowledged position (queue_of s i)) s else s) accepted
HasAccepted-acknowledged s i position true accepted inside has =
    HasAccepted-with_queue s i (acknowledged position (queue_of s i)) accepted has
    (Holds-queue_of s i accepted inside has)
HasAccepted-acknowledged s i position false accepted inside has = has

-- a queue that rewinds
pub HasAccepted-rewound : (s : BrokerState) (i : ℕ) (accepted : List Item) → i - 1 < length s.queues
    → HasAccepted s accepted → HasAccepted (with_queue i (rewound_queue (queue_of s i)) s) accepted
HasAccepted-rewound s i accepted inside has =
    HasAccepted-with_queue s i (rewound_queue (queue_of s i)) accepted has (Holds-queue_of s i accepted inside has)

-- an item that is delivered stays in its queue
Holds-with_delivery : (accepted : List Item) (delivery : Option Delivery) (q : QueueState) → Holds accepted q
    → Holds accepted (with_delivery delivery q)
Holds-with_delivery accepted None q holds = holds
Holds-with_delivery accepted (Some delivery) q holds = holds

-- a delivery
pub HasAccepted-with_delivery : (s : BrokerState) (i : ℕ) (delivery : Option Delivery) (accepted : List Item)
    → i - 1 < length s.queues
    → HasAccepted s accepted → HasAccepted (with_queue i (with_delivery delivery (queue_of s i)) s) accepted
HasAccepted-with_delivery s i delivery accepted inside has =
    HasAccepted-with_queue s i (with_delivery delivery (queue_of s i)) accepted has
    (Holds-with_delivery accepted delivery (queue_of s i) (Holds-queue_of s i accepted inside has))

-- what follows from either outcome
pub either_way : {T E P P' Q : Type 0} (r : Result T E) → OnOk r P → OnErr r P' → (P → Q) → (P' → Q) → Q
either_way (Ok x) p p' f g = f p
either_way (Err e) p p' f g = g p'

-- queues that are those of a broker hold what it has accepted
pub HasAccepted-queues : (s : BrokerState) (queues : List QueueState) (accepted : List Item) → queues ≡ s.queues
    → HasAccepted s accepted → All (Holds accepted) queues
HasAccepted-queues s queues accepted same has = subst (λ (qs : List QueueState). All (Holds accepted) qs) (sym same) has
