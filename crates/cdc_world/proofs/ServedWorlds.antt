-- Whatever step is taken, each subscriber and its queue keep what holds of them.
use Rattle.cdc_world.proofs.Words.{AreQueued, Arguments, Bool, IsQueued, IsReached, IsServed, Item, List, Next, Option, Packet, Saved, Some, Step, Subscription, WorldState, [], ap, false, filter-append, filter_map-append, inl, inr, is_taken, items_of, map, new_subscription, new_world, next, numbered, packet_item, queue, queue_in, refl, same_Some, slice_get, slice_set, subst, suc, sym, takes_item, true, with_ack, with_arrival, with_break, with_close, with_delivery, with_numbered, with_rewind, with_subscription, with_taking, zero, ℕ, ◌++◌, ◌-◌, ◌∙◌, ◌∷◌, ◌≡◌, ◌⊎◌}
use Rattle.cdc_world.proofs.NumberedElements.{numbered_from, numbered_parts, slice_get_made}
use Rattle.cdc_world.proofs.RelatedWorlds.{EachMove, Keeps, Leaves, Relates, next_leaves, reached_has, step_leaves}
use Rattle.cdc_world.proofs.ServedSubscribers.{IsServed-ack, IsServed-broken, IsServed-close, IsServed-longer, IsServed-new, IsServed-rewound, IsServed-sending, IsServed-taking}

-- ---- elements by their numbers

-- after one element is replaced, the element at a place is the new one, or was there before
get_set : {X : Type 0} (xs : List X) (k j : ℕ) (y t : X) → slice_get (slice_set xs k y) j ≡ Some t
    → (y ≡ t) ⊎ (slice_get xs j ≡ Some t)
get_set [] k j y t found = inr found
get_set (x ∷ xs) zero zero y t found = inl (same_Some y t found)
get_set (x ∷ xs) zero (suc j) y t found = inr found
get_set (x ∷ xs) (suc k) zero y t found = inr found
get_set (x ∷ xs) (suc k) (suc j) y t found = get_set xs k j y t found

-- after one is replaced an element is the new one, or it was there
numbered-set : {X : Type 0} (xs : List X) (k j : ℕ) (y t : X) → numbered (with_numbered k y xs) j ≡ Some t
    → (y ≡ t) ⊎ (numbered xs j ≡ Some t)
numbered-set xs k j y t found =
    let there = numbered_parts (with_numbered k y xs) j t found in
    elim (get_set xs (k - 1) (j - 1) y t there.1) [
      | inl is ↦ inl is
      | inr old ↦ inr (numbered_from xs j t there.0 old)
    ]

-- ---- the start

-- in a new world nothing was delivered to anyone, from queues that are empty
pub AreQueued-new : (bindings : List Arguments) (window : ℕ) (held : Option Saved)
    → AreQueued (new_world bindings window held)
AreQueued-new bindings window held i s found =
    let made = slice_get_made new_subscription bindings (i - 1) s
    (numbered_parts (map new_subscription bindings) i s found).1 in
    subst (IsServed []) made.1.1 (IsServed-new made.0)

-- ---- one subscriber changes

-- a step that changes one subscriber touches no other, so what holds of all of them is kept
AreQueued-with : (w : WorldState) (i : ℕ) (s : Subscription) → AreQueued w → IsQueued w s
    → AreQueued (with_subscription i s w)
AreQueued-with w i s are served j t found =
    elim (numbered-set w.subscriptions i j s t found) [
      | inl is ↦ subst (IsQueued w) is served
      | inr old ↦ are j t old
    ]

-- ---- a packet comes

-- one that is taken adds its item at the back of each queue that it belongs to
AreQueued-accepted : (w w' : WorldState) (packet : Packet) → w'.subscriptions ≡ w.subscriptions
    → w'.accepted ≡ w.accepted ++ packet ∷ [] → AreQueued w → AreQueued w'
AreQueued-accepted w w' packet same more are i s found =
    let items : items_of w'.accepted ≡ items_of w.accepted ++ items_of (packet ∷ []) =
    ap items_of more ∙ filter_map-append packet_item w.accepted (packet ∷ []) in
    let longer : queue_in w' s ≡ queue_in w s ++ queue (items_of (packet ∷ [])) s.binding =
    ap (λ xs. queue xs s.binding) items
    ∙ filter-append (takes_item s.binding) (items_of w.accepted) (items_of (packet ∷ [])) in
    subst (λ xs. IsServed xs s) (sym longer)
    (IsServed-longer (queue_in w s) s (are i s (ap (λ subscriptions. numbered subscriptions i) (sym same) ∙ found))
    (queue (items_of (packet ∷ [])) s.binding))

-- so whether it is taken or ignored, each queue keeps what it delivered
AreQueued-arrival : (w : WorldState) (packet : Packet) (taken : Bool) → AreQueued w
    → AreQueued (with_arrival w packet taken)
AreQueued-arrival w packet true are =
    AreQueued-accepted w (with_arrival w packet true) packet refl refl are
AreQueued-arrival w packet false are = are

-- ---- every world that steps lead to

-- what one subscriber and its queue do
each_served : (w : WorldState) → AreQueued w → (i : ℕ) (s : Subscription) → numbered w.subscriptions i ≡ Some s
    → EachMove w s (λ s'. AreQueued (with_subscription i s' w))
each_served w are i s found =
    let items : List Item = queue_in w s in
    let served : IsServed items s = are i s found in
    let so : (s' : Subscription) → IsQueued w s' → AreQueued (with_subscription i s' w) =
    λ s' is. AreQueued-with w i s' are is in
    record {
      sends = λ d there. so (with_delivery d s) (IsServed-sending items s served d there);
      rewinds = so (with_rewind s) (IsServed-rewound items s served);
      breaks = so (with_break s) (IsServed-broken items s served);
      takes = λ first there. so (with_taking first.0 first.1 s) (IsServed-taking items s served first there);
      acks = λ position there. so (with_ack position s) (IsServed-ack items s served position there);
      closes = so (with_close s) (IsServed-close items s served);
    }

-- so each step that is done keeps what holds of subscribers and queues
AreQueued-step : (w : WorldState) (s : Step) → AreQueued w → Leaves AreQueued (next w s)
AreQueued-step w s are =
    step_leaves AreQueued w (λ history held session packets. are)
    (λ packet. AreQueued-arrival w packet (is_taken w.accepted packet) are) (each_served w are) s

-- whatever is answered
AreQueued-next : Relates (Keeps AreQueued) Next
AreQueued-next w s answer w' is are =
    next_leaves AreQueued w s answer w' is are (λ saved tried is_saved. are) (AreQueued-step w s are)

-- so it is in each of them
pub AreQueued-reached : (w : WorldState) → IsReached w → AreQueued w
AreQueued-reached =
    reached_has AreQueued AreQueued-next (λ bindings window held start. AreQueued-new bindings window held)
