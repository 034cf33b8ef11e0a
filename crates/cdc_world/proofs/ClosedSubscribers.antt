-- No step, and so no play, changes what a closed subscriber has received, or any binding.
use Rattle.cdc_world.proofs.Words.{Bool, Delivery, Did, Going, List, Moves, Next, NextOver, NextPast, Option, Packet, Parts, PlayFixesClosedBy, PlaysBy, Reception, Result, Risks, Some, Step, StepError, StepFixesClosed, Subscription, WorldState, [], ap, false, has_ended, if◌then◌else◌, inl, inr, is_taken, next, numbered, refl, same_Some, slice_get, slice_set, subst, suc, sym, true, with_ack, with_arrival, with_break, with_close, with_delivery, with_numbered, with_rewind, with_subscription, with_taking, zero, ℕ, ◌++◌, ◌-◌, ◌||◌, ◌∙◌, ◌∷◌, ◌≡◌, ◌⊎◌}
use Rattle.cdc_world.specs.Closed.{AllStay, Stays}
use Rattle.cdc_world.proofs.NumberedElements.{numbered_from, numbered_parts}
use Rattle.cdc_world.proofs.RelatedWorlds.{EachMove, Leaves, Relates, has_past, has_play, next_leaves, step_leaves}

-- ---- a subscriber stays

-- one that a step doesn't touch stays
Stays-same : (s : Subscription) → Stays s s
Stays-same s = record { binding = refl; closed = λ shut. refl }

-- so does one that takes a delivery: once it is closed, it receives nothing of it
Stays-taking : (first : Delivery × List Delivery) (s : Subscription) → Stays s (with_taking first.0 first.1 s)
Stays-taking first s =
    let after : Bool → Reception = λ b.
    if b || has_ended s.reception then s.reception
    else record { items = s.reception.items ++ first.0.item ∷ []; closed = s.reception.closed } in
    record { binding = refl; closed = λ shut. ap after shut }

-- so does one that closes, perhaps once more
Stays-close : (s : Subscription) → Stays s (with_close s)
Stays-close s =
    record { binding = refl; closed = λ shut. ap (λ (b : Bool). record s.reception { closed = b }) (sym shut) }

-- ---- one subscriber is replaced

-- the element at a place after another element was put at a place
set_there : {X : Type 0} (xs : List X) (k j : ℕ) (y x t : X) → slice_get xs k ≡ Some x → slice_get xs j ≡ Some t
    → (z : X) × (slice_get (slice_set xs k y) j ≡ Some z) × ((z ≡ t) ⊎ ((x ≡ t) × (z ≡ y)))
set_there [] k j y x t at there = cc
set_there (a ∷ xs) zero zero y x t at there = (y, refl, inr (same_Some x t (sym at ∙ there), refl))
set_there (a ∷ xs) zero (suc j) y x t at there = (t, there, inl refl)
set_there (a ∷ xs) (suc k) zero y x t at there = (t, there, inl refl)
set_there (a ∷ xs) (suc k) (suc j) y x t at there = set_there xs k j y x t at there

-- if one subscriber changes and stays, all stay, since no other is touched
AllStay-with : (w : WorldState) (i : ℕ) (s s' : Subscription) → numbered w.subscriptions i ≡ Some s → Stays s s'
    → AllStay w (with_subscription i s' w)
AllStay-with w i s s' at stays j t found =
    let there = numbered_parts w.subscriptions j t found in
    let after =
    set_there w.subscriptions (i - 1) (j - 1) s' s t (numbered_parts w.subscriptions i s at).1 there.1 in
    let numbered_so : numbered (with_numbered i s' w.subscriptions) j ≡ Some after.0 =
    numbered_from (with_numbered i s' w.subscriptions) j after.0 there.0 after.1 in
    elim after.2 [
      | inl same ↦ (after.0, numbered_so, subst (Stays t) (sym same) (Stays-same t))
      | inr new ↦ (after.0, numbered_so, subst (λ x. Stays x after.0) new.0 (subst (Stays s) (sym new.1) stays))
    ]

-- so they do if only the ledger, the connector or the broker takes a step
AllStay-same : (w : WorldState) → AllStay w w
AllStay-same w i s found = (s, found, Stays-same s)

-- ---- each step

-- a packet that comes to the broker, taken or ignored
AllStay-arrival : (w : WorldState) (packet : Packet) (taken : Bool)
    → AllStay w (with_arrival w packet taken)
AllStay-arrival w packet true = AllStay-same w
AllStay-arrival w packet false = AllStay-same w

-- what one subscriber and its queue do
each_stays : (w : WorldState) (i : ℕ) (s : Subscription) → numbered w.subscriptions i ≡ Some s
    → EachMove w s (λ s'. AllStay w (with_subscription i s' w))
each_stays w i s found =
    let so : (s' : Subscription) → Stays s s' → AllStay w (with_subscription i s' w) =
    λ s' stays. AllStay-with w i s s' found stays in
    record {
      sends = λ d there. so (with_delivery d s) (record { binding = refl; closed = λ shut. refl });
      rewinds = so (with_rewind s) (record { binding = refl; closed = λ shut. refl });
      breaks = so (with_break s) (record { binding = refl; closed = λ shut. refl });
      takes = λ first there. so (with_taking first.0 first.1 s) (Stays-taking first s);
      acks = λ position there. so (with_ack position s) (record { binding = refl; closed = λ shut. refl });
      closes = so (with_close s) (Stays-close s);
    }

-- so all stay, whichever step is done
AllStay-step : (w : WorldState) (s : Step) → Leaves (AllStay w) (next w s)
AllStay-step w =
    step_leaves (AllStay w) w (λ history held session packets. AllStay-same w)
    (λ packet. AllStay-arrival w packet (is_taken w.accepted packet)) (each_stays w)

-- whatever is answered
pub AllStay-next : Relates AllStay Next
AllStay-next w s answer w' is =
    next_leaves (AllStay w) w s answer w' is (AllStay-same w) (λ saved tried is_saved. AllStay-same w)
    (AllStay-step w s)

-- ---- steps in a row

-- one that stays twice stays
Stays-trans : (a b c : Subscription) → Stays a b → Stays b c → Stays a c
Stays-trans a b c first second = record {
  binding = second.binding ∙ first.binding;
  closed = λ shut.
      let same : b.reception ≡ a.reception = first.closed shut in
      second.closed (ap (λ (reception : Reception). reception.closed) same ∙ shut) ∙ same;
}

-- and so do all
pub AllStay-trans : (w between w' : WorldState) → AllStay w between → AllStay between w' → AllStay w w'
AllStay-trans w between w' first second i before found =
    let b = first i before found in
    let c = second i b.0 b.1 in
    (c.0, c.1, Stays-trans before b.0 c.0 b.2 c.2)

-- so through a step that is tried again
pub AllStay-past : (risks : Risks) (tries : ℕ) → Relates AllStay (NextPast risks tries)
AllStay-past = has_past AllStay AllStay-same AllStay-trans AllStay-next

-- through one over a store of these risks
pub AllStay-over : (risks : Risks) → Relates AllStay (NextOver risks)
AllStay-over risks w step answer w' next = AllStay-next w step answer w' next.0

-- ---- what is kept

-- a step leaves what a closed subscriber has received
pub StepFixesClosed-moves : (p : Parts) (step : Step) (answer : Result Did StepError) (p' : Parts)
    → Moves p step answer p' → StepFixesClosed p step answer p'
StepFixesClosed-moves p step answer p' moves honest w st =
    let after = moves honest w st in
    (after.0, (after.1.0, (after.1.1.0, AllStay-over p.risks w step answer after.0 after.1.1)))

-- and so does a play
pub PlayFixesClosed-plays : (Goes : Going) → Relates AllStay Goes → (p : Parts) (steps : List Step) (done : ℕ)
    → (refusal : Option StepError) (p' : Parts) → PlaysBy Goes p steps done refusal p'
    → PlayFixesClosedBy Goes p steps done refusal p'
PlayFixesClosed-plays Goes stays p steps done refusal p' plays honest w st =
    let after = plays honest w st in (
      after.0,
      (
        after.1.0,
        (
          after.1.1,
          has_play AllStay AllStay-same AllStay-trans Goes stays w steps done refusal after.0 after.1.1,
        ),
      ),
    )
