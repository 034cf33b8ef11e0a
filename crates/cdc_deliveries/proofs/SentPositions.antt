-- The queue of a subscriber sends positions from 1 on and leaves none out.
use Rattle.cdc_deliveries.proofs.Words.{Act, Arguments, Arriving, Bool, ClientBatch, Contains, Contains-append_left, Contains-append_right, Contains-push, Contains-push_cases, Cursor, Delivery, DeliveryStep, ItemName, List, None, Option, PlaysActs, Seen, Some, Stage, Step, StepError, Subscription, Taking, [], ap, arith, cases_lt, cons_option, delivery_step, delivery_steps, eq-eqb, false, filter_map-append, if◌then◌else◌, inl, inr, max, new_subscription, none_there, numbered, positions_sent, refl, sent_to, step_for, subscriber_of, subst, sym, with_close, with_delivery, with_taken, with_taking, ℕ, ◌++◌, ◌+◌, ◌<◌, ◌==◌, ◌∙◌, ◌∷◌, ◌≡◌, ◌≤◌}
use Rattle.std.proofs.lemmas.List.{append-nil}
use Rattle.cdc_deliveries.specs.declared.steps.DeliveryStep.TheVariants as delivery
use Rattle.cdc_deliveries.proofs.SubscriptionSteps.{Changes, IsQuiet, MovesCursor, quiet_arriving, with_recorded}
use Rattle.cdc_deliveries.proofs.TakenDeliveries.{its_own, own_taking}
use Rattle.cdc_deliveries.proofs.TakenPlays.{act_changes, act_refused, arriving_by}

-- the positions that were sent after a step, if one was recorded
abbrev with_position : ℕ → List ℕ → Option DeliveryStep → List ℕ
with_position i sent None = sent
with_position i sent (Some step) = sent ++ cons_option (sent_to i step) []

-- one step more that was seen
one_position : (i : ℕ) (sent : List ℕ) (recorded : Option DeliveryStep)
    → sent ++ positions_sent i (cons_option recorded []) ≡ with_position i sent recorded
one_position i sent None = append-nil sent
one_position i sent (Some step) = refl

positions_more : (i : ℕ) (seen : List Seen) (one : Seen)
    → positions_sent i (delivery_steps (seen ++ one ∷ []))
    ≡ with_position i (positions_sent i (delivery_steps seen)) (delivery_step one)
positions_more i seen one =
    ap (positions_sent i) (filter_map-append delivery_step seen (one ∷ []))
    ∙ filter_map-append (sent_to i) (delivery_steps seen) (cons_option (delivery_step one) [])
    ∙ one_position i (positions_sent i (delivery_steps seen)) (delivery_step one)

-- a step of another subscriber sends nothing to this one
sent_to_other : (i : ℕ) (step : DeliveryStep) → (subscriber_of step == i) ≡ false → sent_to i step ≡ None
sent_to_other i (delivery.Sent j position) other = ap (λ (b : Bool). if b then Some position else None) other
sent_to_other i (delivery.Lost j) other = refl
sent_to_other i (delivery.Taken j position item answer) other = refl

quiet_position : (i : ℕ) (recorded : Option DeliveryStep) → IsQuiet i recorded → (sent : List ℕ)
    → with_position i sent recorded ≡ sent
quiet_position i None quiet sent = refl
quiet_position i (Some step) quiet sent =
    ap (λ (to : Option ℕ). sent ++ cons_option to []) (sent_to_other i step quiet) ∙ append-nil sent

-- ---- what holds

-- the positions that were sent are those from 1 to the greatest one; the cursor, what is in flight and what the
-- subscriber acknowledged are no further
pub record IsInTurn (sent : List ℕ) (furthest : ℕ) (s : Subscription) : Type 0 where
  pub covers : (p : ℕ) → 0 < p → p ≤ furthest → Contains sent p
  pub within : (p : ℕ) → Contains sent p → (0 < p) × (p ≤ furthest)
  pub first : 0 < s.cursor.next
  pub next : s.cursor.next ≤ furthest + 1
  pub acked : s.cursor.acked ≤ furthest
  pub flight : (d : Delivery) → Contains s.flight d → d.position ≤ furthest
  pub acks : (p : ℕ) → Contains s.acks p → p ≤ furthest

-- before the first step
pub in_turn_new : (binding : Arguments) → IsInTurn [] 0 (new_subscription binding)
in_turn_new binding = record {
  covers = λ p above below. absurd (omega (arith, above, below));
  within = λ p there. absurd (none_there p there);
  first = omega arith;
  next = omega arith;
  acked = omega arith;
  flight = λ d there. absurd (none_there d there);
  acks = λ p there. absurd (none_there p there);
}

-- a subscription with this cursor and the same deliveries
moved_cursor : (sent : List ℕ) (furthest : ℕ) (s s' : Subscription) → IsInTurn sent furthest s
    → s'.flight ≡ s.flight → s'.acks ≡ s.acks → 0 < s'.cursor.next → s'.cursor.next ≤ furthest + 1
    → s'.cursor.acked ≤ furthest → IsInTurn sent furthest s'
moved_cursor sent furthest s s' is flight acks first next acked = record {
  covers = is.covers;
  within = is.within;
  first = first;
  next = next;
  acked = acked;
  flight = λ d there. is.flight d (subst (λ (ds : List Delivery). Contains ds d) flight there);
  acks = λ p there. is.acks p (subst (λ (ps : List ℕ). Contains ps p) acks there);
}

-- the cursor moves
stays_in_turn : (sent : List ℕ) (furthest : ℕ) (s s' : Subscription) → IsInTurn sent furthest s
    → s'.flight ≡ s.flight → s'.acks ≡ s.acks → MovesCursor s s'.cursor → IsInTurn sent furthest s'
stays_in_turn sent furthest s s' is flight acks (inl same) =
    let next : s'.cursor.next ≡ s.cursor.next = ap (λ (c : Cursor). c.next) same in
    let acked : s'.cursor.acked ≡ s.cursor.acked = ap (λ (c : Cursor). c.acked) same in
    moved_cursor sent furthest s s' is flight acks (omega (arith, next, is.first)) (omega (arith, next, is.next))
    (omega (arith, acked, is.acked))
stays_in_turn sent furthest s s' is flight acks (inr (inl back)) =
    let next : s'.cursor.next ≡ s.cursor.acked + 1 = ap (λ (c : Cursor). c.next) back in
    let acked : s'.cursor.acked ≡ s.cursor.acked = ap (λ (c : Cursor). c.acked) back in
    moved_cursor sent furthest s s' is flight acks (omega (arith, next)) (omega (arith, next, is.acked))
    (omega (arith, acked, is.acked))
stays_in_turn sent furthest s s' is flight acks (inr (inr on)) =
    let p : ℕ = on.0 in
    let low : p ≤ furthest = is.acks p on.1.0 in
    let next : s'.cursor.next ≡ max s.cursor.next (max s.cursor.acked p + 1) =
    ap (λ (c : Cursor). c.next) on.1.1 in
    let acked : s'.cursor.acked ≡ max s.cursor.acked p = ap (λ (c : Cursor). c.acked) on.1.1 in
    moved_cursor sent furthest s s' is flight acks (omega (arith, next, is.first))
    (omega (arith, next, is.next, is.acked, low)) (omega (arith, acked, is.acked, low))

-- the next position is sent
sends_in_turn : (sent : List ℕ) (furthest : ℕ) (s : Subscription) (d : Delivery) → IsInTurn sent furthest s
    → d.position ≡ s.cursor.next
    → IsInTurn (sent ++ d.position ∷ []) (max furthest d.position) (with_delivery d s)
sends_in_turn sent furthest s d is at = record {
  covers = λ p above below.
      elim (cases_lt furthest p) [
        | inl new ↦
            let same : d.position ≡ p = omega (arith, new, below, at, is.next) in
            subst (λ (q : ℕ). Contains (sent ++ d.position ∷ []) q) same (Contains-push sent d.position)
        | inr old ↦ Contains-append_left sent (d.position ∷ []) p (is.covers p above old)
      ];
  within = λ p there.
      elim (Contains-push_cases sent d.position p there) [
        | inl old ↦
            let w = is.within p old in (w.0, omega (arith, w.1))
        | inr same ↦ (omega (arith, same, at, is.first), omega (arith, same))
      ];
  first = omega arith;
  next = omega (arith, at);
  acked = omega (arith, is.acked);
  flight = λ e there.
      elim (Contains-push_cases s.flight d e there) [
        | inl old ↦ omega (arith, is.flight e old)
        | inr same ↦
            let p : d.position ≡ e.position = ap (λ (x : Delivery). x.position) same in omega (arith, p)
      ];
  acks = λ p there. omega (arith, is.acks p there);
}

-- the first delivery is taken
takes_in_turn : (sent : List ℕ) (furthest : ℕ) (s : Subscription) (d : Delivery) (rest : List Delivery)
    → IsInTurn sent furthest s → s.flight ≡ d ∷ rest → IsInTurn sent furthest (with_taking d rest s)
takes_in_turn sent furthest s d rest is flight =
    let low : (e : Delivery) → Contains (d ∷ rest) e → e.position ≤ furthest = λ e there.
    is.flight e (subst (λ (ds : List Delivery). Contains ds e) (sym flight) there) in
    record {
      covers = is.covers;
      within = is.within;
      first = is.first;
      next = is.next;
      acked = is.acked;
      flight = λ e there. low e (Contains-append_right (d ∷ []) rest e there);
      acks = λ p there.
          elim (Contains-push_cases s.acks d.position p there) [
            | inl old ↦ is.acks p old
            | inr same ↦
                let here : d.position ≤ furthest = low d (0, omega arith, refl) in omega (arith, here, same)
          ];
    }

-- ---- one step

-- a taking leaves the greatest position
furthest_taken : (arriving : Arriving) (flight : List Bool) (position : ℕ) (name : ItemName) (answer : Taking)
    → (with_taken arriving flight position name answer).furthest ≡ arriving.furthest
furthest_taken arriving [] position name answer = refl
furthest_taken arriving (redelivered ∷ flight) position name answer = refl

in_turn_on : (i : ℕ) (step : Step) (recorded : Option DeliveryStep) (sent : List ℕ) (arriving : Arriving)
    (s s' : Subscription) → IsInTurn sent arriving.furthest s → Changes i step recorded s s'
    → IsInTurn (with_position i sent recorded) (with_recorded i arriving recorded).furthest s'
in_turn_on i step recorded sent arriving s s' is (inl stays) =
    rw (quiet_position i recorded stays.quiet sent, quiet_arriving i recorded stays.quiet arriving)
    (stays_in_turn sent arriving.furthest s s' is stays.flight stays.acks stays.cursor)
in_turn_on i step recorded sent arriving s s' is (inr (inl closes)) =
    rw (quiet_position i recorded closes.quiet sent, quiet_arriving i recorded closes.quiet arriving)
    (subst (IsInTurn sent arriving.furthest) (sym closes.after)
    (moved_cursor sent arriving.furthest s (with_close s) is refl refl is.first is.next is.acked))
in_turn_on i step recorded sent arriving s s' is (inr (inr (inl sends))) =
    let p = sends.sent.position in
    let eq = eq-eqb i i refl in
    let positions : with_position i sent recorded ≡ sent ++ p ∷ [] =
    ap (with_position i sent) sends.records
    ∙ ap (λ (b : Bool). sent ++ cons_option (if b then Some p else None) []) eq in
    let further : (with_recorded i arriving recorded).furthest ≡ max arriving.furthest p =
    ap (λ (r : Option DeliveryStep). (with_recorded i arriving r).furthest) sends.records
    ∙ ap (λ (a : Arriving). a.furthest) (its_own i arriving (delivery.Sent i p) refl) in
    rw (positions, further) (subst (IsInTurn (sent ++ p ∷ []) (max arriving.furthest p)) (sym sends.after)
    (sends_in_turn sent arriving.furthest s sends.sent is sends.next))
in_turn_on i step recorded sent arriving s s' is (inr (inr (inr (inl breaks)))) =
    let positions : with_position i sent recorded ≡ sent =
    ap (with_position i sent) breaks.records ∙ append-nil sent in
    let further : (with_recorded i arriving recorded).furthest ≡ arriving.furthest =
    ap (λ (r : Option DeliveryStep). (with_recorded i arriving r).furthest) breaks.records
    ∙ ap (λ (a : Arriving). a.furthest) (its_own i arriving (delivery.Lost i) refl) in
    rw (positions, further) (subst (IsInTurn sent arriving.furthest) (sym breaks.after) (record {
      covers = is.covers;
      within = is.within;
      first = omega arith;
      next = omega (arith, is.acked);
      acked = is.acked;
      flight = λ d there. absurd (none_there d there);
      acks = is.acks;
    }))
in_turn_on i step recorded sent arriving s s' is (inr (inr (inr (inr takes)))) =
    let positions : with_position i sent recorded ≡ sent =
    ap (with_position i sent) takes.records ∙ append-nil sent in
    let further : (with_recorded i arriving recorded).furthest ≡ arriving.furthest =
    ap (λ (a : Arriving). a.furthest) (own_taking i step recorded arriving s s' takes)
    ∙ furthest_taken arriving arriving.flight _ _ _ in
    rw (positions, further) (subst (IsInTurn sent arriving.furthest) (sym takes.after)
    (takes_in_turn sent arriving.furthest s takes.first takes.rest is takes.flight))

-- ---- a play

-- the positions that were sent, of steps that were seen
abbrev pub InTurnAt : ℕ → Stage → Subscription → Type 0
InTurnAt i stage s =
    IsInTurn (positions_sent i (delivery_steps stage.seen)) (arriving_by i stage.seen).furthest s

pub plays_in_turn : (i : ℕ) (batches : List ClientBatch) (before : Stage) (acts : List Act) (refusal : Option StepError)
    (end : Stage) (s : Subscription) → PlaysActs batches before acts refusal end
    → numbered before.world.subscriptions i ≡ Some s → InTurnAt i before s
    → (now : Subscription) × InTurnAt i end now
plays_in_turn i batches before [] None end s plays found is =
    (s, subst (λ (x : Stage). InTurnAt i x s) (sym plays) is)
plays_in_turn i batches before [] (Some why) end s plays found is = absurd plays
plays_in_turn i batches before (a ∷ acts) refusal end s (inl refused) found is =
    let same = act_refused before (step_for batches before.batches a) refused.0 end refused.1.1 in (
      s,
      subst (λ (seen : List Seen). IsInTurn (positions_sent i (delivery_steps seen)) (arriving_by i seen).furthest s)
          (sym same.seen) is,
    )
plays_in_turn i batches before (a ∷ acts) refusal end s (inr on) found is =
    let between : Stage = on.0 in
    let does = act_changes i (step_for batches before.batches a) s before between found on.1.0 in
    let sent = positions_sent i (delivery_steps before.seen) in
    let after = in_turn_on i does.step (delivery_step does.one) sent (arriving_by i before.seen) s does.next is
    does.changes in
    let positions = ap (λ (seen : List Seen). positions_sent i (delivery_steps seen)) does.seen
    ∙ positions_more i before.seen does.one in
    plays_in_turn i batches between acts refusal end does.next on.1.1 does.here
    (rw (positions, does.arrives) after)
