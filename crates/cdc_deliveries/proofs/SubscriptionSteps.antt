-- What a step that is done makes of one subscription, and which step of deliveries is recorded of it.
use Rattle.cdc_deliveries.proofs.Words.{Ack, Answer, Arrive, Arriving, Bool, Break, Close, CloseLedger, Contains, Contains_numbered, Crash, Cursor, Delivery, DeliveryStep, Err, Item, List, Next, None, Ok, Option, Outcome, Poll, Publish, Result, Rewind, Save, Send, Some, Start, StartAt, Step, Submit, Subscription, Take, WorldState, [], after_ack, answer_to, ap, arith, cases_Bool, delivery_sent, delivery_taken, eqb-false, eqb-true, false, first_flight, first_taken, if◌then◌else◌, inl, inr, item_name, kept_of, last_sent, length, length-append, moved, next, next_delivery, numbered, numbered_from, numbered_parts, option_and_then, option_map, option_or, queue_in, refl, rewound, slice_get-behind, slice_set, step_of, subscriber_of, subst, suc, sym, true, with_ack, with_arrival, with_batch, with_break, with_close, with_delivery, with_numbered, with_own, with_rewind, with_session, with_start, with_step, with_subscription, with_taking, zero, ℕ, ◌++◌, ◌-◌, ◌==◌, ◌>>=◌, ◌∙◌, ◌∷◌, ◌≡◌, ◌⊎◌}
use Rattle.std.specs.Prelude.{slice_get}
use Rattle.cdc_world.specs.Packets.{is_taken}
use Rattle.cdc_ledger.specs.History.{History}
use Rattle.cdc_ledger.specs.Submit.{submit}
use Rattle.cdc_ledger.specs.declared.errors.BatchError.{BatchError}
use Rattle.cdc_message.specs.declared.packets.Packet.{Packet}
use Rattle.cdc_progress.specs.Records.{Saved}
use Rattle.cdc_world.specs.Courses.{Course, begun, next_packet, next_poll}
use Rattle.cdc_world.specs.StartError.{StartError}
use Rattle.cdc_types.specs.declared.batches.Batch.{Batch}
use Rattle.cdc_types.specs.declared.batches.BatchResults.{BatchResults}
use Rattle.cdc_world.specs.declared.steps.Did.{Did}
use Rattle.cdc_world.specs.declared.steps.Did.TheVariants.{Counted, Done, Took}
use Rattle.cdc_deliveries.specs.declared.steps.DeliveryStep.TheVariants as delivery

-- ---- what happens to a subscription

-- what has arrived after a step of deliveries, if one was recorded
abbrev pub with_recorded : ℕ → Arriving → Option DeliveryStep → Arriving
with_recorded i before None = before
with_recorded i before (Some step) = with_step i before step

-- nothing is recorded, or a step of another subscriber
abbrev pub IsQuiet : ℕ → Option DeliveryStep → Type 0
IsQuiet i None = Unit {0}
IsQuiet i (Some step) = (subscriber_of step == i) ≡ false

-- the cursor of a queue stays, rewinds, or moves by an acknowledgement that the subscriber gave
abbrev pub MovesCursor : Subscription → Cursor → Type 0
MovesCursor s cursor =
    (cursor ≡ s.cursor) ⊎ ((cursor ≡ rewound s.cursor)
    ⊎ ((position : ℕ) × (Contains s.acks position × (cursor ≡ after_ack position s.cursor))))

-- nothing that is taken or on its way changes, and nothing is recorded of this subscriber
pub record Stays (i : ℕ) (recorded : Option DeliveryStep) (s s' : Subscription) : Type 0 where
  pub binding : s'.binding ≡ s.binding
  pub taken : s'.taken ≡ s.taken
  pub flight : s'.flight ≡ s.flight
  pub reception : s'.reception ≡ s.reception
  pub acks : s'.acks ≡ s.acks
  pub cursor : MovesCursor s s'.cursor
  pub quiet : IsQuiet i recorded

-- the subscriber closes
pub record Closes (i : ℕ) (step : Step) (recorded : Option DeliveryStep) (s s' : Subscription) : Type 0 where
  pub closing : step ≡ Close i
  pub after : s' ≡ with_close s
  pub quiet : IsQuiet i recorded

-- its queue sends a delivery
pub record Sends (i : ℕ) (recorded : Option DeliveryStep) (s s' : Subscription) : Type 0 where
  pub sent : Delivery
  pub next : sent.position ≡ s.cursor.next
  pub after : s' ≡ with_delivery sent s
  pub records : recorded ≡ Some (delivery.Sent i sent.position)

-- what is on its way is lost
pub record Breaks (i : ℕ) (recorded : Option DeliveryStep) (s s' : Subscription) : Type 0 where
  pub after : s' ≡ with_break s
  pub records : recorded ≡ Some (delivery.Lost i)

-- it takes the first delivery on its way
pub record Takes (i : ℕ) (recorded : Option DeliveryStep) (s s' : Subscription) : Type 0 where
  pub first : Delivery
  pub rest : List Delivery
  pub flight : s.flight ≡ first ∷ rest
  pub after : s' ≡ with_taking first rest s
  pub records : recorded
      ≡ Some (delivery.Taken i first.position (item_name first.item) (answer_to (kept_of s.reception) first.item))

-- one of these
abbrev pub Changes : ℕ → Step → Option DeliveryStep → Subscription → Subscription → Type 0
Changes i step recorded s s' =
    Stays i recorded s s' ⊎ (Closes i step recorded s s' ⊎ (Sends i recorded s s'
    ⊎ (Breaks i recorded s s' ⊎ Takes i recorded s s')))

-- ---- elements by their numbers

-- the element that was put at a place
get_put : {X : Type 0} (xs : List X) (k : ℕ) (x y : X) → slice_get xs k ≡ Some x
    → slice_get (slice_set xs k y) k ≡ Some y
get_put [] k x y found = cc
get_put (z ∷ xs) zero x y found = refl
get_put (z ∷ xs) (suc k) x y found = get_put xs k x y found

-- one at another place
get_other : {X : Type 0} (xs : List X) (k j : ℕ) (y : X) → (k ≡ j → ⊥)
    → slice_get (slice_set xs k y) j ≡ slice_get xs j
get_other [] k j y apart = refl
get_other (z ∷ xs) zero zero y apart = absurd (apart refl)
get_other (z ∷ xs) zero (suc j) y apart = refl
get_other (z ∷ xs) (suc k) zero y apart = refl
get_other (z ∷ xs) (suc k) (suc j) y apart = get_other xs k j y (λ same. apart (ap suc same))

-- the subscription that was put under a number
numbered_put : {X : Type 0} (xs : List X) (i : ℕ) (x y : X) → numbered xs i ≡ Some x
    → numbered (with_numbered i y xs) i ≡ Some y
numbered_put xs i x y found =
    let at = numbered_parts xs i x found in
    numbered_from (with_numbered i y xs) i y at.0 (get_put xs (i - 1) x y at.1)

-- one under another number
numbered_other : {X : Type 0} (xs : List X) (i j : ℕ) (x y z : X) → numbered xs i ≡ Some x → numbered xs j ≡ Some z
    → (j == i) ≡ false → numbered (with_numbered j y xs) i ≡ Some x
numbered_other xs i j x y z found there apart =
    let at = numbered_parts xs i x found in
    let by = numbered_parts xs j z there in
    let other : j - 1 ≡ i - 1 → ⊥ = λ same. eqb-false j i apart (omega (arith, at.0, by.0, same)) in
    numbered_from (with_numbered j y xs) i x at.0 (get_other xs (j - 1) (i - 1) y other ∙ at.1)

-- ---- a step that is done

-- this holds of the answer to a step and of the world after it, if the step is done
abbrev Holds : (Did → WorldState → Type 0) → Outcome → Type 0
Holds P (Ok after) = P after.0 after.1
Holds P (Err why) = Unit {0}

holds_so : (P : Did → WorldState → Type 0) (outcome : Outcome) (did : Did) (w : WorldState) → Holds P outcome
    → outcome ≡ Ok (did, w) → P did w
holds_so P (Ok after) did w holds is =
    let same : after ≡ (did, w) = cc in subst (λ (x : Did × WorldState). P x.0 x.1) same holds
holds_so P (Err why) did w holds is = cc

-- a step for which there is nothing isn't done
holds_on : {A : Type 0} (P : Did → WorldState → Type 0) (o : Option A) (rest : A → Outcome)
    → ((x : A) → o ≡ Some x → Holds P (rest x)) → Holds P (o >>= rest)
holds_on P (Some x) rest further = further x refl
holds_on P None rest further = tt

-- ---- what is recorded

-- a step of another subscriber counts for nothing
pub quiet_arriving : (i : ℕ) (recorded : Option DeliveryStep) → IsQuiet i recorded → (arriving : Arriving)
    → with_recorded i arriving recorded ≡ arriving
quiet_arriving i None quiet arriving = refl
quiet_arriving i (Some step) other arriving =
    ap (λ (b : Bool). if b then with_own arriving step else arriving) other

-- the last delivery on its way is the one that was sent
last_there : (flight : List Delivery) (d : Delivery)
    → slice_get (flight ++ d ∷ []) (length (flight ++ d ∷ []) - 1) ≡ Some d
last_there flight d =
    let last : length (flight ++ d ∷ []) - 1 ≡ length flight =
    omega (arith, length-append flight (d ∷ [])) in
    let none : length flight - length flight ≡ 0 = omega arith in
    ap (slice_get (flight ++ d ∷ [])) last
    ∙ slice_get-behind flight (d ∷ []) (length flight) (omega arith)
    ∙ ap (slice_get (d ∷ [])) none

-- so it is recorded
records_sent : (w w' : WorldState) (j : ℕ) (did : Did) (s : Subscription) (d : Delivery)
    → numbered w'.subscriptions j ≡ Some (with_delivery d s)
    → step_of (Send j) did (moved w (Send j) did w') ≡ Some (delivery.Sent j d.position)
records_sent w w' j did s d there =
    ap (λ (found : Option Subscription). step_of (Send j) did (option_or None (option_and_then last_sent found))) there
    ∙ ap (λ (last : Option Delivery). step_of (Send j) did (option_map delivery_sent last)) (last_there s.flight d)

-- the first delivery on its way is the one that is taken
records_taken : (w w' : WorldState) (j : ℕ) (s : Subscription) (answer : Did) (d : Delivery) (rest : List Delivery)
    → numbered w.subscriptions j ≡ Some s → s.flight ≡ d ∷ rest
    → moved w (Take j) answer w' ≡ Some (delivery_taken d)
records_taken w w' j s answer d rest there flight =
    ap (λ (found : Option Subscription). option_or (option_and_then first_taken found) None) there
    ∙ ap (λ (ds : List Delivery). option_or (option_map delivery_taken (slice_get ds 0)) None) flight

-- the delivery at a cursor has its position
at_cursor : (cursor : Cursor) (found : Option Item) (d : Delivery)
    → option_map (λ (item : Item). record { position = cursor.next; item = item }) found ≡ Some d
    → d.position ≡ cursor.next
at_cursor cursor None d is = cc
at_cursor cursor (Some item) d is =
    let same : ◌≡◌ {A = Delivery} (record { position = cursor.next; item = item }) d = cc in
    ap (λ (x : Delivery). x.position) (sym same)

-- all deliveries on their way are the first one and those after it
in_flight : (flight : List Delivery) (first : Delivery × List Delivery) → first_flight flight ≡ Some first
    → flight ≡ first.0 ∷ first.1
in_flight [] first found = cc
in_flight (d ∷ rest) first found =
    let is : ◌≡◌ {A = Delivery × List Delivery} (d, rest) first = cc in
    ap (λ (x : Delivery × List Delivery). x.0 ∷ x.1) is

-- ---- all steps

module _ (w : WorldState) (i : ℕ) (s : Subscription) (found : numbered w.subscriptions i ≡ Some s) where
  -- a step changes the subscription like this
  pub record ChangesBy (step : Step) (did : Did) (w' : WorldState) : Type 0 where
    pub next : Subscription
    pub here : numbered w'.subscriptions i ≡ Some next
    pub changes : Changes i step (step_of step did (moved w step did w')) s next

  -- it stays where it is
  same : (step : Step) (did : Did) (w' : WorldState) → numbered w'.subscriptions i ≡ Some s
      → IsQuiet i (step_of step did (moved w step did w'))
      → ChangesBy step did w'
  same step did w' there quiet = record {
    next = s;
    here = there;
    changes = inl (record {
      binding = refl;
      taken = refl;
      flight = refl;
      reception = refl;
      acks = refl;
      cursor = inl refl;
      quiet = quiet;
    });
  }

  -- a batch, taken or refused
  batch_changes : (batch : Batch) (answer : Result (BatchResults × History) BatchError)
      → Holds (ChangesBy (Submit batch)) (with_batch w answer)
  batch_changes batch (Ok answered) = same (Submit batch) _ _ found tt
  batch_changes batch (Err why) = tt

  -- a session that starts, if it may
  start_changes : (answer : Result Saved StartError) → Holds (ChangesBy Start) (with_session w answer)
  start_changes (Ok saved) = same Start _ _ found tt
  start_changes (Err why) = tt

  begun_changes : (session : Option Course) → Holds (ChangesBy Start) (with_start w None session)
  begun_changes None = start_changes (begun w.held None)
  begun_changes (Some course) = tt

  -- after a timestamp
  start_at_changes : (time : ℕ) (answer : Result Saved StartError)
      → Holds (ChangesBy (StartAt time)) (with_session w answer)
  start_at_changes time (Ok saved) = same (StartAt time) _ _ found tt
  start_at_changes time (Err why) = tt

  begun_at_changes : (time : ℕ) (session : Option Course)
      → Holds (ChangesBy (StartAt time)) (with_start w (Some time) session)
  begun_at_changes time None = start_at_changes time (begun w.held (Some time))
  begun_at_changes time (Some course) = tt

  -- a packet that comes to the broker
  packet_changes : (k : ℕ) (did : Did) (packet : Packet) (taken : Bool)
      → ChangesBy (Arrive k) did (with_arrival w packet taken)
  packet_changes k did packet true = same (Arrive k) did _ found tt
  packet_changes k did packet false = same (Arrive k) did _ found tt

  -- another subscription changes
  other_changes : (step : Step) (did : Did) (j : ℕ) (t t' : Subscription) → numbered w.subscriptions j ≡ Some t
      → (j == i) ≡ false
      → IsQuiet i (step_of step did (moved w step did (with_subscription j t' w)))
      → ChangesBy step did (with_subscription j t' w)
  other_changes step did j t t' there apart quiet =
      same step did (with_subscription j t' w) (numbered_other w.subscriptions i j s t' t found there apart) quiet

  -- the subscription is the one of the number
  its : (j : ℕ) (t : Subscription) → numbered w.subscriptions j ≡ Some t → j ≡ i → t ≡ s
  its j t there is =
      let both : Some t ≡ Some s = sym there ∙ ap (numbered w.subscriptions) is ∙ found in cc

  -- it changes
  own_changes : (step : Step) (did : Did) (j : ℕ) (s' : Subscription) → j ≡ i
      → Changes i step (step_of step did (moved w step did (with_subscription j s' w))) s s'
      → ChangesBy step did (with_subscription j s' w)
  own_changes step did j s' is changes = record {
    next = s';
    here = subst (λ (n : ℕ). numbered (with_numbered n s' w.subscriptions) i ≡ Some s') (sym is)
        (numbered_put w.subscriptions i s s' found);
    changes = changes;
  }

  -- a queue sends
  send_changes : (j : ℕ) (t : Subscription) → numbered w.subscriptions j ≡ Some t → (d : Delivery)
      → next_delivery w t ≡ Some d → ChangesBy (Send j) Done (with_subscription j (with_delivery d t) w)
  send_changes j t there d is_next =
      let recorded = records_sent w (with_subscription j (with_delivery d t) w) j Done t d
      (numbered_put w.subscriptions j t (with_delivery d t) there) in
      elim (cases_Bool (j == i)) [
        | inl is ↦
            let e : j ≡ i = eqb-true j i is in
            own_changes (Send j) Done j (with_delivery d t) e (inr (inr (inl (record {
              sent = d;
              next = at_cursor t.cursor (slice_get (queue_in w t) (t.cursor.next - 1)) d is_next
                  ∙ ap (λ (x : Subscription). x.cursor.next) (its j t there e);
              after = ap (with_delivery d) (its j t there e);
              records = recorded ∙ ap (λ (n : ℕ). Some (delivery.Sent n d.position)) e;
            }))))
        | inr not ↦
            other_changes (Send j) Done j t (with_delivery d t) there not
            (subst (IsQuiet i) (sym recorded) not)
      ]

  -- nothing is sent, lost or taken
  quiet_changes : (step : Step) (did : Did) (j : ℕ) (t t' : Subscription) → numbered w.subscriptions j ≡ Some t
      → t'.binding ≡ t.binding → t'.taken ≡ t.taken → t'.flight ≡ t.flight → t'.reception ≡ t.reception
      → t'.acks ≡ t.acks → MovesCursor t t'.cursor
      → IsQuiet i (step_of step did (moved w step did (with_subscription j t' w)))
      → ChangesBy step did (with_subscription j t' w)
  quiet_changes step did j t t' there binding taken flight reception acks cursor quiet =
      elim (cases_Bool (j == i)) [
        | inl is ↦
            let e : j ≡ i = eqb-true j i is in
            let one : t ≡ s = its j t there e in
            own_changes step did j t' e (inl (record {
              binding = binding ∙ ap (λ (x : Subscription). x.binding) one;
              taken = taken ∙ ap (λ (x : Subscription). x.taken) one;
              flight = flight ∙ ap (λ (x : Subscription). x.flight) one;
              reception = reception ∙ ap (λ (x : Subscription). x.reception) one;
              acks = acks ∙ ap (λ (x : Subscription). x.acks) one;
              cursor = subst (λ (x : Subscription). MovesCursor x t'.cursor) one cursor;
              quiet = quiet;
            }))
        | inr not ↦ other_changes step did j t t' there not quiet
      ]

  -- what is on its way is lost
  break_changes : (j : ℕ) (t : Subscription) → numbered w.subscriptions j ≡ Some t
      → ChangesBy (Break j) Done (with_subscription j (with_break t) w)
  break_changes j t there =
      elim (cases_Bool (j == i)) [
        | inl is ↦
            let e : j ≡ i = eqb-true j i is in
            own_changes (Break j) Done j (with_break t) e (inr (inr (inr (inl (record {
              after = ap with_break (its j t there e);
              records = ap (λ (n : ℕ). Some (delivery.Lost n)) e;
            })))))
        | inr not ↦
            other_changes (Break j) Done j t (with_break t) there not not
      ]

  -- a subscriber takes the first delivery
  take_changes : (j : ℕ) (t : Subscription) → numbered w.subscriptions j ≡ Some t
      → (first : Delivery × List Delivery) → first_flight t.flight ≡ Some first
      → ChangesBy (Take j) (Took (answer_to (kept_of t.reception) first.0.item))
      (with_subscription j (with_taking first.0 first.1 t) w)
  take_changes j t there first is_first =
      let d : Delivery = first.0 in
      let answer = answer_to (kept_of t.reception) d.item in
      let after = with_subscription j (with_taking d first.1 t) w in
      let flight = in_flight t.flight first is_first in
      let recorded = ap (step_of (Take j) (Took answer))
      (records_taken w after j t (Took answer) d first.1 there flight) in
      elim (cases_Bool (j == i)) [
        | inl is ↦
            let e : j ≡ i = eqb-true j i is in
            let one : t ≡ s = its j t there e in
            own_changes (Take j) (Took answer) j (with_taking d first.1 t) e (inr (inr (inr (inr (record {
              first = d;
              rest = first.1;
              flight = ap (λ (x : Subscription). x.flight) (sym one) ∙ flight;
              after = ap (with_taking d first.1) one;
              records = recorded
                  ∙ ap (λ (n : ℕ). Some (delivery.Taken n d.position (item_name d.item) answer)) e
                  ∙ ap (λ (x : Subscription).
                  Some (delivery.Taken i d.position (item_name d.item) (answer_to (kept_of x.reception) d.item))) one;
            })))))
        | inr not ↦
            other_changes (Take j) (Took answer) j t (with_taking d first.1 t) there not
            (subst (IsQuiet i) (sym recorded) not)
      ]

  -- a subscriber closes
  close_changes : (j : ℕ) (t : Subscription) → numbered w.subscriptions j ≡ Some t
      → ChangesBy (Close j) Done (with_subscription j (with_close t) w)
  close_changes j t there =
      elim (cases_Bool (j == i)) [
        | inl is ↦
            let e : j ≡ i = eqb-true j i is in
            own_changes (Close j) Done j (with_close t) e (inr (inl (record {
              closing = ap Close e;
              after = ap with_close (its j t there e);
              quiet = tt;
            })))
        | inr not ↦ other_changes (Close j) Done j t (with_close t) there not tt
      ]

  -- so whichever step is done
  step_changes : (step : Step) → Holds (ChangesBy step) (next w step)
  step_changes (Submit batch) = batch_changes batch (submit w.history batch)
  step_changes CloseLedger = same CloseLedger _ _ found tt
  step_changes Start = begun_changes w.session
  step_changes (StartAt time) = begun_at_changes time w.session
  step_changes Crash =
      holds_on (ChangesBy Crash) w.session _ (λ course is. same Crash _ _ found tt)
  step_changes Poll =
      holds_on (ChangesBy Poll) w.session _ (λ course is.
      holds_on (ChangesBy Poll) (next_poll course) _ (λ poll wants. same Poll _ _ found tt))
  step_changes Publish =
      holds_on (ChangesBy Publish) w.session _ (λ course is.
      holds_on (ChangesBy Publish) (next_packet course) _ (λ packet sends.
      same Publish _ _ found tt))
  step_changes (Arrive k) =
      holds_on (ChangesBy (Arrive k)) (numbered w.packets k) _ (λ packet is.
      packet_changes k _ packet (is_taken w.accepted packet))
  step_changes (Answer k) =
      holds_on (ChangesBy (Answer k)) w.session _ (λ course is.
      holds_on (ChangesBy (Answer k)) (numbered w.confirms k) _ (λ confirm came.
      same (Answer k) _ _ found tt))
  step_changes Save =
      holds_on (ChangesBy Save) w.session _ (λ course is. same Save _ _ found tt)
  step_changes (Send j) =
      holds_on (ChangesBy (Send j)) (numbered w.subscriptions j) _ (λ t there.
      holds_on (ChangesBy (Send j)) (next_delivery w t) _ (λ d is. send_changes j t there d is))
  step_changes (Rewind j) =
      holds_on (ChangesBy (Rewind j)) (numbered w.subscriptions j) _ (λ t there.
      quiet_changes (Rewind j) Done j t (with_rewind t) there refl refl refl refl refl (inr (inl refl))
      tt)
  step_changes (Break j) =
      holds_on (ChangesBy (Break j)) (numbered w.subscriptions j) _ (λ t there. break_changes j t there)
  step_changes (Take j) =
      holds_on (ChangesBy (Take j)) (numbered w.subscriptions j) _ (λ t there.
      holds_on (ChangesBy (Take j)) (first_flight t.flight) _ (λ first is. take_changes j t there first is))
  step_changes (Ack j k) =
      holds_on (ChangesBy (Ack j k)) (numbered w.subscriptions j) _ (λ t there.
      holds_on (ChangesBy (Ack j k)) (numbered t.acks k) _ (λ position is.
      quiet_changes (Ack j k) (Counted true) j t (with_ack position t) there refl refl refl refl refl
      (inr (inr (position, (Contains_numbered t.acks k position is, refl)))) tt))
  step_changes (Close j) =
      holds_on (ChangesBy (Close j)) (numbered w.subscriptions j) _ (λ t there. close_changes j t there)

  -- a step that is done changes the subscription so
  pub step_does : (step : Step) (did : Did) (w' : WorldState) → Next w step (Ok did) w' → ChangesBy step did w'
  step_does step did w' is = holds_so (ChangesBy step) (next w step) did w' (step_changes step) is
