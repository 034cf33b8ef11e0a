-- What has arrived at a subscriber, beside what its subscription took, step after step.
use Rattle.cdc_deliveries.proofs.Words.{AllZip, Arrival, Arriving, Bool, Close, Delivery, DeliveryStep, Item, ItemName, List, None, Option, Reception, Some, Step, Subscription, Taking, [], answer_to, ap, append_assoc, arith, eq-eqb, false, fold, fold_push, has_ended, if◌then◌else◌, inl, inr, is_closed, item_name, items_in, kept_of, length, length-append, map_push, nat_le, next_reception, nothing, received_answer, refl, subscriber_of, subst, sym, true, unwrap_or, with_break, with_delivery, with_own, with_step, with_taken, with_taking, ℕ, ◌++◌, ◌||◌, ◌∙◌, ◌∷◌, ◌≡◌, ◌⊎◌}
use Rattle.std.proofs.lemmas.List.{append-nil}
use Rattle.cdc_message.specs.declared.items.Item.TheVariants as item
use Rattle.cdc_subscriber.specs.declared.subscriber.Taking.TheVariants.{Applied, Repeat, AfterClose}
use Rattle.cdc_deliveries.specs.declared.steps.DeliveryStep.TheVariants as delivery
use Rattle.cdc_deliveries.proofs.SubscriptionSteps.{Breaks, Changes, Closes, Sends, Stays, Takes, quiet_arriving, with_recorded}

-- ---- what holds

-- an arrival has the position of a delivery and the name of its item
pub record IsNamed (arrival : Arrival) (d : Delivery) : Type 0 where
  pub position : arrival.position ≡ d.position
  pub item : arrival.item ≡ item_name d.item

-- of an open subscriber: as many deliveries are in flight here as there; what has arrived is what was taken; and that
-- is what it has received
pub record Follows (arriving : Arriving) (s : Subscription) : Type 0 where
  pub flight : length arriving.flight ≡ length s.flight
  pub arrived : AllZip IsNamed arriving.arrived s.taken
  pub received : s.reception ≡ fold next_reception nothing (items_in s.taken)

-- a subscription is a later state of another one: it may have taken more, but has received nothing more
pub record IsLater (s s' : Subscription) : Type 0 where
  pub binding : s'.binding ≡ s.binding
  pub reception : record s'.reception { closed = false } ≡ record s.reception { closed = false }
  pub late : List Delivery
  pub taken : s'.taken ≡ s.taken ++ late

-- each state is one of itself
pub IsLater-same : (s : Subscription) → IsLater s s
IsLater-same s = record { binding = refl; reception = refl; late = []; taken = sym (append-nil s.taken) }

-- and a later one of a later one is one
pub IsLater-trans : (a b c : Subscription) → IsLater a b → IsLater b c → IsLater a c
IsLater-trans a b c first second = record {
  binding = second.binding ∙ first.binding;
  reception = second.reception ∙ first.reception;
  late = first.late ++ second.late;
  taken = second.taken ∙ ap (λ (ds : List Delivery). ds ++ second.late) first.taken
      ∙ append_assoc a.taken first.late second.late;
}

-- ---- answers and receptions

-- the answer to an item that is received isn't that of a closed subscriber
open_answer : (last : ℕ) (item : Item) → is_closed (received_answer last item) ≡ false
open_answer last (item.Event e) = event_open (nat_le e.timestamp last)
  where
    event_open : (b : Bool) → is_closed (if b then Repeat else Applied) ≡ false
    event_open true = refl
    event_open false = refl
open_answer last item.EndMark = refl

-- only a closed subscriber answers so
closed_answer : (reception : Reception) (item : Item)
    → is_closed (answer_to (kept_of reception) item) ≡ reception.closed
closed_answer reception item = by_state reception.closed (has_ended reception)
  where
    by_state : (closed ended : Bool) → is_closed (unwrap_or
        (if closed then Some AfterClose else (if ended then Some Repeat else None))
        (received_answer (kept_of reception).last item)) ≡ closed
    by_state true ended = refl
    by_state false true = refl
    by_state false false = open_answer (kept_of reception).last item

-- an item that is received closes nothing
next_closed : (reception : Reception) (item : Item) → (next_reception reception item).closed ≡ reception.closed
next_closed reception item = by_state (reception.closed || has_ended reception)
  where
    by_state : (b : Bool) → (if b then reception
        else record { items = reception.items ++ item ∷ []; closed = reception.closed }).closed ≡ reception.closed
    by_state true = refl
    by_state false = refl

-- a closed subscriber receives nothing
next_when_closed : (reception : Reception) (item : Item) → reception.closed ≡ true
    → next_reception reception item ≡ reception
next_when_closed reception item shut =
    ap (λ (b : Bool). if b || has_ended reception then reception
    else record { items = reception.items ++ item ∷ []; closed = reception.closed }) shut

-- ---- what arrives

-- a step of this subscriber's deliveries counts
pub its_own : (i : ℕ) (arriving : Arriving) (step : DeliveryStep) → subscriber_of step ≡ i
    → with_step i arriving step ≡ with_own arriving step
its_own i arriving step its =
    ap (λ (b : Bool). if b then with_own arriving step else arriving) (eq-eqb (subscriber_of step) i its)

-- what a subscriber takes while it is closed doesn't arrive
closed_taken : (arriving : Arriving) (flight : List Bool) (position : ℕ) (name : ItemName) (answer : Taking)
    → is_closed answer ≡ true → (with_taken arriving flight position name answer).arrived ≡ arriving.arrived
closed_taken arriving [] position name answer shut = refl
closed_taken arriving (redelivered ∷ flight) position name answer shut =
    ap (λ (b : Bool). if b then arriving.arrived else arriving.arrived ++ record {
      position = position;
      redelivered = redelivered;
      item = name;
    } ∷ []) shut

-- one arrival more, and one delivery
named_push : (arrived : List Arrival) (ds : List Delivery) (arrival : Arrival) (d : Delivery)
    → AllZip IsNamed arrived ds → IsNamed arrival d → AllZip IsNamed (arrived ++ arrival ∷ []) (ds ++ d ∷ [])
named_push [] [] arrival d named one = (one, tt)
named_push [] (x ∷ ds) arrival d named one = absurd named
named_push (a ∷ arrived) [] arrival d named one = absurd named
named_push (a ∷ arrived) (x ∷ ds) arrival d (is, named) one = (is, named_push arrived ds arrival d named one)

-- what it takes while it is open arrives
open_taken : (arriving : Arriving) (flight : List Bool) (s : Subscription) (d : Delivery) (rest : List Delivery)
    (answer : Taking) → length flight ≡ length (d ∷ rest) → is_closed answer ≡ false
    → AllZip IsNamed arriving.arrived s.taken
    → s.reception ≡ fold next_reception nothing (items_in s.taken)
    → Follows (with_taken arriving flight d.position (item_name d.item) answer) (with_taking d rest s)
open_taken arriving [] s d rest answer same is_open arrived received = absurd (omega (arith, same))
open_taken arriving (redelivered ∷ flight) s d rest answer same is_open arrived received =
    let arrival : Arrival = record { position = d.position; redelivered = redelivered; item = item_name d.item } in
    let more : (if is_closed answer then arriving.arrived else arriving.arrived ++ arrival ∷ [])
    ≡ arriving.arrived ++ arrival ∷ [] =
    ap (λ (b : Bool). if b then arriving.arrived else arriving.arrived ++ arrival ∷ []) is_open in
    record {
      flight = omega (arith, same);
      arrived = subst (λ (others : List Arrival). AllZip IsNamed others (s.taken ++ d ∷ [])) (sym more)
          (named_push arriving.arrived s.taken arrival d arrived (record { position = refl; item = refl }));
      received = ap (λ (r : Reception). next_reception r d.item) received
          ∙ sym (fold_push next_reception nothing (items_in s.taken) d.item)
          ∙ ap (fold next_reception nothing) (sym (map_push (λ (x : Delivery). x.item) s.taken d));
    }

-- ---- an open subscriber

-- after a step an open subscriber is closed, and nothing has arrived; or it is open, and what has arrived is what it
-- took
abbrev pub GoesOn : ℕ → Step → Arriving → Arriving → Subscription → Subscription → Type 0
GoesOn i step before after s s' =
    ((step ≡ Close i) × (s'.reception.closed ≡ true) × IsLater s s' × (after.arrived ≡ before.arrived))
    ⊎ ((s'.reception.closed ≡ false) × (s'.binding ≡ s.binding) × Follows after s')

module _ (i : ℕ) (step : Step) (recorded : Option DeliveryStep) (arriving : Arriving) (s s' : Subscription) where
  -- nothing is sent or taken
  stays_on : s.reception.closed ≡ false → Follows arriving s → Stays i recorded s s'
      → GoesOn i step arriving (with_recorded i arriving recorded) s s'
  stays_on is_open follows stays = inr (
    ap (λ (r : Reception). r.closed) stays.reception ∙ is_open,
    stays.binding,
    subst (λ (a : Arriving). Follows a s') (sym (quiet_arriving i recorded stays.quiet arriving)) (record {
      flight = follows.flight ∙ ap length (sym stays.flight);
      arrived = subst (AllZip IsNamed arriving.arrived) (sym stays.taken) follows.arrived;
      received = stays.reception ∙ follows.received
          ∙ ap (λ (ds : List Delivery). fold next_reception nothing (items_in ds)) (sym stays.taken);
    }),
  )

  -- it closes
  closes_on : Closes i step recorded s s' → GoesOn i step arriving (with_recorded i arriving recorded) s s'
  closes_on closes = inl (
    closes.closing,
    ap (λ (x : Subscription). x.reception.closed) closes.after,
    subst (IsLater s) (sym closes.after)
        (record { binding = refl; reception = refl; late = []; taken = sym (append-nil s.taken) }),
    ap (λ (a : Arriving). a.arrived) (quiet_arriving i recorded closes.quiet arriving),
  )

  -- a delivery is sent
  sends_on : s.reception.closed ≡ false → Follows arriving s → Sends i recorded s s'
      → GoesOn i step arriving (with_recorded i arriving recorded) s s'
  sends_on is_open follows sends =
      let own : with_recorded i arriving recorded ≡ with_own arriving (delivery.Sent i sends.sent.position) =
      ap (with_recorded i arriving) sends.records
      ∙ its_own i arriving (delivery.Sent i sends.sent.position) refl in
      subst (λ (x : Subscription). GoesOn i step arriving (with_recorded i arriving recorded) s x) (sym sends.after)
      (subst (λ (a : Arriving). GoesOn i step arriving a s (with_delivery sends.sent s)) (sym own) (inr (
        is_open,
        refl,
        record {
          flight = omega (
            arith,
            follows.flight,
            length-append arriving.flight (nat_le sends.sent.position arriving.furthest ∷ []),
            length-append s.flight (sends.sent ∷ []),
          );
          arrived = follows.arrived;
          received = follows.received;
        },
      )))

  -- what is on its way is lost
  breaks_on : s.reception.closed ≡ false → Follows arriving s → Breaks i recorded s s'
      → GoesOn i step arriving (with_recorded i arriving recorded) s s'
  breaks_on is_open follows breaks =
      let own : with_recorded i arriving recorded ≡ with_own arriving (delivery.Lost i) =
      ap (with_recorded i arriving) breaks.records ∙ its_own i arriving (delivery.Lost i) refl in
      subst (λ (x : Subscription). GoesOn i step arriving (with_recorded i arriving recorded) s x) (sym breaks.after)
      (subst (λ (a : Arriving). GoesOn i step arriving a s (with_break s)) (sym own) (inr (
        is_open,
        refl,
        record { flight = refl; arrived = follows.arrived; received = follows.received },
      )))

  -- what is recorded of a taking
  pub own_taking : (takes : Takes i recorded s s') → with_recorded i arriving recorded
      ≡ with_taken arriving arriving.flight takes.first.position (item_name takes.first.item)
      (answer_to (kept_of s.reception) takes.first.item)
  own_taking takes =
      let taking = delivery.Taken i takes.first.position (item_name takes.first.item)
      (answer_to (kept_of s.reception) takes.first.item) in
      ap (with_recorded i arriving) takes.records ∙ its_own i arriving taking refl

  -- a delivery is taken
  takes_on : s.reception.closed ≡ false → Follows arriving s → Takes i recorded s s'
      → GoesOn i step arriving (with_recorded i arriving recorded) s s'
  takes_on is_open follows takes =
      let answer = answer_to (kept_of s.reception) takes.first.item in
      subst (λ (x : Subscription). GoesOn i step arriving (with_recorded i arriving recorded) s x) (sym takes.after)
      (subst (λ (a : Arriving). GoesOn i step arriving a s (with_taking takes.first takes.rest s))
      (sym (own_taking takes)) (inr (
        next_closed s.reception takes.first.item ∙ is_open,
        refl,
        open_taken arriving arriving.flight s takes.first takes.rest answer
            (follows.flight ∙ ap length takes.flight)
            (closed_answer s.reception takes.first.item ∙ is_open) follows.arrived follows.received,
      )))

  -- so whatever happens
  pub goes_on : s.reception.closed ≡ false → Follows arriving s → Changes i step recorded s s'
      → GoesOn i step arriving (with_recorded i arriving recorded) s s'
  goes_on is_open follows (inl stays) = stays_on is_open follows stays
  goes_on is_open follows (inr (inl closes)) = closes_on closes
  goes_on is_open follows (inr (inr (inl sends))) = sends_on is_open follows sends
  goes_on is_open follows (inr (inr (inr (inl breaks)))) = breaks_on is_open follows breaks
  goes_on is_open follows (inr (inr (inr (inr takes)))) = takes_on is_open follows takes

  -- ---- a closed subscriber

  -- it stays closed and receives nothing, and nothing arrives
  abbrev pub StaysClosed : Type 0
  StaysClosed = (s'.reception.closed ≡ true) × IsLater s s'
      × ((with_recorded i arriving recorded).arrived ≡ arriving.arrived)

  closed_stays : s.reception.closed ≡ true → Stays i recorded s s' → StaysClosed
  closed_stays shut stays = (
    ap (λ (r : Reception). r.closed) stays.reception ∙ shut,
    record {
      binding = stays.binding;
      reception = ap (λ (r : Reception). record r { closed = false }) stays.reception;
      late = [];
      taken = stays.taken ∙ sym (append-nil s.taken);
    },
    ap (λ (a : Arriving). a.arrived) (quiet_arriving i recorded stays.quiet arriving),
  )

  closed_closes : Closes i step recorded s s' → StaysClosed
  closed_closes closes = (
    ap (λ (x : Subscription). x.reception.closed) closes.after,
    subst (IsLater s) (sym closes.after)
        (record { binding = refl; reception = refl; late = []; taken = sym (append-nil s.taken) }),
    ap (λ (a : Arriving). a.arrived) (quiet_arriving i recorded closes.quiet arriving),
  )

  closed_sends : s.reception.closed ≡ true → Sends i recorded s s' → StaysClosed
  closed_sends shut sends = (
    ap (λ (x : Subscription). x.reception.closed) sends.after ∙ shut,
    subst (IsLater s) (sym sends.after)
        (record { binding = refl; reception = refl; late = []; taken = sym (append-nil s.taken) }),
    ap (λ (a : Arriving). a.arrived) (ap (with_recorded i arriving) sends.records
        ∙ its_own i arriving (delivery.Sent i sends.sent.position) refl),
  )

  closed_breaks : s.reception.closed ≡ true → Breaks i recorded s s' → StaysClosed
  closed_breaks shut breaks = (
    ap (λ (x : Subscription). x.reception.closed) breaks.after ∙ shut,
    subst (IsLater s) (sym breaks.after)
        (record { binding = refl; reception = refl; late = []; taken = sym (append-nil s.taken) }),
    ap (λ (a : Arriving). a.arrived) (ap (with_recorded i arriving) breaks.records
        ∙ its_own i arriving (delivery.Lost i) refl),
  )

  closed_takes : s.reception.closed ≡ true → Takes i recorded s s' → StaysClosed
  closed_takes shut takes =
      let answer = answer_to (kept_of s.reception) takes.first.item in (
        ap (λ (x : Subscription). x.reception.closed) takes.after
            ∙ next_closed s.reception takes.first.item ∙ shut,
        subst (IsLater s) (sym takes.after) (record {
          binding = refl;
          reception = ap (λ (r : Reception). record r { closed = false })
              (next_when_closed s.reception takes.first.item shut);
          late = takes.first ∷ [];
          taken = refl;
        }),
        ap (λ (a : Arriving). a.arrived) (own_taking takes)
            ∙ closed_taken arriving arriving.flight takes.first.position (item_name takes.first.item) answer
            (closed_answer s.reception takes.first.item ∙ shut),
      )

  pub stays_closed : s.reception.closed ≡ true → Changes i step recorded s s' → StaysClosed
  stays_closed shut (inl stays) = closed_stays shut stays
  stays_closed shut (inr (inl closes)) = closed_closes closes
  stays_closed shut (inr (inr (inl sends))) = closed_sends shut sends
  stays_closed shut (inr (inr (inr (inl breaks)))) = closed_breaks shut breaks
  stays_closed shut (inr (inr (inr (inr takes)))) = closed_takes shut takes
