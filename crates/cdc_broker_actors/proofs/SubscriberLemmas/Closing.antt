-- What a subscriber receives from deliveries, whether it was asked to close or not.
use Rattle.cdc_broker_actors.proofs.Words.{if◌then◌else◌, ◌&&◌, ◌++◌, ◌+◌, ◌<◌, ◌||◌, ◌∙◌, ◌∷◌, ◌≡◌, ◌≤◌, AskedClose, Bool, ClosesAfter, DeliveriesAreReceived, Delivery, Item, List, None, Option, Reception, Some, UnaskedStayOpen, [], ap, append-nil, append_assoc, applied_of, arith, cases_Bool, closed_if, cond, false, fold, inl, inr, is_asked, is_due, is_end, length, length-append, list_any-append, nat_le, nat_tests, next, nothing, received_after, refl, subst, sym, true, ℕ}
use Rattle.cdc_laws.specs.Receiving.{HasTaken}
use Rattle.cdc_laws.proofs.Receiving.{HasTaken-close, HasTaken-next, HasTaken-nil}
use Rattle.cdc_message.specs.declared.items.Item.TheVariants.{Event as OfEvent, EndMark}
use Rattle.cdc_message.specs.Items.{events_of, is_newest, rises}
use Rattle.cdc_message.proofs.RisesLaws.{events_of-push_end, events_of-push_event, rises-is_newest}
use Rattle.cdc_subscriber.specs.Reception.{has_ended}
use Rattle.cdc_types.specs.declared.events.Event.{Event}

-- ---- as they come

-- closing doesn't change what it has received
taken_if : (due : Bool) (reception : Reception) (taken : List Delivery) → HasTaken reception taken
    → HasTaken (closed_if due reception) taken
taken_if true reception taken has = HasTaken-close reception taken has
taken_if false reception taken has = has

-- what it receives from further deliveries, after some
taken_from : (close_after : Option ℕ) (reception : Reception) (before taken : List Delivery) → HasTaken reception before
    → HasTaken (fold (received_after close_after) reception taken) (before ++ taken)
taken_from close_after reception before [] has = subst (HasTaken reception) (sym (append-nil before)) has
taken_from close_after reception before (d ∷ taken) has =
    let on : Reception = next reception d.item in
    let one = taken_if (is_due close_after on) on (before ++ d ∷ []) (HasTaken-next reception before d has) in
    let after : Reception = fold (received_after close_after) (received_after close_after reception d) taken in
    rw (append_assoc before (d ∷ []) taken) at (taken_from close_after (received_after close_after reception d)
    (before ++ d ∷ []) taken one)

pub deliveries_are_received : DeliveriesAreReceived
deliveries_are_received close_after taken = taken_from close_after nothing [] taken HasTaken-nil

-- ---- unasked

-- what isn't asked for is never due
never_due : (close_after : Option ℕ) (reception : Reception) → is_asked close_after ≡ false
    → is_due close_after reception ≡ false
never_due None reception not_asked = refl
never_due (Some n) reception not_asked = ap (λ (b : Bool). b && nat_le n (length (applied_of reception))) not_asked

-- to take an item closes nothing
next_open : (reception : Reception) (item : Item) (settled : Bool)
    → (if settled then reception else record { items = reception.items ++ item ∷ []; closed = reception.closed }).closed
    ≡ reception.closed
next_open reception item true = refl
next_open reception item false = refl

opens_after : (close_after : Option ℕ) (reception : Reception) (d : Delivery) → is_asked close_after ≡ false
    → reception.closed ≡ false → (received_after close_after reception d).closed ≡ false
opens_after close_after reception d not_asked open_yet =
    let on : Reception = next reception d.item in
    ap (λ (b : Bool). (closed_if b on).closed) (never_due close_after on not_asked)
    ∙ next_open reception d.item (reception.closed || has_ended reception)
    ∙ open_yet

stays_open : (close_after : Option ℕ) (reception : Reception) (taken : List Delivery) → is_asked close_after ≡ false
    → reception.closed ≡ false → (fold (received_after close_after) reception taken).closed ≡ false
stays_open close_after reception [] not_asked open_yet = open_yet
stays_open close_after reception (d ∷ taken) not_asked open_yet =
    stays_open close_after (received_after close_after reception d) taken not_asked
    (opens_after close_after reception d not_asked open_yet)

pub unasked_stay_open : UnaskedStayOpen
unasked_stay_open close_after taken not_asked = stays_open close_after nothing taken not_asked refl

-- ---- asked

-- a number that is due is reached
reached : (n : ℕ) (reception : Reception) → 0 < n → is_due (Some n) reception ≡ true → n ≤ length (applied_of reception)
reached n reception asked due = grind (arith, nat_tests)

-- and one that isn't due isn't
not_reached : (n : ℕ) (reception : Reception) → 0 < n → is_due (Some n) reception ≡ false
    → length (applied_of reception) < n
not_reached n reception asked early = grind (arith, nat_tests)

-- a subscriber that closes when it is due has applied exactly so many events, if it had applied no more and had not
-- received the end mark
closes_if : (n : ℕ) (reception : Reception) (due : Bool) → 0 < n → is_due (Some n) reception ≡ due
    → (n ≤ length (applied_of reception) → (length (applied_of reception) ≡ n) × (has_ended reception ≡ false))
    → (reception.closed ≡ true → n ≤ length (applied_of reception)) → ClosesAfter n (closed_if due reception)
closes_if n reception true asked due just shut =
    record { shut = λ closed. just (reached n reception asked due); open_yet = λ never. cc }
closes_if n reception false asked early just shut =
    let below : length (applied_of reception) < n = not_reached n reception asked early in
    record { shut = λ closed. absurd (omega (arith, shut closed)); open_yet = λ closed. below }

-- receiving one more event applies at most one event
applied_more : (items : List Item) (e : Event) (newest : Bool)
    → length (cond newest (rises (events_of items) ++ e ∷ []) (rises (events_of items)))
    ≤ length (rises (events_of items)) + 1
applied_more items e true = omega (arith, length-append (rises (events_of items)) (e ∷ []))
applied_more items e false = omega arith

applied_push : (items : List Item) (e : Event)
    → length (rises (events_of (items ++ OfEvent e ∷ []))) ≤ length (rises (events_of items)) + 1
applied_push items e =
    let is = ap rises (events_of-push_event items e) ∙ rises-is_newest (events_of items) e in
    rw is (applied_more items e (is_newest (events_of items) e))

-- a subscriber receives an item if it is neither closed nor ended, and has applied fewer events
receives_item : (n : ℕ) (reception : Reception) (item : Item) → 0 < n → reception.closed ≡ false
    → has_ended reception ≡ false → length (applied_of reception) < n
    → (on : Reception) → on ≡ record { items = reception.items ++ item ∷ []; closed = reception.closed }
    → ClosesAfter n (closed_if (is_due (Some n) on) on)
receives_item n reception (OfEvent e) asked open_yet goes_on below on is =
    let count : length (applied_of on) ≤ length (applied_of reception) + 1 = rw is (applied_push reception.items e) in
    let ended : has_ended on ≡ false =
    ap has_ended is ∙ list_any-append is_end reception.items (OfEvent e ∷ []) ∙ ap (λ (b : Bool). b || false) goes_on in
    let shut : on.closed ≡ false = ap (λ (h : Reception). h.closed) is ∙ open_yet in
    closes_if n on (is_due (Some n) on) asked refl (λ due. (omega (arith, count, below, due), ended))
    (λ closed. let never : true ≡ false = sym closed ∙ shut in cc)
receives_item n reception EndMark asked open_yet goes_on below on is =
    let count : length (applied_of on) ≡ length (applied_of reception) =
    ap (λ (h : Reception). length (applied_of h)) is
    ∙ ap (λ es. length (rises es)) (events_of-push_end reception.items) in
    let shut : on.closed ≡ false = ap (λ (h : Reception). h.closed) is ∙ open_yet in
    closes_if n on (is_due (Some n) on) asked refl (λ due. absurd (omega (arith, count, below, due)))
    (λ closed. let never : true ≡ false = sym closed ∙ shut in cc)

-- neither of two tests that fail together holds
neither : (a b : Bool) → (a || b) ≡ false → (a ≡ false) × (b ≡ false)
neither true b h = cc
neither false b h = (refl, h)

-- so it goes on with each delivery
closes_next : (n : ℕ) (reception : Reception) (d : Delivery) → 0 < n → ClosesAfter n reception
    → ClosesAfter n (received_after (Some n) reception d)
closes_next n reception d asked so_far =
    let after : Bool → Reception = λ b.
    if b then reception else record { items = reception.items ++ d.item ∷ []; closed = reception.closed } in
    elim (cases_Bool (reception.closed || has_ended reception)) [
      | inl settled ↦
          let stays : next reception d.item ≡ reception = ap after settled in
          rw stays (closes_if n reception (is_due (Some n) reception) asked refl
          (λ due. elim (cases_Bool reception.closed) [
            | inl closed ↦ so_far.shut closed
            | inr open_yet ↦ absurd (omega (arith, so_far.open_yet open_yet, due))
          ]) (λ closed. omega (arith, (so_far.shut closed).0)))
      | inr listens ↦
          let parts = neither reception.closed (has_ended reception) listens in
          receives_item n reception d.item asked parts.0 parts.1 (so_far.open_yet parts.0) (next reception d.item)
          (ap after listens)
    ]

closes_from : (n : ℕ) (reception : Reception) (taken : List Delivery) → 0 < n → ClosesAfter n reception
    → ClosesAfter n (fold (received_after (Some n)) reception taken)
closes_from n reception [] asked so_far = so_far
closes_from n reception (d ∷ taken) asked so_far =
    closes_from n (received_after (Some n) reception d) taken asked (closes_next n reception d asked so_far)

pub asked_close : AskedClose
asked_close n taken asked =
    closes_from n nothing taken asked (record { shut = λ closed. cc; open_yet = λ open_yet. asked })
