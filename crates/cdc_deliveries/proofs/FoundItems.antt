-- Whatever a subscriber took is found by its name in the feed of its binding.
use Rattle.cdc_deliveries.proofs.Words.{All-contains, All-contains_itself, All-filter, Bool, Contains, Contains-append_cases, Contains-append_left, Contains-append_right, Contains-cons_cases, Delivery, Event, IsReached, Item, List, None, Placed, Some, Subscription, WorldState, [], ap, arith, cases_Bool, deliveries, each_has, eq-eqb, eqb-true, events, false, feed, filter, filter_passes, if◌then◌else◌, inl, inr, item_name, item_of, last_timestamp, map, nat_lt, none_there, numbered, placed, placed_after, queue_in, refl, start_of, subst, taken_items, takes_event, takes_item, true, ℕ, ◌<◌, ◌==◌, ◌∙◌, ◌∷◌, ◌≡◌}
use Rattle.cdc_laws.specs.Line.{end_mark_if, line_after}
use Rattle.cdc_laws.proofs.Deliveries.{items_in-deliveries}
use Rattle.cdc_laws.proofs.Replays.{Contains-map, Contains-unmap}
use Rattle.cdc_laws.proofs.Rising.{RiseFrom-filter, all_later, events_rise}
use Rattle.cdc_log.specs.Log.{RiseFrom, events_after}
use Rattle.cdc_message.specs.declared.items.Item.TheVariants as item
use Rattle.cdc_message.proofs.ReplayLaws.{IsReplay-Contains}
use Rattle.cdc_world.specs.Orderly.{IsOrderly}
use Rattle.cdc_world.specs.Served.{IsServed, sent_to}
use Rattle.cdc_world.proofs.OrderlyWorlds.{IsOrderly-reached, IsReplay-orderly}
use Rattle.cdc_world.proofs.ServedWorlds.{AreQueued-reached}

-- ---- elements of filtered lists

-- what a filter leaves was there
was_there : {X : Type 0} (p : X → Bool) (xs : List X) (x : X) → Contains (filter p xs) x → Contains xs x
was_there p xs x there =
    All-contains (Contains xs) (filter p xs) x (All-filter p (Contains xs) xs (All-contains_itself xs)) there

-- and passes
passes : {X : Type 0} (p : X → Bool) (xs : List X) (x : X) → Contains (filter p xs) x → p x ≡ true
passes p xs x there = All-contains (λ y. p y ≡ true) (filter p xs) x (filter_passes p xs) there

-- what passes is left
is_left : {X : Type 0} (p : X → Bool) (xs : List X) (x : X) → Contains xs x → p x ≡ true → Contains (filter p xs) x
is_left p [] x there pass = absurd (none_there x there)
is_left {X} p (y ∷ xs) x there pass =
    elim (Contains-cons_cases y xs x there) [
      | inl is ↦
          let kept : filter p (y ∷ xs) ≡ y ∷ filter p xs =
          ap (λ (b : Bool). if b then y ∷ filter p xs else filter p xs) (ap p is ∙ pass) in
          rw kept (0, omega arith, is)
      | inr later ↦ by_first (p y) (is_left p xs x later pass)
    ]
  where
    by_first : (b : Bool) → Contains (filter p xs) x → Contains (if b then y ∷ filter p xs else filter p xs) x
    by_first true rest = Contains-append_right (y ∷ []) (filter p xs) x rest
    by_first false rest = rest

-- ---- events by their timestamps

-- the feed has an item under a name, and it is this one
abbrev pub IsFound : List Event → Item → Type 0
IsFound fed item = (place : Placed) × ((placed fed (item_name item) ≡ Some place) × (item_of place.event ≡ item))

-- an event of a list that rises is found by its timestamp
event_found : (previous least : ℕ) (fed : List Event) (e : Event) → RiseFrom least fed → Contains fed e
    → (place : Placed) × ((placed_after previous e.timestamp fed ≡ Some place)
    × (item_of place.event ≡ item.Event e))
event_found previous least [] e rise there = absurd (none_there e there)
event_found previous least (x ∷ fed) e rise there =
    let beyond = placed_after x.timestamp e.timestamp fed in
    let here : Placed = record { previous = previous; event = Some x } in
    elim (Contains-cons_cases x fed e there) [
      | inl is ↦
          let same : (x.timestamp == e.timestamp) ≡ true =
          eq-eqb x.timestamp e.timestamp (ap (λ (y : Event). y.timestamp) is) in (
            here,
            (
              ap (λ (b : Bool). if b then Some here else beyond) same,
              ap (λ (y : Event). item.Event y) is,
            ),
          )
      | inr later ↦
          let above : x.timestamp < e.timestamp =
          each_has (λ (y : Event). x.timestamp < y.timestamp) fed e (all_later x.timestamp fed rise.1) later in
          let rest = event_found x.timestamp x.timestamp fed e rise.1 later in
          elim (cases_Bool (x.timestamp == e.timestamp)) [
            | inl is ↦
                let equal = eqb-true x.timestamp e.timestamp is in absurd (omega (arith, above, equal))
            | inr other ↦
                (rest.0, (ap (λ (b : Bool). if b then Some here else beyond) other ∙ rest.1.0, rest.1.1))
          ]
    ]

-- ---- what was taken

module _ (w : WorldState) (i : ℕ) (s : Subscription) (reached : IsReached w)
    (found : numbered w.subscriptions i ≡ Some s) where
  orderly : IsOrderly w
  orderly = IsOrderly-reached w reached

  served : IsServed (queue_in w s) s
  served = AreQueued-reached w reached i s found

  fed_rises : RiseFrom 0 (feed (events w.history) s.binding)
  fed_rises = RiseFrom-filter (takes_event s.binding) 0 (events w.history) (events_rise w.history orderly.sound)

  -- an item of a delivery that was taken is one of the queue
  in_queue : (d : Delivery) → Contains s.taken d → Contains (queue_in w s) d.item
  in_queue d there =
      let out : Contains (deliveries (queue_in w s)) d =
      IsReplay-Contains (sent_to s) (deliveries (queue_in w s)) d served.out.replay
      (Contains-append_left s.taken s.flight d there) in
      subst (λ (items : List Item). Contains items d.item) (items_in-deliveries (queue_in w s))
      (Contains-map (λ (x : Delivery). x.item) (deliveries (queue_in w s)) d out)

  -- so it is one that the ledger has to publish
  in_line : (item : Item) → Contains (queue_in w s) item → Contains (line_after w.history (start_of w)) item
  in_line item there =
      IsReplay-Contains (taken_items w) (line_after w.history (start_of w)) item (IsReplay-orderly w orderly)
      (was_there (takes_item s.binding) (taken_items w) item there)

  -- nothing but the end mark comes after the events
  only_end : (closed : Bool) (x : Item) → Contains (end_mark_if closed) x → item.EndMark ≡ x
  only_end true x there =
      elim (Contains-cons_cases item.EndMark [] x there) [
        | inl is ↦ is
        | inr later ↦ absurd (none_there x later)
      ]
  only_end false x there = absurd (none_there x there)

  -- an event of the queue is found
  event_is_found : (e : Event) → Contains (events_after (start_of w) (events w.history)) e
      → takes_event s.binding e ≡ true → IsFound (feed (events w.history) s.binding) (item.Event e)
  event_is_found e there pass =
      event_found 0 0 (feed (events w.history) s.binding) e fed_rises
      (is_left (takes_event s.binding) (events w.history) e
      (was_there (λ (x : Event). nat_lt (start_of w) x.timestamp) (events w.history) e there) pass)

  -- so is the end mark
  end_is_found : IsFound (feed (events w.history) s.binding) item.EndMark
  end_is_found =
      (record { previous = last_timestamp (feed (events w.history) s.binding); event = None }, (refl, refl))

  -- so whatever was taken is found
  pub taken_is_found : (d : Delivery) → Contains s.taken d → IsFound (feed (events w.history) s.binding) d.item
  taken_is_found d there =
      let queued = in_queue d there in
      let pass : takes_item s.binding d.item ≡ true = passes (takes_item s.binding) (taken_items w) d.item queued in
      let after = events_after (start_of w) (events w.history) in
      elim (Contains-append_cases (map item.Event after) (end_mark_if w.history.closed) d.item
      (in_line d.item queued)) [
        | inl event ↦
            let e = Contains-unmap item.Event after d.item event in
            subst (IsFound (feed (events w.history) s.binding)) e.2
            (event_is_found e.0 e.1 (ap (takes_item s.binding) e.2 ∙ pass))
        | inr end ↦
            subst (IsFound (feed (events w.history) s.binding)) (only_end w.history.closed d.item end) end_is_found
      ]
