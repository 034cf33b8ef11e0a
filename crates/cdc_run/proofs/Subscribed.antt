-- What a subscriber of a run has received, once all actors have finished.
use Rattle.cdc_run.proofs.Words.{AskedClose, Bool, BrokerState, CanSend, ClosesAfter, ClosesWith, Contains, Contains-append_right, Contains-cons_cases, Contains-push_cases, Continues, DeliveriesAreReceived, Delivery, EndsOpen, Event, FollowsToConnector, HasAccepted, HasCome, HasDelivered, HasPassed, History, IsFaithful, IsLive, IsReplay, IsReplay-trans, Item, KeepsTo, List, None, Option, Packet, Passage, Past, PastsGoOn, PollRepliesAreReadings, QueueState, Reception, Some, SubscribersCome, ToConnector, UnaskedStayOpen, [], and_parts, ap, append-nil, applied, applied_of, arith, cases_Bool, cond, emitted, false, feed_after, filter, fold, has_ended, held_number, held_start, history_of, inl, inr, is_confirmed, is_end, last_named, length, length-append, length-map, line_after, list_any, map, none_there, queue, queue-line_after, received_by, refl, rises-emitted, shown_of, slice_get, slice_get-behind, subst, suc, sym, tags_sent, take, taken_after, taken_of, takes_item, true, zero, ℕ, ◌++◌, ◌+◌, ◌-◌, ◌<◌, ◌||◌, ◌∙◌, ◌∷◌, ◌≡◌, ◌≤◌, ◌⊎◌}
use Rattle.std.proofs.Math.Seq.{take-length}
use Rattle.cdc_broker.specs.Packets.{is_taken, items_of}
use Rattle.cdc_laws.specs.ConnectorRuns.{Shown}
use Rattle.cdc_laws.specs.Deliveries.{deliveries, items_in}
use Rattle.cdc_laws.specs.Receiving.{HasTaken, ReceivesFrom, IsTrafficOf, Traffic}
use Rattle.cdc_laws.specs.RunLaws.{SubscribersOfRunsAreFaithful}
use Rattle.cdc_laws.specs.StepLaws.{ConnectorsMakeRuns}
use Rattle.cdc_laws.proofs.Deliveries.{items_in-deliveries, length-deliveries}
use Rattle.cdc_laws.proofs.Receiving.{IsReplay-of_queue, IsReplay-of_run}
use Rattle.cdc_laws.proofs.Replays.{Contains-map, Contains-unmap}
use Rattle.cdc_laws.proofs.Rising.{feed_after_rises}
use Rattle.cdc_laws.proofs.Sessions.{IsPublished, IsPublished-sent, one_session}
use Rattle.cdc_laws.proofs.Taking.{item_taken, taken_after-false, taken_after-true}
use Rattle.cdc_ledger.specs.Sound.{IsSound}
use Rattle.cdc_match.proofs.FilterLaws.{IsReplay-filter}
use Rattle.cdc_message.specs.declared.items.Item.TheVariants.{Event as OfEvent, EndMark}
use Rattle.cdc_message.specs.declared.packets.Packet.TheVariants.{Publish}

-- ---- lists

-- an element at a place of a prefix is at that place of the list
get_taken : {X : Type 0} (n : ℕ) (xs : List X) (i : ℕ) (x : X) → slice_get (take n xs) i ≡ Some x
    → slice_get xs i ≡ Some x
get_taken zero xs i x is = let no : None ≡ Some x = is in cc
get_taken (suc n) [] i x is = let no : None ≡ Some x = is in cc
get_taken (suc n) (y ∷ xs) zero x is = is
get_taken (suc n) (y ∷ xs) (suc i) x is = get_taken n xs i x is

-- an element of a list that passes a test is among those that pass
kept_there : {X : Type 0} (test : X → Bool) (xs : List X) (x : X) → test x ≡ true → Contains xs x
    → Contains (filter test xs) x
kept_there test [] x passes there = absurd (none_there x there)
kept_there {X} test (y ∷ xs) x passes there =
    let P : Bool → Type 0 = λ b. Contains (cond b (y ∷ filter test xs) (filter test xs)) x in
    elim (Contains-cons_cases y xs x there) [
      | inl is ↦
          subst P (sym (ap test is ∙ passes))
          (subst (λ z. Contains (z ∷ filter test xs) x) (sym is) (0, omega arith, refl))
      | inr later ↦
          let rest : Contains (filter test xs) x = kept_there test xs x passes later in
          let each : (b : Bool) → P b =
          elim [ true ↦ Contains-append_right (y ∷ []) (filter test xs) x rest | false ↦ rest ] in
          each (test y)
    ]

-- a test that holds later holds of all
or_later : (b c : Bool) → c ≡ true → (b || c) ≡ true
or_later true c is = refl
or_later false c is = is

-- if the end mark is among items, it was received
end_received : (items : List Item) → Contains items EndMark → list_any is_end items ≡ true
end_received [] there = absurd (none_there EndMark there)
end_received (item ∷ items) there =
    elim (Contains-cons_cases item items EndMark there) [
      | inl is ↦ ap (λ (x : Item). list_any is_end (x ∷ items)) is
      | inr later ↦ or_later (is_end item) (list_any is_end items) (end_received items later)
    ]

-- ---- the end mark

-- whatever a broker takes has arrived
taken_arrived : (taken arrived : List Packet) (packet : Packet) → Contains (fold taken_after taken arrived) packet
    → Contains taken packet ⊎ Contains arrived packet
taken_arrived taken [] packet there = inl there
taken_arrived taken (first ∷ arrived) packet there =
    let later : Contains arrived packet → Contains (first ∷ arrived) packet =
    Contains-append_right (first ∷ []) arrived packet in
    elim (cases_Bool (is_taken taken first)) [
      | inl takes ↦
          let now : Contains (fold taken_after (taken ++ first ∷ []) arrived) packet =
          subst (λ ps. Contains (fold taken_after ps arrived) packet) (taken_after-true taken first takes) there in
          elim (taken_arrived (taken ++ first ∷ []) arrived packet now) [
            | inl so_far ↦
                elim (Contains-push_cases taken first packet so_far) [
                  | inl old ↦ inl old
                  | inr is ↦ inr (subst (λ x. Contains (x ∷ arrived) packet) (sym is) (0, omega arith, refl))
                ]
            | inr late ↦ inr (later late)
          ]
      | inr passes ↦
          let same : Contains (fold taken_after taken arrived) packet =
          subst (λ ps. Contains (fold taken_after ps arrived) packet) (taken_after-false taken first passes) there in
          elim (taken_arrived taken arrived packet same) [ inl old ↦ inl old | inr late ↦ inr (later late) ]
    ]

all_arrived : (arrived : List Packet) (packet : Packet) → Contains (taken_of arrived) packet → Contains arrived packet
all_arrived arrived packet there =
    elim (taken_arrived [] arrived packet there) [ inl nowhere ↦ absurd (none_there packet nowhere) | inr is ↦ is ]

-- a session that is the latest of those that have sent something, and has sent its end mark, has it after its events
module _ (h : History) (p : Passage) (keeps : KeepsTo h p.connector)
    (live : IsLive h (held_start p.connector.held) p.connector.confirms keeps.sessions
    (held_number p.connector.held) p.course) where
  abbrev last_tag : ℕ
  last_tag = length p.course.offered + 1

  -- so whatever it has sent under the tag after its events is the end mark
  shows_end : (item : Item) → last_tag ≤ tags_sent p.course
      → Contains p.connector.sent (Publish p.course.number last_tag item) → item ≡ EndMark
  shows_end item sent there =
      let published : IsPublished keeps.sessions p.course.number last_tag item =
      IsPublished-sent keeps.sessions p.course.number last_tag item
      (subst (λ ps. Contains ps (Publish p.course.number last_tag item)) (sym keeps.makes) there) in
      elim live.last [
        | inl silent ↦ absurd (let none : p.course.sent ≡ 0 = silent.0 in omega arith)
        | inr stands ↦
            let earlier : List Shown = stands.1.0 in
            let latest : Shown = shown_of p.course in
            let among : Contains keeps.sessions latest =
            subst (λ ss. Contains ss latest) (sym stands.1.1) (0, omega arith, refl) in
            let same : published.session ≡ latest =
            one_session h (held_start p.connector.held) p.connector.confirms keeps.sessions published.session latest
            keeps.each published.among among
            published.its in
            let items : List Item = map OfEvent p.course.offered in
            let shown : slice_get (take (tags_sent p.course) (emitted p.course.offered true)) published.place
            ≡ Some item =
            subst (λ (s : Shown). slice_get s.items published.place ≡ Some item) same published.here in
            let there : slice_get (emitted p.course.offered true) published.place ≡ Some item =
            get_taken (tags_sent p.course) (emitted p.course.offered true) published.place item shown in
            let tagged : last_tag ≡ published.place + 1 = published.tagged in
            let long : length items ≡ length p.course.offered = length-map p.course.offered OfEvent in
            let past : length items ≤ published.place = omega arith in
            let none : published.place - length items ≡ 0 = omega arith in
            let first : slice_get (EndMark ∷ []) 0 ≡ Some item =
            ap (slice_get (EndMark ∷ [])) (sym none)
            ∙ sym (slice_get-behind items (EndMark ∷ []) published.place past)
            ∙ there in
            cc
      ]

-- ---- a subscriber

-- a queue holds what the broker has accepted for its binding
its_items : (b : BrokerState) (items : List Item) (q : QueueState) → HasAccepted b items → Contains b.queues q
    → q.items ≡ queue items q.binding
its_items b items q holds (k, below, is) =
    subst (λ (x : QueueState). x.items ≡ queue items x.binding) is (holds k q below)

-- if the whole queue was delivered, every item in it was
delivered_whole : (q : QueueState) (taken : List Delivery) → HasDelivered q taken → q.delivered ≡ length q.items
    → (item : Item) → Contains q.items item → Contains (items_in taken) item
delivered_whole q taken delivered whole item there =
    let all : List Delivery = deliveries q.items in
    let found = Contains-unmap (λ (d : Delivery). d.item) all item
    (subst (λ (items : List Item). Contains items item) (sym (items_in-deliveries q.items)) there) in
    let long : q.delivered ≡ length all = whole ∙ sym (length-deliveries q.items) in
    let front : take q.delivered all ≡ all = ap (λ (n : ℕ). take n all) long ∙ take-length all in
    let out : Contains taken found.0 =
    delivered.all found.0 (subst (λ (ds : List Delivery). Contains ds found.0) (sym front) found.1) in
    subst (Contains (items_in taken)) found.2 (Contains-map (λ (d : Delivery). d.item) taken found.0 out)

-- so a subscriber that took all of it has received the end mark, unless it was closed
module _ (reception : Reception) (taken : List Delivery) (has : HasTaken reception taken)
    (there : Contains (items_in taken) EndMark) where
  received_all : reception.closed ≡ false → has_ended reception ≡ true
  received_all not_closed =
      elim (cases_Bool (has_ended reception)) [
        | inl is ↦ is
        | inr not_yet ↦
            let all : reception.items ≡ items_in taken = has.all not_closed not_yet in
            end_received reception.items (subst (λ (items : List Item). Contains items EndMark) (sym all) there)
      ]

-- the laws that this rests on
pub record StandsOn : Type 0 where
  pub pasts : PastsGoOn
  pub readings : PollRepliesAreReadings
  pub runs : ConnectorsMakeRuns
  pub faithful : SubscribersOfRunsAreFaithful
  pub reception : DeliveriesAreReceived
  pub unasked : UnaskedStayOpen
  pub asked : AskedClose

module _ (on : StandsOn) (p : Passage) (q : QueueState) (taken : List Delivery) (close_after : Option ℕ)
    (is : HasPassed p) (among : Contains p.broker.queues q) (delivered : HasDelivered q taken)
    (whole : q.delivered ≡ length q.items) where
  abbrev h : History
  h = history_of p.past

  abbrev start : ℕ
  start = held_start p.connector.held

  abbrev reception : Reception
  reception = received_by close_after taken

  abbrev traffic : Traffic
  traffic = record {
    sent = p.connector.sent;
    arrived = p.arrived;
    confirms = p.confirms;
    received = p.connector.confirms;
  }

  -- a past goes on from itself
  itself : Continues p.past p.past
  itself = record {
    batches = record { rest = []; whole = append-nil p.past.batches };
    shut = λ was. refl;
  }

  sound : IsSound h
  sound = (on.pasts p.past p.past itself).1

  keeps : KeepsTo h p.connector
  keeps =
      let sent : List (ToConnector × Option Past) = p.received ++ is.front.rest in
      let lawful : CanSend FollowsToConnector 0 sent =
      subst (CanSend FollowsToConnector 0) (sym is.front.whole) is.lawful in
      let goes_on : Continues (last_named sent) p.past =
      subst (λ (l : List (ToConnector × Option Past)). Continues (last_named l) p.past) (sym is.front.whole)
      is.goes_on in
      is.keeps h (on.readings p.received is.front.rest p.past lawful goes_on)

  is_traffic : IsTrafficOf h start p.broker traffic
  is_traffic = record {
    run = on.runs h p.connector keeps;
    packets = is.packets;
    answers = is.answers;
    broker = is.arrives;
  }

  receives : ReceivesFrom q reception
  receives = record {
    out = taken;
    delivered = delivered;
    taken = taken;
    front = record { rest = []; whole = append-nil taken };
    receives = on.reception close_after taken;
  }

  is_faithful : IsFaithful h start q.binding reception
  is_faithful = on.faithful h start p.broker traffic q reception sound is_traffic among receives

  -- what it has applied, in the terms of the subscriber
  same_applied : applied reception ≡ applied_of reception
  same_applied =
      let items : List Item = items_of (taken_of p.arrived) in
      let took : IsReplay items (line_after h start) = IsReplay-of_run h start p.broker traffic sound is_traffic in
      let its : IsReplay reception.items (queue items q.binding) =
      subst (IsReplay reception.items) (its_items p.broker items q is.arrives.queues among)
      (IsReplay-of_queue q reception receives) in
      let of_line : IsReplay reception.items (queue (line_after h start) q.binding) =
      IsReplay-trans reception.items (queue items q.binding) (queue (line_after h start) q.binding) its
      (IsReplay-filter (takes_item q.binding) items (line_after h start) took) in
      rises-emitted (feed_after h start q.binding) (feed_after_rises h start q.binding sound) h.closed reception.items
      (subst (IsReplay reception.items) (queue-line_after h start q.binding) of_line)

  -- the end mark has come to its queue
  end_in_queue : Contains q.items EndMark
  end_in_queue =
      let live : IsLive h start p.connector.confirms keeps.sessions (held_number p.connector.held) p.course =
      keeps.live p.course is.runs in
      let parts = and_parts p.course.complete (is_confirmed p.course (length p.course.offered + 1)) is.done in
      let confirmed = live.confirmed (length p.course.offered + 1) parts.1 in
      let accepted = is.arrives.confirmed p.course.number (length p.course.offered + 1) (is.answers _ confirmed.1) in
      let packet : Packet = Publish p.course.number (length p.course.offered + 1) accepted.0 in
      let arrived : Contains p.arrived packet = all_arrived p.arrived packet accepted.1 in
      let its : accepted.0 ≡ EndMark =
      shows_end h p keeps live accepted.0 confirmed.0 (is.packets packet arrived) in
      let item : Contains (items_of (taken_of p.arrived)) EndMark =
      subst (Contains (items_of (taken_of p.arrived))) its
      (item_taken (taken_of p.arrived) p.course.number (length p.course.offered + 1) accepted.0 accepted.1) in
      subst (λ (items : List Item). Contains items EndMark)
      (sym (its_items p.broker (items_of (taken_of p.arrived)) q is.arrives.queues among))
      (kept_there (takes_item q.binding) (items_of (taken_of p.arrived)) EndMark refl item)

  ends_open : reception.closed ≡ false → EndsOpen reception
  ends_open not_closed = record {
    ended = received_all reception taken (on.reception close_after taken)
        (delivered_whole q taken delivered whole EndMark end_in_queue) not_closed;
    not_closed = not_closed;
  }

  -- what was asked of it
  module _ (n : ℕ) (asked : close_after ≡ Some n) (some : 0 < n) where
    closes : ClosesAfter n reception
    closes = subst (λ (o : Option ℕ). ClosesAfter n (received_by o taken)) (sym asked) (on.asked n taken some)

    as_many : length (applied reception) ≡ length (applied_of reception)
    as_many = ap (λ (l : List Event). length l) same_applied

    comes_enough : n ≤ length (feed_after h start q.binding) → ClosesWith n reception
    comes_enough many =
        elim (cases_Bool reception.closed) [
          | inl shut ↦
              let at = closes.shut shut in
              record { shut = shut; not_ended = at.1; count = as_many ∙ at.0 }
          | inr not_closed ↦
              let emitted = is_faithful.whole (ends_open not_closed).ended in
              let all : length (applied reception) ≡ length (feed_after h start q.binding) =
              ap (λ (l : List Event). length l) emitted.1 in
              let few = closes.open_yet not_closed in
              absurd (omega (arith, as_many))
        ]

    comes_few : length (feed_after h start q.binding) < n → EndsOpen reception
    comes_few few =
        elim (cases_Bool reception.closed) [
          | inl shut ↦
              let at = closes.shut shut in
              let front : applied reception ++ is_faithful.prefix.rest ≡ feed_after h start q.binding =
              is_faithful.prefix.whole in
              let sum : length (applied reception ++ is_faithful.prefix.rest)
              ≡ length (applied reception) + length is_faithful.prefix.rest =
              length-append (applied reception) is_faithful.prefix.rest in
              let same : length (applied reception ++ is_faithful.prefix.rest) ≡ length (feed_after h start q.binding) =
              ap (λ (l : List Event). length l) front in
              let count : length (applied_of reception) ≡ n = at.0 in
              absurd (omega (arith, as_many))
          | inr not_closed ↦ ends_open not_closed
        ]

  comes : HasCome h start q.binding close_after reception
  comes = record {
    faithful = is_faithful;
    unasked = λ none. ends_open (on.unasked close_after taken none);
    enough = comes_enough;
    too_few = comes_few;
  }

pub subscribers_come : StandsOn → SubscribersCome
subscribers_come on p q taken close_after is among delivered whole =
    comes on p q taken close_after is among delivered whole
