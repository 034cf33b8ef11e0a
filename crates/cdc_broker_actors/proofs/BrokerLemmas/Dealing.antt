-- The broker actor handles one more packet as its definition states.
use Rattle.cdc_broker_actors.proofs.Words.{if◌then◌else◌, ◌++◌, ◌+◌, ◌∙◌, ◌∷◌, ◌≡◌, Answer, Bool, Broken, BrokerCore, BrokerPlan, BrokerState, Confirm, Confirmed, Connect, Connected, Contains, Contains-push, Contains-push_cases, Dealings, HasArrived, HasArrived-passed, HasArrived-taken, Ignored, Item, List, Option, Packet, Past, Publish, ToBroker, ToConnector, [], admitted, after_packet, answer_after, answer_if, ap, append-nil, ap₂, as_confirm, cases_Bool, confirm_of, counted, dealings, false, filter_map-append, fold-append, inl, inr, is_listed, is_lost, is_taken, is_taken_at, items_of, length, length_push, map, map-append, no_dealings, packet_in, packets_in, refl, subst, sym, taken_after, taken_answer, taken_of, takes_packet, true, with_coming, with_counted, with_packet, ℕ}
use Rattle.cdc_laws.proofs.Taking.{items_of-push, taken_after-false, taken_after-true}

-- ---- lists

-- a message more of the connector, with a packet or without
pub packets_in-push : (sent : List (ToBroker × Unit {0})) (m : ToBroker × Unit {0})
    → packets_in (sent ++ m ∷ []) ≡ packets_in sent ++ packets_in (m ∷ [])
packets_in-push sent m = filter_map-append (λ (x : ToBroker × Unit {0}). packet_in x.0) sent (m ∷ [])

-- what is made of one packet more
pub dealings-push : (plan : BrokerPlan) (packets : List Packet) (packet : Packet)
    → dealings plan (packets ++ packet ∷ []) ≡ with_packet plan (dealings plan packets) packet
dealings-push plan packets packet = fold-append (with_packet plan) no_dealings packets (packet ∷ [])

-- what is taken of one packet more
pub taken-push : (arrived : List Packet) (packet : Packet) (b : Bool) → is_taken (taken_of arrived) packet ≡ b
    → taken_of (arrived ++ packet ∷ []) ≡ (if b then taken_of arrived ++ packet ∷ [] else taken_of arrived)
taken-push arrived packet true is =
    fold-append taken_after [] arrived (packet ∷ []) ∙ taken_after-true (taken_of arrived) packet is
taken-push arrived packet false is =
    fold-append taken_after [] arrived (packet ∷ []) ∙ taken_after-false (taken_of arrived) packet is

-- how many items a packet more brings
items-push : (packets : List Packet) (packet : Packet)
    → counted (length (items_of packets)) packet ≡ length (items_of (packets ++ packet ∷ []))
items-push packets (Connect session) =
    sym (ap (λ (items : List Item). length items)
    (items_of-push packets (Connect session) ∙ append-nil (items_of packets)))
items-push packets (Publish session tag item) =
    sym (ap (λ (items : List Item). length items) (items_of-push packets (Publish session tag item))
    ∙ length_push (items_of packets) item)

-- ---- confirms

-- a confirm that confirms no publish, or one that was taken
pub HasArrived-answered : (b : BrokerState) (arrived : List Packet) (confirms : List Confirm) (confirm : Confirm)
    → HasArrived b arrived confirms
    → ((session tag : ℕ) → confirm ≡ record { session = session; answer = Confirmed tag }
    → (item : Item) × Contains (taken_of arrived) (Publish session tag item))
    → HasArrived b arrived (confirms ++ confirm ∷ [])
HasArrived-answered b arrived confirms confirm has its = record {
  connection = has.connection;
  expected = has.expected;
  queues = has.queues;
  confirmed = λ session tag there.
      elim (Contains-push_cases confirms confirm (record { session = session; answer = Confirmed tag }) there) [
        | inl old ↦ has.confirmed session tag old
        | inr is ↦ its session tag is
      ];
}

-- the answer to a packet that was lost or ignored confirms nothing
lost_confirms_none : (packet : Packet) (session tag : ℕ) {P : Type 0}
    → confirm_of packet Broken ≡ record { session = session; answer = Confirmed tag } → P
lost_confirms_none (Connect s) session tag is =
    let answers : Broken ≡ Confirmed tag = ap (λ (x : Confirm). x.answer) is in cc
lost_confirms_none (Publish s t item) session tag is =
    let answers : Broken ≡ Confirmed tag = ap (λ (x : Confirm). x.answer) is in cc

ignored_confirms_none : (packet : Packet) (session tag : ℕ) {P : Type 0}
    → confirm_of packet Ignored ≡ record { session = session; answer = Confirmed tag } → P
ignored_confirms_none (Connect s) session tag is =
    let answers : Ignored ≡ Confirmed tag = ap (λ (x : Confirm). x.answer) is in cc
ignored_confirms_none (Publish s t item) session tag is =
    let answers : Ignored ≡ Confirmed tag = ap (λ (x : Confirm). x.answer) is in cc

-- the answer to one that was taken confirms it, or nothing
taken_confirms_it : (plan : BrokerPlan) (accepted : ℕ) (packet : Packet) (taken : List Packet) (session tag : ℕ)
    → Contains taken packet
    → confirm_of packet (taken_answer plan accepted packet) ≡ record { session = session; answer = Confirmed tag }
    → (item : Item) × Contains taken (Publish session tag item)
taken_confirms_it plan accepted (Connect s) taken session tag there is =
    let answers : Connected ≡ Confirmed tag = ap (λ (x : Confirm). x.answer) is in cc
taken_confirms_it plan accepted (Publish s t item) taken session tag there is =
    go (is_listed plan.lose_confirm.items (accepted + 1)) (ap (λ (x : Confirm). x.answer) is)
  where
    go : (b : Bool) → (if b then Broken else Confirmed t) ≡ Confirmed tag
        → (item : Item) × Contains taken (Publish session tag item)
    go true answers = cc
    go false answers =
        let sessions : s ≡ session = ap (λ (x : Confirm). x.session) is in
        let tags : t ≡ tag = cc in (item, rw sessions at (rw tags at there))

-- ---- one more packet

-- what the broker actor keeps of the packets that it has received
pub record HasDealt (plan : BrokerPlan) (made : Dealings) (d : BrokerCore) : Type 0 where
  pub planned : d.plan ≡ plan
  pub arrived : HasArrived d.broker made.arrived made.confirms
  pub confirmed : d.confirms.sent ≡ map as_confirm made.confirms
  pub publishes : d.publishes ≡ made.publishes
  pub accepted : d.accepted ≡ length (items_of (taken_of made.arrived))

-- one confirm more
confirms_push : (sent : List (ToConnector × Option Past)) (confirms : List Confirm) (confirm : Confirm)
    → sent ≡ map as_confirm confirms → sent ++ as_confirm confirm ∷ [] ≡ map as_confirm (confirms ++ confirm ∷ [])
confirms_push sent confirms confirm is =
    ap (λ (l : List (ToConnector × Option Past)). l ++ as_confirm confirm ∷ []) is
    ∙ sym (map-append as_confirm confirms (confirm ∷ []))

module _ (made : Dealings) (d : BrokerCore) (has : HasDealt d.plan made d) (packet : Packet) where
  -- whether the broker takes a packet follows from the packets that it has taken
  takes_is : takes_packet d.broker packet ≡ is_taken (taken_of made.arrived) packet
  takes_is = ap₂ (λ (c : ℕ) (e : Option ℕ). is_taken_at c e packet) has.arrived.connection has.arrived.expected

  lost_is : is_lost d.plan d.publishes packet ≡ is_lost d.plan made.publishes packet
  lost_is = ap (λ (n : ℕ). is_lost d.plan n packet) has.publishes

  counts : counted d.publishes packet ≡ counted made.publishes packet
  counts = ap (λ (n : ℕ). counted n packet) has.publishes

  -- one that is lost
  abbrev after_lost : Dealings
  after_lost = record {
    publishes = counted made.publishes packet;
    arrived = made.arrived;
    confirms = made.confirms ++ confirm_of packet Broken ∷ [];
  }

  lost : HasDealt d.plan after_lost (record (with_counted packet d) {
    confirms = record d.confirms { sent = d.confirms.sent ++ as_confirm (confirm_of packet Broken) ∷ [] };
  })
  lost = record {
    planned = refl;
    arrived = HasArrived-answered d.broker made.arrived made.confirms (confirm_of packet Broken) has.arrived
        (λ session tag is. lost_confirms_none packet session tag is);
    confirmed = confirms_push d.confirms.sent made.confirms (confirm_of packet Broken) has.confirmed;
    publishes = counts;
    accepted = has.accepted;
  }

  -- one that comes to the broker, which takes it or not
  abbrev after_arrived : Answer → Dealings
  after_arrived answer = record {
    publishes = counted made.publishes packet;
    arrived = made.arrived ++ packet ∷ [];
    confirms = made.confirms ++ confirm_of packet answer ∷ [];
  }

  abbrev core_after : Bool → BrokerCore
  core_after takes =
      let mid : BrokerCore = admitted takes packet (with_counted packet d) in
      record mid {
        confirms = record mid.confirms {
          sent = mid.confirms.sent ++ as_confirm (confirm_of packet (answer_if takes packet d)) ∷ [];
        };
      }

  come : (takes : Bool) → takes_packet d.broker packet ≡ takes
      → HasDealt d.plan (after_arrived (answer_if takes packet d)) (core_after takes)
  come true takes =
      let is = taken-push made.arrived packet true (sym takes_is ∙ takes) in
      let there : Contains (taken_of (made.arrived ++ packet ∷ [])) packet =
      rw is (Contains-push (taken_of made.arrived) packet) in
      record {
        planned = refl;
        arrived = HasArrived-answered (after_packet d.broker packet) (made.arrived ++ packet ∷ []) made.confirms
            (confirm_of packet (taken_answer d.plan d.accepted packet))
            (HasArrived-taken d.broker made.arrived made.confirms has.arrived packet takes)
            (λ session tag states. taken_confirms_it d.plan d.accepted packet (taken_of (made.arrived ++ packet ∷ []))
            session tag there states);
        confirmed = confirms_push d.confirms.sent made.confirms
            (confirm_of packet (taken_answer d.plan d.accepted packet)) has.confirmed;
        publishes = counts;
        accepted = ap (λ (n : ℕ). counted n packet) has.accepted
            ∙ items-push (taken_of made.arrived) packet
            ∙ ap (λ (ps : List Packet). length (items_of ps)) (sym is);
      }
  come false passes =
      let is = taken-push made.arrived packet false (sym takes_is ∙ passes) in
      record {
        planned = refl;
        arrived = HasArrived-answered d.broker (made.arrived ++ packet ∷ []) made.confirms (confirm_of packet Ignored)
            (HasArrived-passed d.broker made.arrived made.confirms has.arrived packet passes)
            (λ session tag states. ignored_confirms_none packet session tag states);
        confirmed = confirms_push d.confirms.sent made.confirms (confirm_of packet Ignored) has.confirmed;
        publishes = counts;
        accepted = has.accepted ∙ ap (λ (ps : List Packet). length (items_of ps)) (sym is);
      }

  -- the answer is the one that is defined
  states : answer_if (takes_packet d.broker packet) packet d ≡ answer_after d.plan (taken_of made.arrived) packet
  states = ap₂ (λ (b : Bool) (n : ℕ). if b then taken_answer d.plan n packet else Ignored) takes_is has.accepted

  -- so all of it is
  pub HasDealt-packet : HasDealt d.plan (with_packet d.plan made packet) (with_coming packet d)
  HasDealt-packet = elim (cases_Bool (is_lost d.plan d.publishes packet)) [
    | inl is ↦
        let named : is_lost d.plan made.publishes packet ≡ true = sym lost_is ∙ is in
        rw (is, named) lost
    | inr isnt ↦
        let named : is_lost d.plan made.publishes packet ≡ false = sym lost_is ∙ isnt in
        rw (isnt, named)
        (subst (λ (answer : Answer). HasDealt d.plan (after_arrived answer) (core_after (takes_packet d.broker packet)))
        states (come (takes_packet d.broker packet) refl))
  ]
