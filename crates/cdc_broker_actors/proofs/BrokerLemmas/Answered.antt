-- How the broker actor handles packets: which of them arrive, and that each is answered once.
use Rattle.cdc_broker_actors.proofs.Words.{◌++◌, ◌+◌, ◌∙◌, ◌∷◌, ◌≡◌, ◌⊎◌, Answer, ArrivedWasReceived, Bool, Broken, BrokerPlan, Confirm, Connect, Contains, Contains-append_right, Contains-push_cases, Dealings, EachPacketIsAnswered, List, Packet, Publish, UnlostArrives, [], answer_after, ap, append-nil, append_assoc, arith, confirm_of, false, fold, inl, inr, is_listed, is_lost, map, map-append, no_dealings, refl, sym, taken_of, true, with_packet, ℕ}
use Rattle.cdc_laws.specs.Takings.{session_of}
use Rattle.cdc_laws.proofs.ListElements.{none_there}

-- ---- what arrives

-- what there is with a packet more
step_cases : (plan : BrokerPlan) (d : Dealings) (packet : Packet) (lost : Bool) (x : Packet)
    → is_lost plan d.publishes packet ≡ lost → Contains (with_packet plan d packet).arrived x
    → Contains d.arrived x ⊎ (packet ≡ x)
step_cases plan d packet true x is there =
    let here : (with_packet plan d packet).arrived ≡ d.arrived = rw is refl in
    inl (rw here at there)
step_cases plan d packet false x is there =
    let here : (with_packet plan d packet).arrived ≡ d.arrived ++ packet ∷ [] = rw is refl in
    Contains-push_cases d.arrived packet x (rw here at there)

arrived_from : (plan : BrokerPlan) (d : Dealings) (packets : List Packet) (x : Packet)
    → Contains (fold (with_packet plan) d packets).arrived x → Contains d.arrived x ⊎ Contains packets x
arrived_from plan d [] x there = inl there
arrived_from plan d (packet ∷ packets) x there =
    elim (arrived_from plan (with_packet plan d packet) packets x there) [
      | inl old ↦
          elim (step_cases plan d packet (is_lost plan d.publishes packet) x refl old) [
            | inl older ↦ inl older
            | inr is ↦ inr (0, omega arith, is)
          ]
      | inr later ↦ inr (Contains-append_right (packet ∷ []) packets x later)
    ]

pub arrived_was_received : ArrivedWasReceived
arrived_was_received plan packets x there = elim (arrived_from plan no_dealings packets x there) [
  | inl none ↦ absurd (none_there x none)
  | inr received ↦ received
]

-- ---- what is answered

-- a confirm is of its packet's session
its_session : (packet : Packet) (answer : Answer) → (confirm_of packet answer).session ≡ session_of packet
its_session (Connect session) answer = refl
its_session (Publish session tag item) answer = refl

abbrev sessions_in : List Confirm → List ℕ
sessions_in confirms = map (λ (c : Confirm). c.session) confirms

-- one more
answered_push : (confirms : List Confirm) (packet : Packet) (answer : Answer)
    → sessions_in (confirms ++ confirm_of packet answer ∷ []) ≡ sessions_in confirms ++ session_of packet ∷ []
answered_push confirms packet answer =
    map-append (λ (c : Confirm). c.session) confirms (confirm_of packet answer ∷ [])
    ∙ ap (λ (n : ℕ). sessions_in confirms ++ n ∷ []) (its_session packet answer)

answered_step : (plan : BrokerPlan) (d : Dealings) (packet : Packet) (lost : Bool)
    → is_lost plan d.publishes packet ≡ lost
    → sessions_in (with_packet plan d packet).confirms ≡ sessions_in d.confirms ++ session_of packet ∷ []
answered_step plan d packet true is = rw is (answered_push d.confirms packet Broken)
answered_step plan d packet false is =
    rw is (answered_push d.confirms packet (answer_after plan (taken_of d.arrived) packet))

answered_from : (plan : BrokerPlan) (d : Dealings) (packets : List Packet)
    → sessions_in (fold (with_packet plan) d packets).confirms ≡ sessions_in d.confirms ++ map session_of packets
answered_from plan d [] = sym (append-nil (sessions_in d.confirms))
answered_from plan d (packet ∷ packets) =
    answered_from plan (with_packet plan d packet) packets
    ∙ ap (λ (l : List ℕ). l ++ map session_of packets)
    (answered_step plan d packet (is_lost plan d.publishes packet) refl)
    ∙ append_assoc (sessions_in d.confirms) (session_of packet ∷ []) (map session_of packets)

pub each_packet_is_answered : EachPacketIsAnswered
each_packet_is_answered plan packets = answered_from plan no_dealings packets

-- ---- without loss

unlost : (plan : BrokerPlan) (n : ℕ) (packet : Packet) → plan.lose_publish.items ≡ [] → is_lost plan n packet ≡ false
unlost plan n (Connect session) none = refl
unlost plan n (Publish session tag item) none = ap (λ (numbers : List ℕ). is_listed numbers (n + 1)) none

unlost_from : (plan : BrokerPlan) (d : Dealings) (packets : List Packet) → plan.lose_publish.items ≡ []
    → (fold (with_packet plan) d packets).arrived ≡ d.arrived ++ packets
unlost_from plan d [] none = sym (append-nil d.arrived)
unlost_from plan d (packet ∷ packets) none =
    let isnt : is_lost plan d.publishes packet ≡ false = unlost plan d.publishes packet none in
    let here : (with_packet plan d packet).arrived ≡ d.arrived ++ packet ∷ [] = rw isnt refl in
    unlost_from plan (with_packet plan d packet) packets none
    ∙ ap (λ (ps : List Packet). ps ++ packets) here
    ∙ append_assoc d.arrived (packet ∷ []) packets

pub unlost_arrives : UnlostArrives
unlost_arrives plan packets none = unlost_from plan no_dealings packets none
