-- Where the sessions of a connector begin among its packets.
use Rattle.cdc_connector_actor.proofs.Words.{◌&&◌, ◌++◌, ◌+◌, ◌-◌, ◌<◌, ◌==◌, ◌∙◌, ◌∷◌, ◌≡◌, ◌⊎◌, Bool, Confirm, Connect, Contains-append_left, Course, EndMark, Event, IsBroken, IsInTurn, IsUnplanned, List, MayBeSent, MayConnect, MayPublish, MayRestart, None, OfEvent, Option, Packet, Publish, RestartsAsPlanned, Some, [], arith, cases_Bool, cond_some, eqb-false, eqb-true, false, inl, inr, is_planned, last_of, length, length-append, may_end, next_packet, none-some, publish_packet, refl, same_Some, session_of, slice_get, subst, suc, sym, tags_sent, true, with_sent, zero, ℕ}

-- ---- lists with one packet more

-- where such a list is split: at the packet that was added, or before it
record IsSplitBefore (sent earlier : List Packet) (packet : Packet) : Type 0 where
  pub later : List Packet
  pub whole : sent ≡ earlier ++ packet ∷ later

split-snoc : (sent : List Packet) (last : Packet) (earlier : List Packet) (packet : Packet) (later : List Packet)
    → sent ++ last ∷ [] ≡ earlier ++ packet ∷ later
    → ((earlier ≡ sent) × (packet ≡ last)) ⊎ IsSplitBefore sent earlier packet
split-snoc [] last [] packet later is = inl (refl, cc)
split-snoc [] last (first ∷ []) packet later is = absurd cc
split-snoc [] last (first ∷ second ∷ earlier) packet later is = absurd cc
split-snoc (first ∷ sent) last [] packet later is = inr (record { later = sent; whole = cc })
split-snoc (first ∷ sent) last (other ∷ earlier) packet later is =
    elim (split-snoc sent last earlier packet later cc) [
      | inl here ↦ inl (cc, here.1)
      | inr before ↦ inr (record { later = before.later; whole = cc })
    ]

at_end : (xs : List Packet) (x : Packet) (i : ℕ) → i ≡ length xs → slice_get (xs ++ x ∷ []) i ≡ Some x
at_end [] x zero is = refl
at_end [] x (suc i) is = absurd (omega (arith, is))
at_end (first ∷ xs) x zero is = absurd (omega (arith, is))
at_end (first ∷ xs) x (suc i) is = at_end xs x i (omega (arith, is))

pub last_of-snoc : (sent : List Packet) (last : Packet) → last_of (sent ++ last ∷ []) ≡ Some last
last_of-snoc sent last =
    let more = length-append sent (last ∷ []) in
    at_end sent last (length (sent ++ last ∷ []) - 1) (omega (arith, more))

-- the last packet is one and the same
same_last : (sent : List Packet) (last other : Packet) → last_of sent ≡ Some last → last_of sent ≡ Some other
    → last ≡ other
same_last sent last other is also = same_Some last other (sym is ∙ also)

-- nothing comes before a packet in no packets
none_before : (earlier : List Packet) (packet : Packet) (later : List Packet) → [] ≡ earlier ++ packet ∷ later → ⊥
none_before [] packet later is = cc
none_before (first ∷ earlier) packet later is = cc

-- ---- what was sent

module _ (plan : List ℕ) (honest : Bool) (confirms : List Confirm) where
  pub RestartsAsPlanned-none : RestartsAsPlanned plan honest confirms []
  RestartsAsPlanned-none earlier packet later is = absurd (none_before earlier packet later is)

  -- one packet more
  pub RestartsAsPlanned-sent : (sent : List Packet) (last : Packet) → RestartsAsPlanned plan honest confirms sent
      → MayBeSent plan honest confirms sent last → RestartsAsPlanned plan honest confirms (sent ++ last ∷ [])
  RestartsAsPlanned-sent sent last are may earlier packet later is =
      elim (split-snoc sent last earlier packet later is) [
        | inl here ↦
            rw here.0 (rw here.1 may)
        | inr before ↦ are earlier packet before.later before.whole
      ]

  -- one confirm more
  module _ (confirm : Confirm) where
    abbrev more : List Confirm
    more = confirms ++ confirm ∷ []

    still_broken : (session : ℕ) → IsBroken confirms session → IsBroken more session
    still_broken session there = Contains-append_left confirms (confirm ∷ []) _ there

    MayConnect-confirmed : (sent : List Packet) (session : ℕ) → MayConnect plan honest confirms sent session
        → MayConnect plan honest more sent session
    MayConnect-confirmed sent session may last is =
        let comes = may last is in
        record {
          cause = elim comes.cause [
            | inl planned ↦ inl planned
            | inr broken ↦ inr (still_broken (session_of last) broken)
          ];
          later = comes.later;
          between = λ gives other after before. still_broken other (comes.between gives other after before);
        }

    MayBeSent-confirmed : (sent : List Packet) (packet : Packet) → MayBeSent plan honest confirms sent packet
        → MayBeSent plan honest more sent packet
    MayBeSent-confirmed sent (Connect session) may = MayConnect-confirmed sent session may
    MayBeSent-confirmed sent (Publish session tag item) may = may

    pub RestartsAsPlanned-confirmed : (sent : List Packet) → RestartsAsPlanned plan honest confirms sent
        → RestartsAsPlanned plan honest more sent
    RestartsAsPlanned-confirmed sent are earlier packet later is =
        MayBeSent-confirmed earlier packet (are earlier packet later is)

    pub IsInTurn-confirmed : (sent : List Packet) (course : Course) → IsInTurn plan honest confirms sent course
        → IsInTurn plan honest more sent course
    IsInTurn-confirmed sent course is = record {
      connects = λ none. MayConnect-confirmed sent course.number (is.connects none);
      publishes = is.publishes;
    }

  -- ---- what is sent next

  module _ (sent : List Packet) (course : Course) (is : IsInTurn plan honest confirms sent course) where
    -- its publish packets, once it has connected
    publish_may : 0 < course.sent → (event : Option Event) (packet : Packet) → publish_packet course event ≡ Some packet
        → MayBeSent plan honest confirms sent packet × (session_of packet ≡ course.number)
    publish_may some (Some event) packet there =
        let same = same_Some (Publish course.number course.sent (OfEvent event)) packet there in
        subst (λ (p : Packet). MayBeSent plan honest confirms sent p × (session_of p ≡ course.number)) same
        (is.publishes some, refl)
    publish_may some None packet there =
        let ends =
        cond_some (may_end course && (tags_sent course == length course.offered))
        (Publish course.number course.sent EndMark) packet there in
        subst (λ (p : Packet). MayBeSent plan honest confirms sent p × (session_of p ≡ course.number)) ends.1
        (is.publishes some, refl)

    next_may : (packet : Packet) → next_packet course ≡ Some packet
        → MayBeSent plan honest confirms sent packet × (session_of packet ≡ course.number)
    next_may packet next =
        elim (cases_Bool (course.sent == 0)) [
          | inl first ↦
              let none : course.sent ≡ 0 = eqb-true course.sent 0 first in
              subst (λ (p : Packet). MayBeSent plan honest confirms sent p × (session_of p ≡ course.number))
              (same_Some (Connect course.number) packet (rw first at next)) (is.connects none, refl)
          | inr later ↦
              let some : 0 < course.sent = omega (arith, eqb-false course.sent 0 later) in
              publish_may some (slice_get course.offered (tags_sent course)) packet (rw later at next)
        ]

    pub MayBeSent-next : (packet : Packet) → next_packet course ≡ Some packet
        → MayBeSent plan honest confirms sent packet
    MayBeSent-next packet next = (next_may packet next).0

    pub session_of-next : (packet : Packet) → next_packet course ≡ Some packet → session_of packet ≡ course.number
    session_of-next packet next = (next_may packet next).1

-- ---- a packet was sent

-- the session is still next, if the plan doesn't name the packet
pub IsInTurn-sent : (plan : List ℕ) (honest : Bool) (confirms : List Confirm) (sent : List Packet) (course : Course)
    (packet : Packet) → session_of packet ≡ course.number → is_planned plan (sent ++ packet ∷ []) packet ≡ false
    → IsInTurn plan honest confirms (sent ++ packet ∷ []) (with_sent (Some packet) course)
IsInTurn-sent plan honest confirms sent course packet same unplanned = record {
  connects = λ none. absurd (omega (arith, none));
  publishes = λ some. record { last = packet; is_last = last_of-snoc sent packet; own = same; unplanned = unplanned };
}

-- ---- a session begins

-- nothing was sent before the first one
pub MayConnect-first : (plan : List ℕ) (honest : Bool) (confirms : List Confirm) (session : ℕ)
    → MayConnect plan honest confirms [] session
MayConnect-first plan honest confirms session last is = absurd (none-some last is)

module _ (plan : List ℕ) (honest : Bool) (confirms : List Confirm) (sent : List Packet) (before session : ℕ)
    (next : honest ≡ true → session ≡ before + 1) where
  none_between : honest ≡ true → (other : ℕ) → before < other → other < session → ⊥
  none_between gives other above below =
      let is = next gives in
      omega (arith, is, above, below)

  -- the plan names the last packet, which is of the session before
  pub MayConnect-planned : (packet : Packet) → last_of sent ≡ Some packet → session_of packet ≡ before
      → is_planned plan sent packet ≡ true → MayConnect plan honest confirms sent session
  MayConnect-planned packet there of planned last is =
      let same : packet ≡ last = same_last sent packet last there is in
      subst (λ (p : Packet). MayRestart plan honest confirms sent session p) same
      (record {
        cause = inl planned;
        later = λ gives. let is_next = next gives in omega (arith, of, is_next);
        between = λ gives other above below.
            absurd (none_between gives other (rw of at above) below);
      })

  -- a packet of the session before was lost
  module _ (broken : IsBroken confirms before) where
    -- which had connected
    after_publishing : MayPublish plan sent before → MayConnect plan honest confirms sent session
    after_publishing may last is =
        let same : may.last ≡ last = same_last sent may.last last may.is_last is in
        subst (λ (p : Packet). MayRestart plan honest confirms sent session p) same
        (record {
          cause = inr (rw may.own broken);
          later = λ gives. let is_next = next gives in let of = may.own in omega (arith, of, is_next);
          between = λ gives other above below.
              absurd (none_between gives other (rw may.own at above) below);
        })

    -- or hadn't
    after_begun : MayConnect plan honest confirms sent before → MayConnect plan honest confirms sent session
    after_begun may last is =
        let comes = may last is in
        record {
          cause = comes.cause;
          later = λ gives. let is_next = next gives in let was = comes.later gives in omega (arith, was, is_next);
          between = λ gives other above below.
              elim (cases_Bool (other == before)) [
                | inl here ↦ rw (eqb-true other before here) broken
                | inr elsewhere ↦
                    let is_next = next gives in
                    let apart = eqb-false other before elsewhere in
                    comes.between gives other above (omega (arith, is_next, apart, below))
              ];
        }

    pub MayConnect-broken : (course : Course) → course.number ≡ before → IsInTurn plan honest confirms sent course
        → MayConnect plan honest confirms sent session
    MayConnect-broken course of is =
        elim (cases_Bool (course.sent == 0)) [
          | inl none ↦
              after_begun (rw of at (is.connects (eqb-true course.sent 0 none)))
          | inr some ↦
              let apart = eqb-false course.sent 0 some in
              after_publishing (rw of at (is.publishes (omega (arith, apart))))
        ]

-- so the session that begins is next
pub IsInTurn-begun : (plan : List ℕ) (honest : Bool) (confirms : List Confirm) (sent : List Packet) (course : Course)
    → course.sent ≡ 0 → MayConnect plan honest confirms sent course.number → IsInTurn plan honest confirms sent course
IsInTurn-begun plan honest confirms sent course none may =
    record { connects = λ _. may; publishes = λ some. absurd (omega (arith, none, some)) }

-- a session stays in turn as long as it sends nothing
pub IsInTurn-same : (plan : List ℕ) (honest : Bool) (confirms : List Confirm) (sent : List Packet)
    (course next : Course) → next.sent ≡ course.sent → next.number ≡ course.number
    → IsInTurn plan honest confirms sent course → IsInTurn plan honest confirms sent next
IsInTurn-same plan honest confirms sent course next same number is = record {
  connects = λ none. rw number (is.connects (sym same ∙ none));
  publishes = λ some. rw number (is.publishes (rw same at some));
}

-- ---- the last packet

-- if a session is in turn that has connected, no restart is due
pub unplanned_last : (plan : List ℕ) (honest : Bool) (confirms : List Confirm) (sent : List Packet) (course : Course)
    → 0 < course.sent → IsInTurn plan honest confirms sent course → IsUnplanned plan sent
unplanned_last plan honest confirms sent course some is packet there =
    let may = is.publishes some in
    let same : may.last ≡ packet = same_last sent may.last packet may.is_last there in
    rw same at may.unplanned
