-- A connector keeps to its ledger's history, whatever step it takes.
use Rattle.std.proofs.Common.{◌≡◌, ℕ, ◌+◌, ◌-◌, ◌<◌, ◌≤◌, ◌⊎◌, true, List, [], ◌∷◌, ◌++◌, length, take, refl, sym, ap, ap₂, ◌∙◌, subst, inl, inr, append_assoc, append-nil, arith}
use Rattle.std.specs.Prelude.{◌==◌, ◌&&◌, not, nat_lt, Contains, Option, Some, None, Ok, slice_get}
use Rattle.std.specs.Option.{option_map}
use Rattle.std.proofs.lemmas.Bool.{and_parts, cases_Bool, eqb-false, eqb-true, leb-true}
use Rattle.std.proofs.lemmas.List.{length-take}
use Rattle.std.proofs.lemmas.List.Elements.{Contains-append_left, Contains-append_right, Contains-push}
use Rattle.std.proofs.lemmas.Option.{cond_some, none-some, same_Some, slice_get_within}
use Rattle.cdc_ledger.specs.Events.{events}
use Rattle.cdc_ledger.specs.History.{History}
use Rattle.cdc_laws.specs.Arrivals.{AreAmong}
use Rattle.cdc_laws.specs.ConnectorRuns.{AreConfirmed, AreSessions, IsBase, IsConfirmed, IsConfirmedTo, IsConnectorRun, Shown, packets_of, publishes_from, sent_by}
use Rattle.cdc_laws.specs.Connectors.{ConnectorState, IsLive, KeepsTo, SendsInTurn, after_confirm, held_number, held_start, held_timestamp, shown_of}
use Rattle.cdc_laws.specs.GoingOn.{GoesOn}
use Rattle.cdc_laws.specs.Line.{emitted}
use Rattle.cdc_laws.proofs.Bases.{prefix_has, emitted_at}
use Rattle.cdc_laws.proofs.Courses.{IsPrefix-take, MayFollow-course, confirmed_cases, each_number, end_at, publishes_from-push, reaches, take_one}
use Rattle.cdc_laws.proofs.Lines.{events_after-goes_on}
use Rattle.cdc_laws.proofs.ListElements.{Contains-cons_cases, none_there, slice_get-append}
use Rattle.cdc_laws.proofs.LongerRuns.{AreSessions-goes_on, IsPrefix-longer}
use Rattle.cdc_laws.proofs.Sessions.{AreConfirmed-more, AreSessions-more, IsBase-more}
use Rattle.cdc_log.specs.Log.{events_after}
use Rattle.cdc_message.specs.declared.items.Item.{Item}
use Rattle.cdc_message.specs.declared.items.Item.TheVariants.{Event as OfEvent, EndMark}
use Rattle.cdc_message.specs.declared.packets.Answer.{Answer}
use Rattle.cdc_message.specs.declared.packets.Answer.TheVariants.{Confirmed}
use Rattle.cdc_message.specs.declared.packets.Confirm.{Confirm}
use Rattle.cdc_message.specs.declared.packets.Packet.{Packet}
use Rattle.cdc_message.specs.declared.packets.Packet.TheVariants.{Connect, Publish}
use Rattle.cdc_message.specs.Replays.{IsPrefix}
use Rattle.cdc_publisher.specs.Records.{Saved}
use Rattle.cdc_publisher.specs.Courses.{Course, after_answer, begun, confirmed_timestamp, first_saved, is_confirmed, is_sent, last_session, may_end, new_course, next_packet, progress_of, publish_packet, tags_sent, takes_confirm, with_confirm, with_sent}
use Rattle.cdc_types.specs.declared.events.Event.{Event}

-- a connector keeps to a history by the packets that it has sent and the confirms that it has received
pub IsConnectorRun-keeps : (h : History) (c : ConnectorState) → KeepsTo h c
    → IsConnectorRun h (held_start c.held) c.sent c.confirms
IsConnectorRun-keeps h c keeps = record { sessions = keeps.sessions; makes = keeps.makes; each = keeps.each }

-- ---- it begins

-- a store holds nothing, or a timestamp that is its start
pub KeepsTo-begin : (h : History) (held : Option Saved) → held_timestamp held ≡ held_start held
    → KeepsTo h (record { held = held; session = None; sent = []; confirms = [] })
KeepsTo-begin h held none = record {
  sessions = [];
  makes = refl;
  each = tt;
  numbers = λ s there. absurd (none_there s there);
  none_yet = λ nothing. (refl, refl);
  base = inl none;
  live = λ course there. absurd (none-some course there);
}

-- ---- its session stops

-- no session runs, and what was sent and received stays
pub KeepsTo-end : (h : History) (c : ConnectorState) → KeepsTo h c → KeepsTo h (record c { session = None })
KeepsTo-end h c keeps = record {
  sessions = keeps.sessions;
  makes = keeps.makes;
  each = keeps.each;
  numbers = keeps.numbers;
  none_yet = λ nothing. ((keeps.none_yet nothing).0, refl);
  base = keeps.base;
  live = λ course there. absurd (none-some course there);
}

-- ---- a session starts

-- what is saved when a session begins: its number is new; if nothing was held, its timestamp is its start, and
-- otherwise both stay
record Begins (held : Option Saved) (saved : Saved) : Type 0 where
  number : held_number held < saved.session
  from : ((held ≡ None) × (saved.timestamp ≡ saved.start))
      ⊎ ((saved.timestamp ≡ held_timestamp held) × (saved.start ≡ held_start held))

begun_parts : (held : Option Saved) (at : Option ℕ) (saved : Saved) → begun held at ≡ Ok saved → Begins held saved
begun_parts None at saved is =
    let same : first_saved at ≡ saved = cc in
    subst (Begins None) same (record { number = omega arith; from = inl (refl, refl) })
begun_parts (Some held) (Some time) saved is = cc
begun_parts (Some held) None saved is =
    elim (cases_Bool (held.session == last_session)) [
      | inl last ↦ let none = rw last at is in cc
      | inr more ↦
          let next = rw more at is in
          let same : record held { session = held.session + 1 } ≡ saved = cc in
          subst (Begins (Some held)) same (record { number = omega arith; from = inr (refl, refl) })
    ]

-- a session that begins so is live, so a connector keeps to its history, whether or not sessions came before it
KeepsTo-new : (h : History) (c : ConnectorState) (saved : Saved) (window : ℕ) (sessions : List Shown)
    → sent_by sessions ≡ c.sent → AreSessions h saved.start c.confirms sessions
    → IsBase saved.start c.confirms sessions saved.timestamp
    → ((s : Shown) → Contains sessions s → s.number < saved.session)
    → KeepsTo h (record c { held = Some saved; session = Some (new_course saved window) })
KeepsTo-new h c saved window sessions makes each base above = record {
  sessions = sessions;
  makes = makes;
  each = each;
  numbers = λ s there. let low = above s there in omega (arith, low);
  none_yet = λ nothing. absurd (none-some saved (sym nothing));
  base = base;
  live = λ course there.
      rw (← same_Some (new_course saved window) course there)
      (record {
        its = refl;
        starts = refl;
        offered = record { rest = events_after saved.timestamp (events h); whole = refl };
        complete = λ is. cc;
        confirmed = λ tag is. cc;
        in_turn = inl (omega arith);
        last = inl (refl, base, above);
      });
}

-- the new number is held, and its session comes to be or not
pub KeepsTo-start : (h : History) (c : ConnectorState) (at : Option ℕ) (saved : Saved) (window : ℕ) → KeepsTo h c
    → begun c.held at ≡ Ok saved
    → KeepsTo h (record c { held = Some saved; session = Some (new_course saved window) })
KeepsTo-start h c at saved window keeps new =
    let begins = begun_parts c.held at saved new in
    elim begins.from [
      | inl first ↦
          KeepsTo-new h c saved window [] (ap sent_by (sym (keeps.none_yet first.0).0) ∙ keeps.makes) tt (inl first.1)
          (λ s there. absurd (none_there s there))
      | inr goes_on ↦
          KeepsTo-new h c saved window keeps.sessions keeps.makes (rw goes_on.1 keeps.each)
          (rw (goes_on.0, goes_on.1) keeps.base)
          (λ s there. let low = keeps.numbers s there in omega (arith, low, begins.number))
    ]

-- if saving fails, the new number may be held without a session
pub KeepsTo-half_started : (h : History) (c : ConnectorState) (at : Option ℕ) (saved : Saved) → KeepsTo h c
    → begun c.held at ≡ Ok saved → KeepsTo h (record c { held = Some saved; session = None })
KeepsTo-half_started h c at saved keeps new = KeepsTo-end h _ (KeepsTo-start h c at saved 1 keeps new)

-- ---- it sends a packet

-- a timestamp after which a session may begin stays one after another session is added
IsBase-older : (start : ℕ) (confirms : List Confirm) (sessions : List Shown) (s : Shown) (t : ℕ)
    → IsBase start confirms sessions t → IsBase start confirms (s ∷ sessions) t
IsBase-older start confirms sessions s t (inl none) = inl none
IsBase-older start confirms sessions s t (inr (other, among, which)) =
    inr (other, Contains-append_right (s ∷ []) sessions other among, which)

-- and when the latest publishes more items
IsBase-longer : (start : ℕ) (confirms : List Confirm) (earlier : List Shown) (s : Shown) (more : List Item) (t : ℕ)
    → IsBase start confirms (s ∷ earlier) t → IsBase start confirms (record s { items = s.items ++ more } ∷ earlier) t
IsBase-longer start confirms earlier s more t (inl none) = inl none
IsBase-longer start confirms earlier s more t (inr (other, among, which)) =
    elim (Contains-cons_cases s earlier other among) [
      | inl is ↦
          elim which [
            | inl same ↦ inr (_, (0, omega arith, refl), inl (ap (λ (x : Shown). x.base) is ∙ same))
            | inr to ↦
                let own : IsConfirmedTo confirms s t = rw is to in
                let longer : IsConfirmedTo confirms (record s { items = s.items ++ more }) t = record {
                  place = own.place;
                  event = own.event;
                  published = slice_get-append s.items more own.place (OfEvent own.event) own.published;
                  at = own.at;
                  confirmed = own.confirmed;
                } in
                inr (_, (0, omega arith, refl), inr longer)
          ]
      | inr old ↦ inr (other, Contains-append_right (_ ∷ []) earlier other old, which)
    ]

-- if a session runs, something is held
pub none_held : (h : History) (c : ConnectorState) → KeepsTo h c → c.held ≡ None → (course : Course)
    → c.session ≡ Some course → ⊥
none_held h c keeps nothing course runs = none-some course (sym (keeps.none_yet nothing).1 ∙ runs)

module _ (h : History) (c : ConnectorState) (keeps : KeepsTo h c) (course : Course)
    (runs : c.session ≡ Some course) where
  -- the session after one more packet
  abbrev on : Course
  on = record course { sent = course.sent + 1 }

  -- one more packet is sent in turn, if the session may follow those before it
  KeepsTo-on : (packet : Packet) (earlier : List Shown) → sent_by (shown_of on ∷ earlier) ≡ c.sent ++ packet ∷ []
      → AreSessions h (held_start c.held) c.confirms earlier
      → ((s : Shown) → Contains earlier s → s.number < course.number)
      → IsBase (held_start c.held) c.confirms earlier course.base → SendsInTurn c.confirms on
      → IsBase (held_start c.held) c.confirms (shown_of on ∷ earlier) (held_timestamp c.held)
      → KeepsTo h (record c { session = Some on; sent = c.sent ++ packet ∷ [] })
  KeepsTo-on packet earlier makes each above first in_turn base =
      let live = keeps.live course runs in
      record {
        sessions = shown_of on ∷ earlier;
        makes = makes;
        each = (MayFollow-course h c.confirms on live.offered live.complete _ earlier above first in_turn, each);
        numbers = λ s there.
            elim (Contains-cons_cases (shown_of on) earlier s there) [
              | inl is ↦ let number = ap (λ (x : Shown). x.number) is in omega (arith, number, live.its)
              | inr old ↦ let low = above s old in omega (arith, low, live.its)
            ];
        none_yet = λ nothing. absurd (none_held h c keeps nothing course runs);
        base = base;
        live = λ other there.
            rw (← same_Some on other there)
            (record {
              its = live.its;
              starts = live.starts;
              offered = live.offered;
              complete = live.complete;
              confirmed = λ tag is. let was = live.confirmed tag is in (omega (arith, was.0), was.1);
              in_turn = in_turn;
              last = inr (omega arith, (earlier, refl));
            });
      }

  -- it connects
  KeepsTo-connect : course.sent ≡ 0
      → KeepsTo h (record c { session = Some on; sent = c.sent ++ Connect course.number ∷ [] })
  KeepsTo-connect first =
      let nothing : tags_sent on ≡ 0 = omega (arith, first) in
      let none : (shown_of on).items ≡ [] = ap (λ n. take n (emitted course.offered true)) nothing in
      elim (keeps.live course runs).last [
        | inl new ↦
            KeepsTo-on (Connect course.number) keeps.sessions
            (ap₂ (λ ps items. ps ++ Connect course.number ∷ publishes_from course.number 1 items) keeps.makes none)
            keeps.each new.2 new.1 (inl (omega (arith, first)))
            (IsBase-older _ c.confirms keeps.sessions (shown_of on) (held_timestamp c.held) keeps.base)
        | inr old ↦ absurd (omega (arith, first, old.0))
      ]

  -- it publishes the item that comes next
  KeepsTo-publish : (item : Item) → 0 < course.sent
      → slice_get (emitted course.offered true) (tags_sent course) ≡ Some item → SendsInTurn c.confirms on
      → KeepsTo h
      (record c { session = Some on; sent = c.sent ++ Publish course.number course.sent item ∷ [] })
  KeepsTo-publish item some here in_turn =
      elim (keeps.live course runs).last [
        | inl new ↦ absurd (omega (arith, some, new.0))
        | inr (_, (earlier, is)) ↦
            let all : List Item = emitted course.offered true in
            let each : AreSessions h (held_start c.held) c.confirms (shown_of course ∷ earlier) = rw is at keeps.each in
            let items : (shown_of on).items ≡ (shown_of course).items ++ item ∷ [] =
            ap (λ n. take n all) (omega (arith, some)) ∙ take_one (tags_sent course) all item here in
            let within = slice_get_within all (tags_sent course) item here in
            let tag : 1 + length (shown_of course).items ≡ course.sent =
            omega (arith, length-take (tags_sent course) all, within, some) in
            let packets : publishes_from course.number 1 (shown_of on).items
            ≡ publishes_from course.number 1 (shown_of course).items ++ Publish course.number course.sent item ∷ [] =
            ap (publishes_from course.number 1) items
            ∙ publishes_from-push course.number 1 (shown_of course).items item
            ∙ ap (λ n. publishes_from course.number 1 (shown_of course).items ++ Publish course.number n item ∷ [])
            tag in
            KeepsTo-on (Publish course.number course.sent item) earlier
            (ap (λ ps. sent_by earlier ++ Connect course.number ∷ ps) packets
            ∙ sym (append_assoc (sent_by earlier) (packets_of (shown_of course)) _)
            ∙ ap (λ ps. ps ++ Publish course.number course.sent item ∷ []) (ap sent_by (sym is) ∙ keeps.makes))
            each.1 each.0.above each.0.base in_turn
            (rw items (IsBase-longer _ c.confirms earlier (shown_of course) (item ∷ []) _ (rw is at keeps.base)))
      ]

  -- an event, or the end mark once each tag before it was confirmed
  KeepsTo-next : (event : Option Event) (packet : Packet) → 0 < course.sent
      → slice_get course.offered (tags_sent course) ≡ event → publish_packet course event ≡ Some packet
      → KeepsTo h (record c { session = Some on; sent = c.sent ++ packet ∷ [] })
  KeepsTo-next (Some event) packet some there is =
      let below = slice_get_within course.offered (tags_sent course) event there in
      rw (← same_Some (Publish course.number course.sent (OfEvent event)) packet is)
      (KeepsTo-publish (OfEvent event) some (emitted_at course.offered true (tags_sent course) event there)
      (inl (omega (arith, below, some))))
  KeepsTo-next None packet some there is =
      let ends =
      cond_some (may_end course && (tags_sent course == length course.offered))
      (Publish course.number course.sent EndMark) packet is in
      let tests = and_parts (may_end course) _ ends.0 in
      let parts = and_parts course.complete _ tests.0 in
      let confirmed : AreConfirmed c.confirms course.number (length course.offered) =
      λ tag above low.
      ((keeps.live course runs).confirmed tag
      (each_number (is_confirmed course) 1 _ tag parts.1 (omega (arith, above)) (omega (arith, low)))).1 in
      rw (← ends.1)
      (KeepsTo-publish EndMark some
      (ap (slice_get (emitted course.offered true)) (eqb-true (tags_sent course) _ tests.1) ∙ end_at course.offered)
      (inr (parts.0, confirmed)))

  -- so a connector keeps to its history when its session sends its next packet
  pub KeepsTo-sent : (packet : Packet) → next_packet course ≡ Some packet
      → KeepsTo h (record c { session = Some (with_sent (Some packet) course); sent = c.sent ++ packet ∷ [] })
  KeepsTo-sent packet is =
      elim (cases_Bool (course.sent == 0)) [
        | inl first ↦
            rw (← same_Some (Connect course.number) packet (rw first at is))
            (KeepsTo-connect (eqb-true course.sent 0 first))
        | inr later ↦
            let some : 0 < course.sent = omega (arith, eqb-false course.sent 0 later) in
            KeepsTo-next (slice_get course.offered (tags_sent course)) packet some refl (rw later at is)
      ]

-- ---- a confirm comes

-- more confirms, of this session or earlier ones, change nothing of what was sent, nor of the turn in which it is sent,
-- so a session stays live
IsLive-more : (h : History) (start : ℕ) (confirms more : List Confirm) → AreAmong confirms more
    → (sessions : List Shown) (number : ℕ) (course : Course) → IsLive h start confirms sessions number course
    → IsLive h start more sessions number course
IsLive-more h start confirms more kept sessions number course live = record {
  its = live.its;
  starts = live.starts;
  offered = live.offered;
  complete = live.complete;
  confirmed = λ tag is. let was = live.confirmed tag is in (was.0, kept _ was.1);
  in_turn = elim live.in_turn [
    | inl within ↦ inl within
    | inr ends ↦ inr (ends.0, AreConfirmed-more confirms more kept course.number _ ends.1)
  ];
  last = elim live.last [
    | inl new ↦ inl (new.0, IsBase-more confirms more kept start sessions course.base new.1, new.2)
    | inr old ↦ inr old
  ];
}

-- and one that counts a confirm that came for it does too
IsLive-confirmed : (h : History) (start : ℕ) (confirms : List Confirm) (sessions : List Shown)
    (number session tag : ℕ) (course : Course) → IsLive h start confirms sessions number course
    → IsConfirmed confirms session tag → IsLive h start confirms sessions number (with_confirm session tag course)
IsLive-confirmed h start confirms sessions number session tag course live there =
    elim (cases_Bool (takes_confirm course session tag)) [
      | inr not ↦ rw not live
      | inl takes ↦
          let tests = and_parts (session == course.number) _ takes in
          let own = eqb-true session course.number tests.0 in
          let sent = (and_parts (is_sent course tag) _ tests.1).0 in
          let low = leb-true tag (tags_sent course) (and_parts (nat_lt 0 tag) _ sent).1 in
          rw takes
          (record {
            its = live.its;
            starts = live.starts;
            offered = live.offered;
            complete = live.complete;
            confirmed = λ other is.
                elim (confirmed_cases course tag other is) [
                  | inl old ↦ live.confirmed other old
                  | inr same ↦ (omega (arith, low, same), rw (own, same) at there)
                ];
            in_turn = live.in_turn;
            last = live.last;
          })
    ]

-- whatever the broker answers
IsLive-answered : (h : History) (start : ℕ) (confirms : List Confirm) (sessions : List Shown) (number : ℕ)
    (confirm : Confirm) (course : Course) → IsLive h start confirms sessions number course
    → Contains confirms confirm
    → IsLive h start confirms sessions number (after_answer course confirm.session confirm.answer)
IsLive-answered h start confirms sessions number confirm course live there = by_answer confirm.answer refl
  where
    by_answer : (answer : Answer) → answer ≡ confirm.answer
        → IsLive h start confirms sessions number (after_answer course confirm.session answer)
    by_answer (Confirmed tag) is =
        IsLive-confirmed h start confirms sessions number confirm.session tag course live
        (subst (λ (a : Answer). Contains confirms (record { session = confirm.session; answer = a })) (sym is) there)
    by_answer other is = live

-- a session after an answer is one that was there before
mapped : (f : Course → Course) (session : Option Course) (course : Course) → option_map f session ≡ Some course
    → (before : Course) × ((session ≡ Some before) × (f before ≡ course))
mapped f None course there = absurd (none-some course there)
mapped f (Some before) course there = (before, (refl, same_Some (f before) course there))

-- so a connector keeps to its history when a confirm comes
pub KeepsTo-confirm : (h : History) (c : ConnectorState) (confirm : Confirm) → KeepsTo h c
    → KeepsTo h (after_confirm confirm c)
KeepsTo-confirm h c confirm keeps =
    let start : ℕ = held_start c.held in
    let more : List Confirm = c.confirms ++ confirm ∷ [] in
    let kept : AreAmong c.confirms more = λ x there. Contains-append_left c.confirms (confirm ∷ []) x there in
    record {
      sessions = keeps.sessions;
      makes = keeps.makes;
      each = AreSessions-more c.confirms more kept h start keeps.sessions keeps.each;
      numbers = keeps.numbers;
      none_yet = λ nothing.
          let none = keeps.none_yet nothing in
          (none.0, ap (option_map (λ x. after_answer x confirm.session confirm.answer)) none.1);
      base = IsBase-more c.confirms more kept start keeps.sessions (held_timestamp c.held) keeps.base;
      live = λ course there.
          let before = mapped (λ x. after_answer x confirm.session confirm.answer) c.session course there in
          subst (IsLive h start more keeps.sessions (held_number c.held)) before.1.1
          (IsLive-answered h start more keeps.sessions (held_number c.held) confirm before.0
          (IsLive-more h start c.confirms more kept keeps.sessions (held_number c.held) before.0
          (keeps.live before.0 before.1.0)) (Contains-push c.confirms confirm));
    }

-- ---- it saves

-- what a session saves is a timestamp after which the next may begin
saved_base : (h : History) (c : ConnectorState) (keeps : KeepsTo h c) (course : Course) → c.session ≡ Some course
    → IsBase (held_start c.held) c.confirms keeps.sessions (confirmed_timestamp course)
saved_base h c keeps course runs =
    let live = keeps.live course runs in
    elim (reaches course 1 course.base course.offered) [
      | inl same ↦
          rw same
          (elim live.last [
            | inl new ↦ new.1
            | inr (_, (earlier, is)) ↦ inr (shown_of course, rw is (0, omega arith, refl), inl refl)
          ])
      | inr at ↦
          let tags : (tag : ℕ) → 0 < tag → tag ≤ at.place + 1 → is_confirmed course tag ≡ true =
          λ tag above low.
          let this : 1 + (tag - 1) ≡ tag = omega (arith, above) in
          rw this at (at.all (tag - 1) (omega (arith, low, above))) in
          let last = live.confirmed (at.place + 1) (tags (at.place + 1) (omega arith) (omega arith)) in
          elim live.last [
            | inl new ↦ absurd (omega (arith, new.0, last.0))
            | inr (_, (earlier, is)) ↦
                let all : List Item = emitted course.offered true in
                let here = emitted_at course.offered true at.place at.event at.here in
                let within = slice_get_within all at.place (OfEvent at.event) here in
                let to : IsConfirmedTo c.confirms (shown_of course) (confirmed_timestamp course) = record {
                  place = at.place;
                  event = at.event;
                  published = prefix_has (shown_of course).items all at.place (OfEvent at.event)
                      (IsPrefix-take (tags_sent course) all)
                      (omega (arith, last.0, within, length-take (tags_sent course) all)) here;
                  at = at.at;
                  confirmed = λ tag above low. (live.confirmed tag (tags tag above low)).1;
                } in
                inr (shown_of course, rw is (0, omega arith, refl), inr to)
          ]
    ]

-- so a connector keeps to its history when it saves
pub KeepsTo-save : (h : History) (c : ConnectorState) (course : Course) → KeepsTo h c → c.session ≡ Some course
    → KeepsTo h (record c { held = Some (progress_of course) })
KeepsTo-save h c course keeps runs =
    let live = keeps.live course runs in
    record {
      sessions = keeps.sessions;
      makes = keeps.makes;
      each = rw live.starts keeps.each;
      numbers = λ s there. let low = keeps.numbers s there in omega (arith, low, live.its);
      none_yet = λ nothing. absurd (none-some (progress_of course) (sym nothing));
      base = rw live.starts (saved_base h c keeps course runs);
      live = λ other there. rw (live.its, live.starts) (keeps.live other there);
    }

-- ---- the ledger goes on

-- a session stays live: the events that it was offered are still the first ones after its base when later ones are
-- added, and if it is complete, none are added
IsLive-goes_on : (h g : History) (start : ℕ) → GoesOn h g → (confirms : List Confirm) (sessions : List Shown)
    (number : ℕ) (course : Course) → IsLive h start confirms sessions number course
    → IsLive g start confirms sessions number course
IsLive-goes_on h g start on confirms sessions number course live =
    let new : List Event = events_after course.base on.new in
    let longer : events_after course.base (events g) ≡ events_after course.base (events h) ++ new =
    events_after-goes_on h g course.base on in
    record {
      its = live.its;
      starts = live.starts;
      offered = subst (IsPrefix course.offered) (sym longer)
          (IsPrefix-longer course.offered (events_after course.base (events h)) new live.offered);
      complete = λ is.
          let all = live.complete is in
          let shut = on.shut all.0 in (
            shut.0,
            all.1
                ∙ sym (append-nil (events_after course.base (events h)))
                ∙ ap (λ es. events_after course.base (events h) ++ events_after course.base es) (sym shut.1)
                ∙ sym longer,
          );
      confirmed = live.confirmed;
      in_turn = live.in_turn;
      last = live.last;
    }

-- so a connector keeps to every history that goes on from one that it keeps to
pub KeepsTo-goes_on : (h g : History) (c : ConnectorState) → GoesOn h g → KeepsTo h c → KeepsTo g c
KeepsTo-goes_on h g c on keeps = record {
  sessions = keeps.sessions;
  makes = keeps.makes;
  each = AreSessions-goes_on h g (held_start c.held) c.confirms on keeps.sessions keeps.each;
  numbers = keeps.numbers;
  none_yet = keeps.none_yet;
  base = keeps.base;
  live = λ course runs.
      IsLive-goes_on h g (held_start c.held) on c.confirms keeps.sessions (held_number c.held) course
      (keeps.live course runs);
}
