-- A session is offered the events that a reading of its ledger has.
use Rattle.std.proofs.Common.{◌≡◌, ℕ, ◌≤◌, Bool, true, List, [], ◌∷◌, ◌++◌, length, map, take, drop, refl, sym, ap, ap₂, ◌∙◌, inl, inr, append_assoc, append-nil, arith}
use Rattle.std.specs.Prelude.{◌&&◌, nat_le, Some}
use Rattle.std.proofs.lemmas.Bool.{and_parts, le-leb, leb-true}
use Rattle.std.proofs.lemmas.List.{length-append, length-map, map-append, take-append-drop, take-append-le, take_all}
use Rattle.std.proofs.lemmas.Option.{same_Some}
use Rattle.cdc_ledger.specs.Events.{events}
use Rattle.cdc_ledger.specs.History.{History}
use Rattle.cdc_ledger.specs.Sound.{IsSound}
use Rattle.cdc_laws.specs.ConnectorRuns.{Shown}
use Rattle.cdc_laws.specs.Connectors.{ConnectorState, IsLive, KeepsTo, SendsInTurn, StandsLast, shown_of}
use Rattle.cdc_laws.specs.GoingOn.{GoesOn}
use Rattle.cdc_laws.specs.Line.{emitted}
use Rattle.cdc_laws.specs.Readings.{AreReadings, IsOf, KeepsToReadings, Reading}
use Rattle.cdc_laws.proofs.Connectors.{KeepsTo-goes_on, none_held}
use Rattle.cdc_laws.proofs.GoingOn.{GoesOn-trans}
use Rattle.cdc_laws.proofs.Lines.{split_events}
use Rattle.cdc_laws.proofs.Splits.{SplitsAt-later, events_after-split}
use Rattle.cdc_log.specs.Log.{events_after}
use Rattle.cdc_message.specs.declared.items.Item.{Item}
use Rattle.cdc_message.specs.declared.items.Item.TheVariants.{Event as OfEvent, EndMark}
use Rattle.cdc_message.specs.declared.packets.Confirm.{Confirm}
use Rattle.cdc_message.specs.Replays.{IsPrefix}
use Rattle.cdc_publisher.specs.Courses.{Course, tags_sent, with_offer}
use Rattle.cdc_types.specs.declared.events.Event.{Event}
use Rattle.cdc_types.specs.Timestamps.{last_timestamp_from}

-- a prefix of the events is the same whatever follows
take_emitted : (n : ℕ) (es more : List Event) → n ≤ length es
    → take n (emitted (es ++ more) true) ≡ take n (emitted es true)
take_emitted n es more within =
    let size = length-map es OfEvent in
    rw (map-append OfEvent es more, append_assoc (map OfEvent es) (map OfEvent more) (EndMark ∷ []))
    (take-append-le n (map OfEvent es) _ (omega (arith, within, size))
    ∙ sym (take-append-le n (map OfEvent es) (EndMark ∷ []) (omega (arith, within, size))))

-- nothing follows a list that is all
none_left : (xs rest all : List Event) → xs ++ rest ≡ all → xs ≡ all → rest ≡ []
none_left xs [] all whole same = refl
none_left xs (x ∷ rest) all whole same =
    let equal = ap (λ (es : List Event). length es) (whole ∙ sym same) in
    absurd (omega (arith, equal, length-append xs (x ∷ rest)))

module _ (h : History) (sound : IsSound h) (start : ℕ) (confirms : List Confirm) (sessions : List Shown) (number : ℕ)
    (course : Course) (live : IsLive h start confirms sessions number course) where
  -- the events after the last one that was offered are those that are left
  rest_is : events_after (last_timestamp_from course.base course.offered) (events h) ≡ live.offered.rest
  rest_is =
      let cut = split_events h course.base sound in
      events_after-split (events h) _ (cut.0 ++ course.offered) live.offered.rest
      (SplitsAt-later (events h) course.base cut.0 course.offered live.offered.rest (rw live.offered.whole cut.1))

  -- a session that has sent all that it had keeps its place after an offer
  last_so : (es : List Event) (b : Bool) → shown_of course ≡ shown_of (with_offer es b course)
      → StandsLast start confirms sessions course → StandsLast start confirms sessions (with_offer es b course)
  last_so es b same (inl new) = inl new
  last_so es b same (inr (some, (earlier, is))) = inr (some, (earlier, is ∙ ap (λ s. s ∷ earlier) same))

  -- so an offer of these leaves the session live
  pub IsLive-offer : (r : Reading) → IsOf h r → r.after ≡ last_timestamp_from course.base course.offered
      → IsLive h start confirms sessions number (with_offer r.events r.complete course)
  IsLive-offer r of after =
      let rest : List Event = live.offered.rest in
      let later : events_after r.after (events h) ≡ rest = ap (λ t. events_after t (events h)) after ∙ rest_is in
      let given : r.events ≡ take r.limit rest = of.events_are ∙ ap (take r.limit) later in
      let states : r.complete ≡ (h.closed && nat_le (length rest) r.limit) =
      of.complete_is ∙ ap (λ (es : List Event). h.closed && nat_le (length es) r.limit) later in
      let next : Course = with_offer r.events r.complete course in
      let offered : IsPrefix next.offered (events_after course.base (events h)) = record {
        rest = drop r.limit rest;
        whole = ap (λ (es : List Event). (course.offered ++ es) ++ drop r.limit rest) given
            ∙ append_assoc course.offered (take r.limit rest) (drop r.limit rest)
            ∙ ap (λ es. course.offered ++ es) (take-append-drop r.limit rest)
            ∙ live.offered.whole;
      } in
      let complete : r.complete ≡ true
      → (h.closed ≡ true) × (next.offered ≡ events_after course.base (events h)) =
      λ none.
      let parts = and_parts h.closed _ (sym states ∙ none) in
      let all = given ∙ take_all r.limit rest (leb-true (length rest) r.limit parts.1) in
      (parts.0, ap (λ es. course.offered ++ es) all ∙ live.offered.whole) in
      let stays : SendsInTurn confirms next → shown_of course ≡ shown_of next
      → IsLive h start confirms sessions number next =
      λ in_turn same. record {
        its = live.its;
        starts = live.starts;
        offered = offered;
        complete = complete;
        confirmed = live.confirmed;
        in_turn = in_turn;
        last = last_so r.events r.complete same live.last;
      } in
      elim live.in_turn [
        | inl within ↦
            stays (inl (omega (arith, within, length-append course.offered r.events)))
            (ap (λ (items : List Item). record { number = course.number; base = course.base; items = items })
            (sym (take_emitted (tags_sent course) course.offered r.events within)))
        | inr ends ↦
            let all = live.complete ends.0 in
            let none = none_left course.offered rest _ live.offered.whole all.1 in
            let nothing : r.events ≡ [] = given ∙ ap (take r.limit) none ∙ take_all r.limit [] (omega arith) in
            let same : next.offered ≡ course.offered =
            ap (λ es. course.offered ++ es) nothing ∙ append-nil course.offered in
            let done : r.complete ≡ true =
            states
            ∙ ap₂ (λ (b : Bool) (es : List Event). b && nat_le (length es) r.limit) all.0 none
            ∙ le-leb 0 r.limit (omega arith) in
            stays (inr (done, rw same ends.1))
            (ap (λ (es : List Event). shown_of (record course { offered = es })) (sym same))
      ]

-- so a connector keeps to its history when its session is offered the events of a reading of it, after the last one
-- that it has
pub KeepsTo-offer : (h : History) (c : ConnectorState) (course : Course) (r : Reading) → IsSound h → KeepsTo h c
    → c.session ≡ Some course → IsOf h r → r.after ≡ last_timestamp_from course.base course.offered
    → KeepsTo h (record c { session = Some (with_offer r.events r.complete course) })
KeepsTo-offer h c course r sound keeps runs of after = record {
  sessions = keeps.sessions;
  makes = keeps.makes;
  each = keeps.each;
  numbers = keeps.numbers;
  none_yet = λ nothing. absurd (none_held h c keeps nothing course runs);
  base = keeps.base;
  live = λ other there.
      rw (← same_Some (with_offer r.events r.complete course) other there)
      (IsLive-offer h sound _ c.confirms keeps.sessions _ course (keeps.live course runs) r of after);
}

-- ---- readings

-- a history that was read is sound
pub readings_sound : (readings : List Reading) (h : History) → AreReadings readings h → IsSound h
readings_sound [] h are = are
readings_sound (r ∷ earlier) h are = are.0

-- readings of a history are readings of each that goes on from it
pub readings-goes_on : (readings : List Reading) (h g : History) → AreReadings readings h → GoesOn h g → IsSound g
    → AreReadings readings g
readings-goes_on [] h g are on sound = sound
readings-goes_on (r ∷ earlier) h g (is, (k, (of, before, first))) on sound =
    (sound, (k, (of, before, GoesOn-trans k h g first on)))

-- a connector keeps to what it reads when its session is offered one more reading
pub KeepsToReadings-offer : (readings : List Reading) (c : ConnectorState) (course : Course) (r : Reading)
    → KeepsToReadings readings c → c.session ≡ Some course
    → r.after ≡ last_timestamp_from course.base course.offered
    → KeepsToReadings (r ∷ readings) (record c { session = Some (with_offer r.events r.complete course) })
KeepsToReadings-offer readings c course r keeps runs after h (is, (g, (of, before, on))) =
    KeepsTo-goes_on g h _ on
    (KeepsTo-offer g c course r (readings_sound readings g before) (keeps g before) runs of after)

-- and it does when an answer comes that it doesn't use
pub KeepsToReadings-unused : (readings : List Reading) (c : ConnectorState) (r : Reading) → KeepsToReadings readings c
    → KeepsToReadings (r ∷ readings) c
KeepsToReadings-unused readings c r keeps h (is, (g, (of, before, on))) =
    KeepsTo-goes_on g h c on (keeps g before)
