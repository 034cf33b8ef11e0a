-- Each call takes a session that represents a course to one that represents the course after the call.
use Rattle.std.proofs.Common.{◌≡◌, ℕ, zero, suc, ◌+◌, ◌-◌, ◌<◌, ◌≤◌, ◌==◌, Bool, true, false, ◌&&◌, ◌||◌, not, List, [], ◌∷◌, ◌++◌, refl, sym, ap, ap₂, ◌∙◌, subst, take, drop, take_all, map, get_or, length, length-append, Option, Some, None, cond, arith}
use Rattle.std.specs.Prelude.{IsTrue, nat_le, nat_lt, if◌then◌else◌}
use Rattle.std.specs.List.{list_all, list_any}
use Rattle.std.proofs.lemmas.Bool.Decides.{nat_tests}
use Rattle.std.proofs.lemmas.List.{drop-append-le, drop_all, map_push, take-append-le, take_more}
use Rattle.std.proofs.lemmas.List.Elements.{filter-append}
use Rattle.std.proofs.lemmas.List.Folds.{list_any-append}
use Rattle.std.proofs.Math.Seq.{drop-nil}
use Rattle.std.proofs.lemmas.Option.{get_or_from_slice_get, slice_get_within}
use Rattle.cdc_types.specs.declared.events.Event.{Event}
use Rattle.cdc_types.specs.Timestamps.{last_timestamp_from}
use Rattle.cdc_types.proofs.Rising.{last_timestamp_from-push}
use Rattle.cdc_message.specs.declared.items.Item.TheVariants.{EndMark}
use Rattle.cdc_message.specs.declared.packets.Packet.{Packet}
use Rattle.cdc_message.specs.declared.packets.Packet.TheVariants.{Connect, Publish}
use Rattle.cdc_publisher.specs.declared.session.Unconfirmed.{Unconfirmed}
use Rattle.cdc_publisher.specs.Courses.{Course, is_confirmed, is_sent, next_packet, numbers_from, tags_sent, takes_confirm, with_confirm, with_offer, with_sent}
use Rattle.cdc_publisher.specs.SessionState.{SessionState, holds_tag, is_nil, poll_of, without_tag}
use Rattle.cdc_publisher.specs.Offers.{IsOffered, IsReply}
use Rattle.cdc_publisher.specs.Stands.{StandsFor, entry_of, flag_count, timestamp_after}
use Rattle.cdc_publisher.specs.Turns.{advanced, ends, publish_of, published, tagged}
use Rattle.cdc_publisher.proofs.Standing.{first_left, holds_is, none_waits, packet_is, past_sent, takes_is}
use Rattle.cdc_publisher.proofs.Tags.{entries_same, failing, numbers_from-suc, without_passed}

-- if this test holds, nothing has been sent, and the connect comes next
sent_zero : (sent : ℕ) → (sent == 0) ≡ true → sent ≡ 0
sent_zero sent is = grind (arith, nat_tests)

-- else the connect was sent, and what follows it has a tag
sent_some : (sent : ℕ) → (sent == 0) ≡ false → 0 < sent
sent_some sent is = grind (arith, nat_tests)

-- the connect is sent
connect_stands : (kept : SessionState) (course : Course) → StandsFor kept course → kept.sent ≡ 0
    → StandsFor (record kept { sent = 1 }) (record course { sent = course.sent + 1 })
connect_stands kept course stands none =
    let sent = stands.sent in
    let same : course.sent + 1 - 1 ≡ course.sent - 1 = omega arith in
    record {
      number = stands.number;
      start = stands.start;
      base = stands.base;
      window = stands.window;
      sent = omega arith;
      complete = stands.complete;
      last = stands.last;
      last_sent = stands.last_sent ∙ ap (timestamp_after course.base course.offered) (sym same);
      unsent = stands.unsent ∙ ap (λ n. drop n course.offered) (sym same);
      unconfirmed = stands.unconfirmed ∙ ap (λ n. map (entry_of course.base course.offered)
          (failing (is_confirmed course) (numbers_from 1 n))) (sym same);
      confirmed_sent = λ tag is.
          subst (λ n. IsTrue (nat_lt 0 tag && nat_le tag n)) (sym same) (stands.confirmed_sent tag is);
      count = ap (λ n. n + length kept.unsent) same ∙ stands.count;
      end_last = stands.end_last;
      end_known = stands.end_known;
      end_waits = stands.end_waits;
    }

-- what was sent still is after one more tag
still_sent : (tag tags : ℕ) → IsTrue (nat_lt 0 tag && nat_le tag tags) → IsTrue (nat_lt 0 tag && nat_le tag (tags + 1))
still_sent tag tags is = grind (arith, nat_tests)

-- one more tag waits
one_waits : (course : Course) (tags : ℕ) → is_confirmed course (1 + tags) ≡ false
    → map (entry_of course.base course.offered) (failing (is_confirmed course) (numbers_from 1 (tags + 1)))
    ≡ map (entry_of course.base course.offered) (failing (is_confirmed course) (numbers_from 1 tags))
    ++ entry_of course.base course.offered (1 + tags) ∷ []
one_waits course tags is =
    let next : tags + 1 ≡ suc tags = omega arith in
    let entry = entry_of course.base course.offered in
    let p = is_confirmed course in
    ap (λ n. map entry (failing p (numbers_from 1 n))) next
    ∙ ap (λ numbers. map entry (failing p numbers)) (numbers_from-suc 1 tags)
    ∙ ap (map entry) (filter-append (λ tag. not (p tag)) (numbers_from 1 tags) ((1 + tags) ∷ [])
    ∙ ap (λ b. failing p (numbers_from 1 tags) ++ cond (not b) ((1 + tags) ∷ []) []) is)
    ∙ map_push entry (failing p (numbers_from 1 tags)) (1 + tags)

-- an event or the end mark is sent under the next tag
tag_stands : (kept : SessionState) (course : Course) (unsent : List Event) (last_sent : ℕ) (ended : Bool)
    → StandsFor kept course → 0 < kept.sent
    → unsent ≡ drop (tags_sent course + 1) course.offered
    → last_sent ≡ timestamp_after course.base course.offered (tags_sent course + 1)
    → tags_sent course + 1 + length unsent ≡ length course.offered + flag_count ended
    → (IsTrue ended → length unsent ≡ 0) → (IsTrue ended → IsTrue kept.complete)
    → (IsTrue ended → IsTrue (list_all (is_confirmed course) (numbers_from 1 (length course.offered))))
    → StandsFor (record (tagged kept) { unsent = unsent; last_sent = last_sent; ended = ended })
    (record course { sent = course.sent + 1 })
tag_stands kept course unsent last_sent ended stands connected left last count end_last end_known end_waits =
    let sent = stands.sent in
    let same : course.sent + 1 - 1 ≡ course.sent - 1 + 1 = omega arith in
    let tag : kept.sent ≡ 1 + (course.sent - 1) = omega arith in
    let before : course.sent - 1 ≡ 1 + (course.sent - 1) - 1 = omega arith in
    record {
      number = stands.number;
      start = stands.start;
      base = stands.base;
      window = stands.window;
      sent = omega arith;
      complete = stands.complete;
      last = stands.last;
      last_sent = last ∙ ap (timestamp_after course.base course.offered) (sym same);
      unsent = left ∙ ap (λ n. drop n course.offered) (sym same);
      unconfirmed = ap₂ (λ (entries : List Unconfirmed) (entry : Unconfirmed). entries ++ entry ∷ [])
          stands.unconfirmed
          (ap₂ (λ t b. let entry : Unconfirmed = record { tag = t; before = b } in entry) tag
          (stands.last_sent ∙ ap (timestamp_after course.base course.offered) before))
          ∙ sym (one_waits course (course.sent - 1)
          (past_sent course stands.confirmed_sent (1 + (course.sent - 1)) (omega arith)))
          ∙ ap (λ n. map (entry_of course.base course.offered)
          (failing (is_confirmed course) (numbers_from 1 n))) (sym same);
      confirmed_sent = λ tag is. subst (λ n. IsTrue (nat_lt 0 tag && nat_le tag n)) (sym same)
          (still_sent tag (course.sent - 1) (stands.confirmed_sent tag is));
      count = ap (λ n. n + length unsent) same ∙ count;
      end_last = end_last;
      end_known = end_known;
      end_waits = end_waits;
    }

-- the rest of a list after one more event
next_left : (events : List Event) (i : ℕ) (event : Event) (rest : List Event) → drop i events ≡ event ∷ rest
    → rest ≡ drop (i + 1) events
next_left [] i event rest left = let none = sym (drop-nil i) ∙ left in cc
next_left (x ∷ events) zero event rest left = cc
next_left (x ∷ events) (suc i) event rest left =
    let further : suc i + 1 ≡ suc (i + 1) = omega arith in
    next_left events i event rest left ∙ ap (λ n. drop n (x ∷ events)) (sym further)

-- its timestamp is the last of those up to it
next_last : (time : ℕ) (events : List Event) (i : ℕ) (event : Event) (rest : List Event)
    → drop i events ≡ event ∷ rest → event.timestamp ≡ last_timestamp_from time (take (i + 1) events)
next_last time events i event rest left =
    let here = first_left events i event rest left in
    let within = slice_get_within events i event here in
    sym (ap (last_timestamp_from time) (take_more events i event within)
    ∙ last_timestamp_from-push time (take i events) (get_or events i event)
    ∙ ap (λ (e : Event). e.timestamp) (get_or_from_slice_get events i event event here))

-- what must hold for the end mark to be sent
pub ends_means : (complete ended none : Bool) → (complete && (not ended && none)) ≡ true
    → (complete ≡ true) × (ended ≡ false) × (none ≡ true)
ends_means true false none is = (refl, refl, is)
ends_means true true none is = cc
ends_means false ended none is = cc

-- the next packet is sent, if there is one
advance_by : (kept : SessionState) (course : Course) → StandsFor kept course
    → (none_sent : Bool) (unsent : List Event) (ending : Bool)
    → (kept.sent == 0) ≡ none_sent → kept.unsent ≡ unsent → ends kept ≡ ending
    → StandsFor (if none_sent then record kept { sent = 1 } else published kept unsent)
    (with_sent (if none_sent then Some (Connect kept.number) else publish_of kept unsent) course)
advance_by kept course stands true unsent ending at_first is_unsent is_ending =
    connect_stands kept course stands (sent_zero kept.sent at_first)
advance_by kept course stands false (event ∷ events) ending at_first is_unsent is_ending =
    let left = sym stands.unsent ∙ is_unsent in
    let long : length kept.unsent ≡ suc (length events) = ap length is_unsent in
    let count = stands.count in
    tag_stands kept course events event.timestamp kept.ended stands (sent_some kept.sent at_first)
    (next_left course.offered (tags_sent course) event events left)
    (next_last course.base course.offered (tags_sent course) event events left)
    (omega arith)
    (λ on. let none = stands.end_last on in absurd (omega arith))
    stands.end_known stands.end_waits
advance_by kept course stands false [] true at_first is_unsent is_ending =
    let means = ends_means kept.complete kept.ended (is_nil kept.unconfirmed) is_ending in
    let none : length kept.unsent ≡ 0 = ap length is_unsent in
    let off : flag_count kept.ended ≡ 0 = ap flag_count means.1 in
    let count = stands.count in
    let all : tags_sent course ≡ length course.offered = omega arith in
    subst (λ (b : Bool). StandsFor (if b then record (tagged kept) { ended = true } else kept)
    (with_sent (if b then Some (Publish kept.number kept.sent EndMark) else None) course))
    (sym is_ending)
    (tag_stands kept course kept.unsent kept.last_sent true stands (sent_some kept.sent at_first)
    (is_unsent ∙ sym (drop_all (tags_sent course + 1) course.offered (omega arith)))
    (stands.last_sent ∙ ap (last_timestamp_from course.base)
    (take_all (tags_sent course) course.offered (omega arith)
    ∙ sym (take_all (tags_sent course + 1) course.offered (omega arith))))
    (omega arith) (λ on. none) (λ on. means.0)
    (λ on. ap (λ n. list_all (is_confirmed course) (numbers_from 1 n)) (sym all)
    ∙ sym (none_waits kept course stands) ∙ means.2))
advance_by kept course stands false [] false at_first is_unsent is_ending =
    subst (λ (b : Bool). StandsFor (if b then record (tagged kept) { ended = true } else kept)
    (with_sent (if b then Some (Publish kept.number kept.sent EndMark) else None) course))
    (sym is_ending) stands

-- a session that sends its next packet represents the course that has sent it
pub advanced_stands : (kept : SessionState) (course : Course) → StandsFor kept course
    → StandsFor (advanced kept) (with_sent (next_packet course) course)
advanced_stands kept course stands =
    subst (λ (packet : Option Packet). StandsFor (advanced kept) (with_sent packet course))
    (packet_is kept course stands)
    (advance_by kept course stands (kept.sent == 0) kept.unsent (ends kept) refl refl refl)

-- ---- a confirm

-- a tag passes with the ones before it
pub passes_too : (course : Course) (tag x : ℕ)
    → list_any (λ other. other == x) (course.confirmed ++ tag ∷ []) ≡ (is_confirmed course x || (x == tag))
passes_too course tag x =
    list_any-append (λ other. other == x) course.confirmed (tag ∷ [])
    ∙ ap (λ b. is_confirmed course x || b) (either_side tag x)
  where
    either_side : (a b : ℕ) → ((a == b) || false) ≡ (b == a)
    either_side a b = grind (arith, nat_tests)

-- if all pass a test, all still do after one more number passes it
all_still : (p q : ℕ → Bool) (tag : ℕ) → ((x : ℕ) → q x ≡ (p x || (x == tag))) → (xs : List ℕ)
    → IsTrue (list_all p xs) → IsTrue (list_all q xs)
all_still p q tag more [] all = all
all_still p q tag more (x ∷ xs) all =
    let parts = both (p x) (list_all p xs) all in
    ap₂ (λ a b. a && b) (more x ∙ ap (λ b. b || (x == tag)) parts.0) (all_still p q tag more xs parts.1)
  where
    both : (a b : Bool) → (a && b) ≡ true → (a ≡ true) × (b ≡ true)
    both true b is = (refl, is)
    both false b is = cc

-- what is confirmed was sent
one_or_sent : (b c : Bool) (sent : Bool) → (b ≡ true → sent ≡ true) → (c ≡ true → sent ≡ true) → (b || c) ≡ true
    → sent ≡ true
one_or_sent true c sent up here is = up refl
one_or_sent false c sent up here is = here is

-- equal tags are sent alike
same_sent : (course : Course) (tag x : ℕ) → is_sent course tag ≡ true → (x == tag) ≡ true → is_sent course x ≡ true
same_sent course tag x was is = let same : x ≡ tag = grind (arith, nat_tests) in ap (is_sent course) same ∙ was

-- a tag that counts is taken out
settle_stands : (kept : SessionState) (course : Course) (tag : ℕ) → StandsFor kept course → IsTrue (is_sent course tag)
    → StandsFor (record kept { unconfirmed = without_tag tag kept.unconfirmed })
    (record course { confirmed = course.confirmed ++ tag ∷ [] })
settle_stands kept course tag stands was_sent =
    let after : Course = record course { confirmed = course.confirmed ++ tag ∷ [] } in
    record {
      number = stands.number;
      start = stands.start;
      base = stands.base;
      window = stands.window;
      sent = stands.sent;
      complete = stands.complete;
      last = stands.last;
      last_sent = stands.last_sent;
      unsent = stands.unsent;
      unconfirmed = ap (without_tag tag) stands.unconfirmed
          ∙ sym (without_passed course.base course.offered tag (is_confirmed course) (is_confirmed after)
          (passes_too course tag) (numbers_from 1 (tags_sent course)));
      confirmed_sent = λ x is. one_or_sent (is_confirmed course x) (x == tag) (is_sent course x)
          (stands.confirmed_sent x) (same_sent course tag x was_sent) (sym (passes_too course tag x) ∙ is);
      count = stands.count;
      end_last = stands.end_last;
      end_known = stands.end_known;
      end_waits = λ on. all_still (is_confirmed course) (is_confirmed after) tag (passes_too course tag)
          (numbers_from 1 (length course.offered)) (stands.end_waits on);
    }

-- if no entry has the tag, none is taken out
none_taken : (tag : ℕ) (entries : List Unconfirmed) → holds_tag tag entries ≡ false
    → without_tag tag entries ≡ entries
none_taken tag [] none = refl
none_taken tag (entry ∷ entries) none =
    let parts = neither (entry.tag == tag) (holds_tag tag entries) none in
    ap (λ b. cond (not b) (entry ∷ without_tag tag entries) (without_tag tag entries)) parts.0
    ∙ ap (λ (es : List Unconfirmed). entry ∷ es) (none_taken tag entries parts.1)
  where
    neither : (a b : Bool) → (a || b) ≡ false → (a ≡ false) × (b ≡ false)
    neither true b is = cc
    neither false b is = (refl, is)

-- the first of two that both hold
first_holds : (a b : Bool) → (a && b) ≡ true → a ≡ true
first_holds true b is = refl
first_holds false b is = cc

-- a confirm of this session's tag, whether it counts or not
confirm_by : (kept : SessionState) (course : Course) (tag : ℕ) (b : Bool) → StandsFor kept course
    → holds_tag tag kept.unconfirmed ≡ b
    → StandsFor (record kept { unconfirmed = without_tag tag kept.unconfirmed })
    (if b then record course { confirmed = course.confirmed ++ tag ∷ [] } else course)
confirm_by kept course tag true stands holds =
    settle_stands kept course tag stands
    (first_holds (is_sent course tag) (not (is_confirmed course tag))
    (sym (holds_is kept course tag stands) ∙ holds))
confirm_by kept course tag false stands holds =
    subst (λ (entries : List Unconfirmed). StandsFor (record kept { unconfirmed = entries }) course)
    (sym (none_taken tag kept.unconfirmed holds)) stands

-- this session's number is its own
pub own_number : (session number : ℕ) (b : Bool) → session ≡ number → ((session == number) && b) ≡ b
own_number session number b is = let here : (session == number) ≡ true = grind (arith, nat_tests) in
    ap (λ a. a && b) here

-- a confirm under this session's number
pub confirm_stands : (kept : SessionState) (course : Course) (session tag : ℕ) → StandsFor kept course
    → session ≡ kept.number
    → StandsFor (record kept { unconfirmed = without_tag tag kept.unconfirmed }) (with_confirm session tag course)
confirm_stands kept course session tag stands is =
    confirm_by kept course tag (takes_confirm course session tag) stands
    (sym (own_number session kept.number (holds_tag tag kept.unconfirmed) is)
    ∙ takes_is kept course session tag stands)

-- ---- an offer

-- what is known if events may be offered
pub record IsFree (kept : SessionState) (events : List Event) : Type 0 where
  pub unsent : length kept.unsent ≡ 0
  pub complete : kept.complete ≡ false
  pub reply : IsReply (record { after = kept.last; limit = kept.window - length kept.unconfirmed }) events

-- an offer comes only while nothing is unsent and the session isn't complete
free_by : (kept : SessionState) (events : List Event) (none room complete : Bool)
    → is_nil kept.unsent ≡ none → kept.complete ≡ complete
    → IsOffered (if none && room && not complete
    then Some (record { after = kept.last; limit = kept.window - length kept.unconfirmed }) else None) events
    → IsFree kept events
free_by kept events true true false a b offer =
    let none : length kept.unsent ≡ 0 = nil_length (length kept.unsent) a in
    record { unsent = none; complete = b; reply = offer }
  where
    nil_length : (n : ℕ) → (n == 0) ≡ true → n ≡ 0
    nil_length n is = grind (arith, nat_tests)
free_by kept events true true true a b offer = absurd offer
free_by kept events true false complete a b offer = absurd offer
free_by kept events false room complete a b offer = absurd offer

-- so it is whenever a session is offered what it wants
pub is_free : (kept : SessionState) (events : List Event) → IsOffered (poll_of kept) events → IsFree kept events
is_free kept events offer =
    free_by kept events (is_nil kept.unsent) (nat_lt (length kept.unconfirmed) kept.window) kept.complete refl refl
    offer

-- if the session isn't complete, the end mark wasn't sent
unknown_end : (ended complete : Bool) → (ended ≡ true → complete ≡ true) → complete ≡ false → ended ≡ false
unknown_end true complete known not_yet = let is = known refl in cc
unknown_end false complete known not_yet = refl

-- the last of two lists
last_timestamp_from-append : (time : ℕ) (first events : List Event)
    → last_timestamp_from time (first ++ events)
    ≡ last_timestamp_from (last_timestamp_from time first) events
last_timestamp_from-append time [] events = refl
last_timestamp_from-append time (event ∷ first) events = last_timestamp_from-append event.timestamp first events

-- a session that is offered events represents the course that was offered them
pub offered_stands : (kept : SessionState) (course : Course) (events : List Event) (complete : Bool)
    → StandsFor kept course
    → IsOffered (poll_of kept) events
    → StandsFor (record kept {
      last = last_timestamp_from kept.last events;
      unsent = kept.unsent ++ events;
      complete = complete;
    }) (with_offer events complete course)
offered_stands kept course events complete stands offer =
    let free = is_free kept events offer in
    let off = unknown_end kept.ended kept.complete stands.end_known free.complete in
    let none_ended : flag_count kept.ended ≡ 0 = ap flag_count off in
    let count = stands.count in
    let unsent = free.unsent in
    let all : tags_sent course ≤ length course.offered = omega arith in
    record {
      number = stands.number;
      start = stands.start;
      base = stands.base;
      window = stands.window;
      sent = stands.sent;
      complete = refl;
      last = ap (λ time. last_timestamp_from time events) stands.last
          ∙ sym (last_timestamp_from-append course.base course.offered events);
      last_sent = stands.last_sent ∙ ap (last_timestamp_from course.base)
          (sym (take-append-le (tags_sent course) course.offered events all));
      unsent = ap (λ (left : List Event). left ++ events) stands.unsent
          ∙ sym (drop-append-le (tags_sent course) course.offered events all);
      unconfirmed = stands.unconfirmed ∙ entries_same (entry_of course.base course.offered)
          (entry_of course.base (course.offered ++ events)) (λ tag. not (is_confirmed course tag)) 1 (tags_sent course)
          (λ tag from to. ap (λ time. let entry : Unconfirmed = record { tag = tag; before = time } in entry)
          (ap (last_timestamp_from course.base)
          (sym (take-append-le (tag - 1) course.offered events (omega arith)))));
      confirmed_sent = stands.confirmed_sent;
      count = omega (arith, length-append kept.unsent events, length-append course.offered events);
      end_last = λ on. let is = sym off ∙ on in cc;
      end_known = λ on. let is = sym off ∙ on in cc;
      end_waits = λ on. let is = sym off ∙ on in cc;
    }
