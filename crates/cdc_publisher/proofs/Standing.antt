-- A session's answers are those of its course, for any course that it represents.
use Rattle.std.proofs.Common.{◌≡◌, ℕ, zero, suc, ◌+◌, ◌-◌, ◌<◌, ◌==◌, Bool, true, false, ◌&&◌, not, List, [], ◌∷◌, refl, sym, ap, ap₂, ◌∙◌, drop, length, Option, Some, None, Result, Ok, Err, add-zero, arith}
use Rattle.std.specs.Prelude.{IsTrue, OnErr, nat_le, nat_lt, slice_get, if◌then◌else◌}
use Rattle.std.specs.List.{list_all}
use Rattle.std.proofs.lemmas.Bool.Decides.{nat_tests}
use Rattle.std.proofs.lemmas.List.{length-map}
use Rattle.std.proofs.lemmas.List.Folds.{list_all-append}
use Rattle.std.proofs.Math.Bool.{and-false, and-true}
use Rattle.std.proofs.Math.Seq.{drop-nil}
use Rattle.cdc_types.specs.declared.events.Event.{Event}
use Rattle.cdc_message.specs.declared.items.Item.TheVariants.{Event as OfEvent, EndMark}
use Rattle.cdc_message.specs.declared.packets.Packet.{Packet}
use Rattle.cdc_message.specs.declared.packets.Packet.TheVariants.{Connect, Publish}
use Rattle.cdc_publisher.specs.declared.session.Poll.{Poll}
use Rattle.cdc_publisher.specs.Courses.{Course, all_sent, confirmed_timestamp, has_ended, is_confirmed, is_done, is_sent, may_end, next_packet, next_poll, numbers_from, publish_packet, tags_sent, takes_confirm, unconfirmed}
use Rattle.cdc_publisher.specs.SessionState.{SessionState, confirmed_of, holds_tag, is_nil, poll_of}
use Rattle.cdc_publisher.specs.Stands.{StandsFor, entry_of, flag_count}
use Rattle.cdc_publisher.specs.Turns.{ends, packet_of, publish_of}
use Rattle.cdc_publisher.proofs.Tags.{confirmed_by, holds_among, none_fail, numbers_from-suc}

-- a test that holds only of what was sent fails past it
pub past_sent : (course : Course) → ((tag : ℕ) → IsTrue (is_confirmed course tag) → IsTrue (is_sent course tag))
    → (tag : ℕ) → tags_sent course < tag → is_confirmed course tag ≡ false
past_sent course sent tag past = by (is_confirmed course tag) (sent tag)
  where
    by : (b : Bool) → (IsTrue b → IsTrue (is_sent course tag)) → b ≡ false
    by false up = refl
    by true up = let is : IsTrue (nat_lt 0 tag && nat_le tag (tags_sent course)) = up refl in grind (arith, nat_tests)

-- as many tags wait as are kept
pub waiting_is : (kept : SessionState) (course : Course) → StandsFor kept course
    → length kept.unconfirmed ≡ length (unconfirmed course)
waiting_is kept course stands =
    ap length stands.unconfirmed ∙ length-map (unconfirmed course) (entry_of course.base course.offered)

-- by the counts, the end mark was sent exactly if there are more tags than events
ended_by : (n tags u : ℕ) (ended : Bool) → tags + u ≡ n + flag_count ended → (IsTrue ended → u ≡ 0)
    → ended ≡ nat_lt n tags
ended_by n tags u true count last = let none : u ≡ 0 = last refl in grind (arith, nat_tests)
ended_by n tags u false count last = grind (arith, nat_tests)

pub ended_is : (kept : SessionState) (course : Course) → StandsFor kept course → kept.ended ≡ has_ended course
ended_is kept course stands =
    ended_by (length course.offered) (tags_sent course) (length kept.unsent) kept.ended stands.count stands.end_last

-- by the counts, no event is unsent exactly if all are sent
sent_all : (n tags u : ℕ) (ended : Bool) → tags + u ≡ n + flag_count ended → (IsTrue ended → u ≡ 0)
    → (u == 0) ≡ nat_le n tags
sent_all n tags u true count last = let none : u ≡ 0 = last refl in grind (arith, nat_tests)
sent_all n tags u false count last = grind (arith, nat_tests)

-- so that the fields of the session can be put in for those of the course one by one
poll_same : (after after' : ℕ) (sent sent' : Bool) (count count' window window' : ℕ) (complete complete' : Bool)
    → after ≡ after' → sent ≡ sent' → count ≡ count' → window ≡ window' → complete ≡ complete'
    → (if sent && nat_lt count window && not complete
    then Some (let poll : Poll = record { after = after; limit = window - count } in poll) else None)
    ≡ (if sent' && nat_lt count' window' && not complete'
    then Some (let poll : Poll = record { after = after'; limit = window' - count' } in poll) else None)
poll_same after after' sent sent' count count' window window' complete complete' a b c d e = cc

-- the events that are wanted
pub poll_of_is : (kept : SessionState) (course : Course) → StandsFor kept course → poll_of kept ≡ next_poll course
poll_of_is kept course stands =
    poll_same kept.last _ (is_nil kept.unsent) (all_sent course) (length kept.unconfirmed)
    (length (unconfirmed course)) kept.window course.window kept.complete course.complete stands.last
    (sent_all (length course.offered) (tags_sent course) (length kept.unsent) kept.ended stands.count stands.end_last)
    (waiting_is kept course stands) stands.window stands.complete

-- with no event unsent, the end mark comes next exactly if every event is confirmed and it wasn't sent yet
ends_by : (tags n : ℕ) (complete ended none all : Bool) → tags ≡ n + flag_count ended → (ended ≡ false → none ≡ all)
    → (complete && (not ended && none)) ≡ ((complete && all) && (tags == n))
ends_by tags n complete true none all count same =
    let past : (tags == n) ≡ false = grind (arith, nat_tests) in
    and-false complete ∙ sym (ap (λ b. (complete && all) && b) past ∙ and-false (complete && all))
ends_by tags n complete false none all count same =
    let here : (tags == n) ≡ true = grind (arith, nat_tests) in
    ap (λ b. complete && b) (same refl) ∙ sym (ap (λ b. (complete && all) && b) here ∙ and-true (complete && all))

-- no tag waits exactly if all are confirmed
pub none_waits : (kept : SessionState) (course : Course) → StandsFor kept course
    → is_nil kept.unconfirmed ≡ list_all (is_confirmed course) (numbers_from 1 (tags_sent course))
none_waits kept course stands =
    ap (λ n. n == 0) (waiting_is kept course stands)
    ∙ sym (none_fail (is_confirmed course) (numbers_from 1 (tags_sent course)))

-- the end mark comes next
pub ends_is : (kept : SessionState) (course : Course) → StandsFor kept course → length kept.unsent ≡ 0
    → ends kept ≡ (may_end course && (tags_sent course == length course.offered))
ends_is kept course stands none =
    let count = stands.count in
    let tags : tags_sent course ≡ length course.offered + flag_count kept.ended = omega arith in
    ends_by (tags_sent course) (length course.offered) kept.complete kept.ended (is_nil kept.unconfirmed)
    (list_all (is_confirmed course) (numbers_from 1 (length course.offered))) tags
    (λ off. let same : tags_sent course ≡ length course.offered =
    tags ∙ ap (λ b. length course.offered + flag_count b) off ∙ add-zero (length course.offered) in
    none_waits kept course stands ∙ ap (λ n. list_all (is_confirmed course) (numbers_from 1 n)) same)
    ∙ ap (λ b. (b && list_all (is_confirmed course) (numbers_from 1 (length course.offered)))
    && (tags_sent course == length course.offered)) stands.complete

-- what is left of a list from a place on begins with the element at that place
pub first_left : (events : List Event) (i : ℕ) (event : Event) (rest : List Event) → drop i events ≡ event ∷ rest
    → slice_get events i ≡ Some event
first_left [] i event rest left = let none = sym (drop-nil i) ∙ left in cc
first_left (x ∷ events) zero event rest left = cc
first_left (x ∷ events) (suc i) event rest left = first_left events i event rest left

-- and if nothing is left, there is no element at that place
pub none_left : (events : List Event) (i : ℕ) → drop i events ≡ [] → slice_get events i ≡ None
none_left [] i left = refl
none_left (x ∷ events) zero left = cc
none_left (x ∷ events) (suc i) left = none_left events i left

-- after the connect, session and course send the same: the oldest unsent event or, if there is none, the end mark, if
-- it may be sent
publish_is : (kept : SessionState) (course : Course) → StandsFor kept course → (unsent : List Event)
    → kept.unsent ≡ unsent
    → publish_of kept unsent ≡ publish_packet course (slice_get course.offered (tags_sent course))
publish_is kept course stands (event ∷ events) is =
    ap₂ (λ number sent. Some (Publish number sent (OfEvent event))) stands.number stands.sent
    ∙ ap (publish_packet course)
    (sym (first_left course.offered (tags_sent course) event events (sym stands.unsent ∙ is)))
publish_is kept course stands [] is =
    ap (λ b. if b then Some (Publish kept.number kept.sent EndMark) else None)
    (ends_is kept course stands (ap length is))
    ∙ ap₂ (λ number sent. if may_end course && (tags_sent course == length course.offered)
    then Some (Publish number sent EndMark) else None) stands.number stands.sent
    ∙ ap (publish_packet course) (sym (none_left course.offered (tags_sent course) (sym stands.unsent ∙ is)))

-- so that the numbers of the session can be put in for those of the course
packet_same : (sent sent' number number' : ℕ) (next next' : Option Packet) → sent ≡ sent' → number ≡ number'
    → next ≡ next'
    → (if sent == 0 then Some (Connect number) else next) ≡ (if sent' == 0 then Some (Connect number') else next')
packet_same sent sent' number number' next next' a b c = cc

-- the next packet
pub packet_is : (kept : SessionState) (course : Course) → StandsFor kept course → packet_of kept ≡ next_packet course
packet_is kept course stands =
    packet_same kept.sent course.sent kept.number course.number _ _ stands.sent stands.number
    (publish_is kept course stands kept.unsent refl)

-- the end mark was sent and no tag waits exactly if its tag, the one after the events', is confirmed
done_by : (course : Course) (u : ℕ) (complete ended none : Bool)
    → ((tag : ℕ) → tags_sent course < tag → is_confirmed course tag ≡ false)
    → none ≡ list_all (is_confirmed course) (numbers_from 1 (tags_sent course))
    → tags_sent course + u ≡ length course.offered + flag_count ended → (IsTrue ended → u ≡ 0)
    → (IsTrue ended → IsTrue complete)
    → (IsTrue ended → IsTrue (list_all (is_confirmed course) (numbers_from 1 (length course.offered))))
    → (ended && none) ≡ (complete && is_confirmed course (length course.offered + 1))
done_by course u complete false none past waits count last known all =
    sym (ap (λ b. complete && b) (past (length course.offered + 1) (omega arith)) ∙ and-false complete)
done_by course u complete true none past waits count last known all =
    let n = length course.offered in
    let p = is_confirmed course in
    let none_unsent : u ≡ 0 = last refl in
    let tags : tags_sent course ≡ suc (length course.offered) = omega arith in
    let next : 1 + length course.offered ≡ length course.offered + 1 = omega arith in
    let parts : list_all p (numbers_from 1 (suc n)) ≡ (list_all p (numbers_from 1 n) && (p (1 + n) && true)) =
    ap (list_all p) (numbers_from-suc 1 n) ∙ list_all-append p (numbers_from 1 n) ((1 + n) ∷ []) in
    waits ∙ ap (λ k. list_all p (numbers_from 1 k)) tags ∙ parts
    ∙ ap (λ b. b && (p (1 + n) && true)) (all refl) ∙ and-true (p (1 + n)) ∙ ap p next
    ∙ ap (λ b. b && p (n + 1)) (sym (known refl))

-- the end mark is confirmed
pub done_is : (kept : SessionState) (course : Course) → StandsFor kept course
    → (kept.ended && is_nil kept.unconfirmed) ≡ is_done course
done_is kept course stands =
    done_by course (length kept.unsent) kept.complete kept.ended (is_nil kept.unconfirmed)
    (past_sent course stands.confirmed_sent) (none_waits kept course stands) stands.count stands.end_last
    stands.end_known stands.end_waits
    ∙ ap (λ b. b && is_confirmed course (length course.offered + 1)) stands.complete

-- a tag that was sent is one of the numbers from 1 on
sent_among : (tags tag : ℕ) → (nat_le 1 tag && nat_lt tag (1 + tags)) ≡ (nat_lt 0 tag && nat_le tag tags)
sent_among tags tag = grind (arith, nat_tests)

-- a tag that waits is one that was sent and isn't confirmed
pub holds_is : (kept : SessionState) (course : Course) (tag : ℕ) → StandsFor kept course
    → holds_tag tag kept.unconfirmed ≡ (is_sent course tag && not (is_confirmed course tag))
holds_is kept course tag stands =
    ap (holds_tag tag) stands.unconfirmed
    ∙ holds_among course.base course.offered tag (λ other. not (is_confirmed course other)) 1 (tags_sent course)
    ∙ ap (λ b. b && not (is_confirmed course tag)) (sent_among (tags_sent course) tag)

-- a confirm counts exactly if it is for this session and for a tag that waits
pub takes_is : (kept : SessionState) (course : Course) (session tag : ℕ) → StandsFor kept course
    → ((session == kept.number) && holds_tag tag kept.unconfirmed) ≡ takes_confirm course session tag
takes_is kept course session tag stands =
    ap₂ (λ number b. (session == number) && b) stands.number (holds_is kept course tag stands)

-- how far all is confirmed
pub confirmed_is : (kept : SessionState) (course : Course) → StandsFor kept course
    → confirmed_of kept.last_sent kept.unconfirmed ≡ confirmed_timestamp course
confirmed_is kept course stands =
    ap (confirmed_of kept.last_sent) stands.unconfirmed
    ∙ confirmed_by course kept.last_sent (tags_sent course)
    (past_sent course stands.confirmed_sent (1 + tags_sent course) (omega arith)) stands.last_sent

-- what holds for every answer holds for an error
pub whatever_answered : {A E P : Type 0} (answer : Result A E) → P → OnErr answer P
whatever_answered (Ok given) p = tt
whatever_answered (Err why) p = p
