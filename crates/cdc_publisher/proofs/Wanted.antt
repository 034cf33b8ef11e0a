-- What a session wants stays wanted while it sends and takes confirms: laws of every course.
use Rattle.std.proofs.Common.{◌≡◌, ℕ, ◌+◌, ◌-◌, ◌<◌, ◌≤◌, ◌==◌, Bool, true, false, ◌&&◌, ◌||◌, not, List, [], ◌∷◌, ◌++◌, refl, sym, ap, ◌∙◌, subst, cond, length, Option, Some, None, ◌⊎◌, inl, inr, arith}
use Rattle.std.specs.Prelude.{nat_le, nat_lt, slice_get, if◌then◌else◌}
use Rattle.std.proofs.lemmas.Bool.{and_parts, cases_Bool, eqb-true}
use Rattle.std.proofs.lemmas.Bool.Decides.{nat_tests}
use Rattle.std.proofs.lemmas.Option.{cond_some, none-some, slice_get_past}
use Rattle.cdc_types.specs.Timestamps.{RiseFrom, last_timestamp_from}
use Rattle.cdc_types.specs.declared.events.Event.{Event}
use Rattle.cdc_publisher.specs.Courses.{Course, all_sent, end_packet, is_confirmed, next_poll, numbers_from, publish_packet, tags_sent, takes_confirm, unconfirmed, with_sent}
use Rattle.cdc_publisher.specs.Offers.{IsOffered, IsReply}
use Rattle.cdc_publisher.specs.Polls.{ConfirmsWiden, IsWanted, PacketsKeep}
use Rattle.cdc_publisher.specs.declared.session.Poll.{Poll}
use Rattle.cdc_publisher.proofs.Moves.{passes_too}
use Rattle.cdc_publisher.proofs.Tags.{failing}

-- what holds if a session wants events
record Wants (course : Course) (poll : Poll) : Type 0 where
  sent : all_sent course ≡ true
  open_end : course.complete ≡ false
  room : length (unconfirmed course) < course.window
  is : (let p : Poll = record {
    after = last_timestamp_from course.base course.offered;
    limit = course.window - length (unconfirmed course);
  } in p) ≡ poll

wants_from : (course : Course) (poll : Poll) → next_poll course ≡ Some poll → Wants course poll
wants_from course poll wants =
    let parts = cond_some (all_sent course && nat_lt (length (unconfirmed course)) course.window && not course.complete)
    (record {
      after = last_timestamp_from course.base course.offered;
      limit = course.window - length (unconfirmed course);
    }) poll wants in
    let outer = and_parts (all_sent course && nat_lt (length (unconfirmed course)) course.window) (not course.complete)
    parts.0 in
    let inner = and_parts (all_sent course) (nat_lt (length (unconfirmed course)) course.window) outer.0 in
    record {
      sent = inner.0;
      open_end = unset course.complete outer.1;
      room = below (length (unconfirmed course)) course.window inner.1;
      is = parts.1;
    }
  where
    unset : (b : Bool) → not b ≡ true → b ≡ false
    unset true is = cc
    unset false is = refl

    below : (m n : ℕ) → nat_lt m n ≡ true → m < n
    below m n is = grind (arith, nat_tests)

-- and so it wants them
next_poll_by : (course : Course) (sent room complete : Bool) → sent ≡ true → room ≡ true → complete ≡ false
    → (poll : Poll) → (if sent && room && not complete then Some poll else None) ≡ Some poll
next_poll_by course sent room complete a b c poll = cc

-- fewer fail a test that more pass
fewer_fail : (p q : ℕ → Bool) → ((x : ℕ) → p x ≡ true → q x ≡ true) → (tags : List ℕ)
    → length (failing q tags) ≤ length (failing p tags)
fewer_fail p q more [] = omega arith
fewer_fail p q more (x ∷ tags) = by (p x) (q x) (more x) (fewer_fail p q more tags)
  where
    by : (b c : Bool) → (b ≡ true → c ≡ true) → length (failing q tags) ≤ length (failing p tags)
        → length (cond (not c) (x ∷ failing q tags) (failing q tags))
        ≤ length (cond (not b) (x ∷ failing p tags) (failing p tags))
    by true true up rest = rest
    by true false up rest = let is = up refl in cc
    by false true up rest = omega arith
    by false false up rest = omega arith

-- fewer tags that wait leave what is wanted wanted
widened : (course next : Course) (wanted : Poll) → IsWanted course wanted → all_sent next ≡ all_sent course
    → next.complete ≡ course.complete → next.window ≡ course.window
    → last_timestamp_from next.base next.offered ≡ last_timestamp_from course.base course.offered
    → length (unconfirmed next) ≤ length (unconfirmed course) → IsWanted next wanted
widened course next wanted is sent complete window last fewer =
    let wants = wants_from course is.now is.wants in
    let room = wants.room in
    let limit = is.limit in
    let before : course.window - length (unconfirmed course) ≡ is.now.limit = ap (λ (p : Poll). p.limit) wants.is in
    let time : last_timestamp_from course.base course.offered ≡ is.now.after =
    ap (λ (p : Poll). p.after) wants.is in
    record {
      now = record {
        after = last_timestamp_from next.base next.offered;
        limit = next.window - length (unconfirmed next);
      };
      wants = next_poll_by next (all_sent next) (nat_lt (length (unconfirmed next)) next.window) next.complete
          (sent ∙ wants.sent) (below (length (unconfirmed next)) next.window (omega arith))
          (complete ∙ wants.open_end) _;
      after = is.after ∙ sym time ∙ sym last;
      limit = omega arith;
    }
  where
    below : (m n : ℕ) → m < n → nat_lt m n ≡ true
    below m n is = grind (arith, nat_tests)

-- what was confirmed stays so
still : (a b c : Bool) → c ≡ (a || b) → a ≡ true → c ≡ true
still true b c is on = is
still false b c is on = cc

-- a confirm makes room for more
pub confirms_widen : ConfirmsWiden
confirms_widen course wanted session tag is = by (takes_confirm course session tag)
  where
    by : (b : Bool)
        → IsWanted (if b then record course { confirmed = course.confirmed ++ tag ∷ [] } else course) wanted
    by true =
        let next : Course = record course { confirmed = course.confirmed ++ tag ∷ [] } in
        widened course next wanted is refl refl refl refl
        (fewer_fail (is_confirmed course) (is_confirmed next)
        (λ x. still (is_confirmed course x) (x == tag) (is_confirmed next x) (passes_too course tag x))
        (numbers_from 1 (tags_sent course)))
    by false = is

-- nothing is published if all events are sent and the session isn't complete
publishes_none : (course : Course) → all_sent course ≡ true → course.complete ≡ false
    → publish_packet course (slice_get course.offered (tags_sent course)) ≡ None
publishes_none course sent end =
    ap (publish_packet course) (slice_get_past course.offered (tags_sent course)
    (past (length course.offered) (tags_sent course) sent))
    ∙ none_ends course.complete end
  where
    past : (m n : ℕ) → nat_le m n ≡ true → m ≤ n
    past m n is = grind (arith, nat_tests)

    none_ends : (b : Bool) → b ≡ false → end_packet (record course { complete = b }) ≡ None
    none_ends true is = cc
    none_ends false is = refl

-- a session that wants events sends its connect alone
pub packets_keep : PacketsKeep
packets_keep course wanted packet is sends =
    let wants = wants_from course is.now is.wants in
    let none : course.sent ≡ 0 = first (cases_Bool (course.sent == 0)) wants in
    let same : course.sent + 1 - 1 ≡ course.sent - 1 = omega arith in
    widened course (with_sent (Some packet) course) wanted is
    (ap (λ n. nat_le (length course.offered) n) same) refl refl refl
    (let equal = ap (λ n. length (failing (is_confirmed course) (numbers_from 1 n))) same in omega arith)
  where
    first : ((course.sent == 0) ≡ true) ⊎ ((course.sent == 0) ≡ false) → Wants course is.now → course.sent ≡ 0
    first (inl early) wants = eqb-true course.sent 0 early
    first (inr later) wants =
        let there : publish_packet course (slice_get course.offered (tags_sent course)) ≡ Some packet =
        rw later at sends in
        absurd (none-some packet (sym (publishes_none course wants.sent wants.open_end) ∙ there))

-- so a reply to what was asked for may be offered
pub IsReply-wanted : (course : Course) (wanted : Poll) (events : List Event) → IsWanted course wanted
    → IsReply wanted events → IsOffered (next_poll course) events
IsReply-wanted course wanted events is reply =
    let limit = is.limit in
    let count = reply.count in
    subst (λ (o : Option Poll). IsOffered o events) (sym is.wants)
    (record {
      count = omega arith;
      rising = subst (λ time. RiseFrom time events) is.after reply.rising;
      fits = reply.fits;
    })

-- what is wanted now is wanted
pub IsWanted-now : (course : Course) (wanted : Poll) → next_poll course ≡ Some wanted → IsWanted course wanted
IsWanted-now course wanted is = record { now = wanted; wants = is; after = refl; limit = omega arith }
