-- What the parts of a connector's turn come to.
use Rattle.cdc_connector_actor.proofs.Words.{if◌then◌else◌, ◌&&◌, ◌++◌, ◌+◌, ◌<◌, ◌==◌, ◌∙◌, ◌∷◌, ◌≡◌, ◌≤◌, ◌⊎◌, AreSent, Bool, Confirm, Connect, ConnectorCore, Course, Err, GoesOn, HasFollowed, IfOk, IsBegun, IsFollowed, IsInTurn, IsOfSame, IsPacketSent, IsPublishing, IsSending, IsSentNext, IsTurnOf, KeepsTimestamp, List, MayConnect, None, Ok, Option, Origin, Packet, Poll, Publish, Result, RisesBy, Saved, Some, Wanted, [], ap, ap₂, arith, asked_if, confirms_in, false, filter, finished_if, first_origin, held_number, held_timestamp, inl, inr, is_done, is_planned, is_publish, is_some, length, list_any, nat_tests, new_course, next_packet, next_poll, not, of_sender, option_map, packets_in, planned_up_to, poll_for, publish_count, refl, subst, suc, sym, true, true≢false, with_poll, with_sent, zero, ℕ}
use Rattle.cdc_connector_actor.proofs.ConnectorLemmas.Messages.{count_more, packets-finished, packets-more}
use Rattle.cdc_connector_actor.proofs.ConnectorLemmas.Restarts.{IsInTurn-sent, MayConnect-planned, last_of-snoc, session_of-next}
use Rattle.cdc_connector_actor.proofs.ConnectorLemmas.Steps.{GoesOn-begun, IsPublishing-asked, IsPublishing-begun, IsPublishing-finished, IsPublishing-none, IsPublishing-sent, finished-begun, next_saved_is, number_begun, turn_begun}

-- ---- what stays

-- what a connector leaves alone stays so by step after step
pub GoesOn-same : (c : ConnectorCore) → GoesOn c c
GoesOn-same c = assumption

pub GoesOn-trans : (a b c : ConnectorCore) → GoesOn a b → GoesOn b c → GoesOn a c
GoesOn-trans a b c one two = record {
  inbox = two.inbox ∙ one.inbox;
  polls = two.polls ∙ one.polls;
  packets = two.packets ∙ one.packets;
  honest = two.honest ∙ one.honest;
  risks = two.risks ∙ one.risks;
  origin = λ gives. two.origin (one.honest ∙ gives) ∙ one.origin gives;
  window = two.window ∙ one.window;
  restarts = two.restarts ∙ one.restarts;
}

-- ---- how far the number of its session rises

-- a connector that leaves both alone begins no session
pub RisesBy-same : (old new : ConnectorCore) → new.held ≡ old.held → new.restarts ≡ old.restarts
    → new.published ≡ old.published → RisesBy 0 old new
RisesBy-same old new held plan published = λ gives.
    let number : held_number new.held ≡ held_number old.held = ap held_number held in
    let planned = ap₂ planned_up_to plan published in
    omega (arith, number, planned)

pub RisesBy-trans : (n m : ℕ) (a b c : ConnectorCore) → b.honest ≡ a.honest → RisesBy n a b → RisesBy m b c
    → RisesBy (n + m) a c
RisesBy-trans n m a b c same one two = λ gives.
    let first = one gives in
    let then_on = two (same ∙ gives) in
    omega (arith, first, then_on)

-- the next number is held after one session has begun
pub RisesBy-begun : (old new : ConnectorCore) → IsBegun old new → RisesBy 1 old new
RisesBy-begun old new on = λ gives.
    let number : held_number new.held ≡ held_number old.held + 1 =
    ap (λ (c : ConnectorCore). held_number c.held) on.after
    ∙ (next_saved_is old.start on.loaded on.saved on.begins).number
    ∙ ap (λ o. held_number o + 1) (on.given gives) in
    let planned = ap (λ (c : ConnectorCore). planned_up_to c.restarts c.published) on.after in
    omega (arith, number, planned)

-- ---- the timestamp that is held

pub KeepsTimestamp-same : (old new : ConnectorCore) → new.held ≡ old.held → KeepsTimestamp old new
KeepsTimestamp-same old new held =
    let number : held_number new.held ≡ held_number old.held = ap held_number held in
    record { number = λ gives. omega (arith, number); time = λ gives some. ap held_timestamp held }

pub KeepsTimestamp-trans : (a b c : ConnectorCore) → b.honest ≡ a.honest → KeepsTimestamp a b → KeepsTimestamp b c
    → KeepsTimestamp a c
KeepsTimestamp-trans a b c same one two = record {
  number = λ gives.
      let first = one.number gives in
      let then_on = two.number (same ∙ gives) in
      omega (arith, first, then_on);
  time = λ gives some.
      let first = one.number gives in
      two.time (same ∙ gives) (omega (arith, first, some)) ∙ one.time gives some;
}

-- once a number is held, the timestamp with it is where the next session begins
timestamp_held : (at : Option ℕ) (held : Option Saved) → 0 < held_number held
    → (first_origin at held).after ≡ held_timestamp held
timestamp_held at None some = absurd (omega (arith, some))
timestamp_held at (Some saved) some = refl

pub KeepsTimestamp-begun : (old new : ConnectorCore) → IsBegun old new → KeepsTimestamp old new
KeepsTimestamp-begun old new on =
    let next = next_saved_is old.start on.loaded on.saved on.begins in
    let holds : new.held ≡ Some on.saved = ap (λ (c : ConnectorCore). c.held) on.after in
    record {
      number = λ gives.
          let number : held_number new.held ≡ held_number old.held + 1 =
          ap held_number holds ∙ next.number ∙ ap (λ o. held_number o + 1) (on.given gives) in
          omega (arith, number);
      time = λ gives some.
          ap held_timestamp holds
          ∙ ap (λ (o : Origin). o.after) next.origin
          ∙ ap (λ o. (first_origin old.start o).after) (on.given gives)
          ∙ timestamp_held old.start old.held some;
    }

-- ---- a packet is sent

-- a publish packet was counted, and the plan names it
abbrev pub is_due : List ℕ → ℕ → ℕ → Bool
is_due plan before published = not (published == before) && list_any (λ number. number == published) plan

-- none is due if no packet was counted
due_none : (plan : List ℕ) (before published : ℕ) → published ≡ before → is_due plan before published ≡ false
due_none plan before published same =
    let here : (published == before) ≡ true = grind (arith, nat_tests) in
    ap (λ b. not b && list_any (λ number. number == published) plan) here

-- if one was, a restart is due exactly if the plan names that packet
due_planned : (plan : List ℕ) (sent : List Packet) (packet : Packet) (before : ℕ)
    → before ≡ length (filter is_publish sent)
    → is_due plan before (before + publish_count packet) ≡ is_planned plan (sent ++ packet ∷ []) packet
due_planned plan sent packet before counted =
    let count : before + publish_count packet ≡ length (filter is_publish (sent ++ packet ∷ [])) =
    ap (λ n. n + publish_count packet) counted ∙ sym (count_more sent packet) in
    by_kind packet ∙ ap (λ n. is_publish packet && list_any (λ number. number == n) plan) count
  where
    by_kind : (packet : Packet) → is_due plan before (before + publish_count packet)
        ≡ (is_publish packet && list_any (λ number. number == before + publish_count packet) plan)
    by_kind (Connect session) = due_none plan before (before + 0) (omega arith)
    by_kind (Publish session tag item) =
        let other : (before + 1 == before) ≡ false = grind (arith, nat_tests) in
        ap (λ b. not b && list_any (λ number. number == before + 1) plan) other

-- a packet was sent, or there was none, and no session has begun yet. Its session is in turn, if no restart is due; if
-- one is, the next session may connect
pub record IsSentBefore (old : ConnectorCore) (sent : Bool) (new : ConnectorCore) : Type 0 where
  pub course : Course
  pub publishing : IsPublishing new (Some course)
  pub working : new.finished ≡ false
  pub turn : is_due old.restarts old.published new.published ≡ false → IsTurnOf new course
  pub restarts : is_due old.restarts old.published new.published ≡ true → (session : ℕ)
      → (new.honest ≡ true → session ≡ course.number + 1)
      → MayConnect new.restarts new.honest (confirms_in (of_sender 1 new.inbox.received)) (packets_in new.packets.sent)
      session
  pub none : sent ≡ false → next_packet course ≡ None
  pub one : sent ≡ true → new.unanswered ≡ old.unanswered + 1
  pub goes_on : GoesOn old new
  pub held : new.held ≡ old.held
  pub count : ℕ
  pub few : count ≤ 1
  pub published : new.published ≡ old.published + count
  pub quiet : sent ≡ false → count ≡ 0

-- an item is published, or not
at_most_one : (b : Bool) → (if b then 1 else 0) ≤ 1
at_most_one true = omega arith
at_most_one false = omega arith

module _ (old mid : ConnectorCore) (sending : IsSending old) (room : old.unanswered ≤ old.window) where
  sent_by_packet : (o : Option Packet) (sent : Bool) → next_packet sending.course ≡ o
      → IsPacketSent old sending.course o sent mid → IsSentBefore old sent mid
  sent_by_packet None sent is (nothing, stands, after) =
      rw after (record {
        course = sending.course;
        publishing = IsPublishing-none old sending.course sending.publishing mid.session stands;
        working = sending.working;
        turn = λ _. sending.turn;
        restarts = λ due. absurd (true≢false (sym due ∙ due_none old.restarts old.published old.published refl));
        none = λ _. is;
        one = λ is_sent. cc;
        goes_on = assumption;
        held = refl;
        count = 0;
        few = omega arith;
        published = omega arith;
        quiet = λ _. refl;
      })
  sent_by_packet (Some packet) sent is (there, stands, after) =
      let next_course : Course = with_sent (Some packet) sending.course in
      let packets : List Packet = packets_in old.packets.sent in
      let confirms : List Confirm = confirms_in (of_sender 1 old.inbox.received) in
      let more = packets-more old.packets.sent packet in
      let counted = sending.publishing.dispatched.counted in
      let own = session_of-next old.restarts old.honest confirms packets sending.course sending.turn packet is in
      rw after (record {
        course = next_course;
        publishing = IsPublishing-sent old sending.course sending.publishing sending.working mid.session packet is
            stands room sending.turn;
        working = sending.working;
        turn = λ due. rw more (IsInTurn-sent old.restarts old.honest confirms packets sending.course packet own
            (sym (due_planned old.restarts packets packet old.published counted) ∙ due));
        restarts = λ due session next. rw more
            (MayConnect-planned old.restarts old.honest confirms (packets ++ packet ∷ []) sending.course.number session
            next packet (last_of-snoc packets packet) own
            (sym (due_planned old.restarts packets packet old.published counted) ∙ due));
        none = λ unsent. cc;
        one = λ _. refl;
        goes_on = assumption;
        held = refl;
        count = publish_count packet;
        few = at_most_one (is_publish packet);
        published = refl;
        quiet = λ unsent. cc;
      })

  pub sent_before : (sent : Bool) → IsPacketSent old sending.course (next_packet sending.course) sent mid
      → IsSentBefore old sent mid
  sent_before sent is = sent_by_packet (next_packet sending.course) sent refl is

-- nothing was sent
pub sent_none : (old mid : ConnectorCore) → IsSentBefore old false mid → IsSentNext old false mid
sent_none old mid is = record {
  sends = record {
    course = is.course;
    publishing = is.publishing;
    turn = is.turn
        (due_none old.restarts old.published mid.published (published_same is.count (is.quiet refl) is.published));
    working = is.working;
  };
  none = is.none;
  one = is.one;
  goes_on = is.goes_on;
  sessions = RisesBy-same old mid is.held is.goes_on.restarts (published_same is.count (is.quiet refl) is.published);
  time = KeepsTimestamp-same old mid is.held;
}
  where
    published_same : (n : ℕ) → n ≡ 0 → mid.published ≡ old.published + n → mid.published ≡ old.published
    published_same n none same = omega (arith, none, same)

-- ---- a session begins if it is due

-- so the plan names one more of those that were sent
planned_more : (plan : List ℕ) (before count published : ℕ) → count ≤ 1 → published ≡ before + count
    → planned_up_to plan published ≡ planned_up_to plan before + (if is_due plan before published then 1 else 0)
planned_more plan before zero published few is =
    let same : published ≡ before = omega (arith, is) in
    let here : (published == before) ≡ true = grind (arith, nat_tests) in
    ap (planned_up_to plan) same
    ∙ add_none (planned_up_to plan before)
    ∙ sym (ap (λ b. planned_up_to plan before + (if not b && list_any (λ number. number == published) plan then 1
    else 0)) here)
  where
    add_none : (n : ℕ) → n ≡ n + 0
    add_none n = omega arith
planned_more plan before (suc zero) published few is =
    let next : published ≡ suc before = omega (arith, is) in
    let other : (published == before) ≡ false = grind (arith, nat_tests) in
    ap (planned_up_to plan) next
    ∙ ap (λ n. planned_up_to plan before + (if list_any (λ number. number == n) plan then 1 else 0)) (sym next)
    ∙ sym (ap (λ b. planned_up_to plan before + (if not b && list_any (λ number. number == published) plan then 1
    else 0)) other)
planned_more plan before (suc (suc n)) published few is = absurd (omega (arith, few))

-- whether a restart is due depends on the work inside a connector
pub due_so : (old mid : ConnectorCore) (plan : List ℕ) (before published : ℕ) (result b : Bool) → plan ≡ mid.restarts
    → mid.restarts ≡ old.restarts → before ≡ old.published → published ≡ mid.published
    → result ≡ is_due plan before published → result ≡ b → is_due old.restarts old.published mid.published ≡ b
due_so old mid plan before published result b here same was is made so =
    ap (λ (l : List ℕ). is_due l old.published mid.published) (sym (here ∙ same))
    ∙ ap₂ (λ n m. is_due plan n m) (sym was) (sym is)
    ∙ sym made
    ∙ so

module _ (old mid : ConnectorCore) (is : IsSentBefore old true mid) where
  -- what the plan names of what was sent
  planned_then : planned_up_to mid.restarts mid.published ≡ planned_up_to old.restarts old.published
      + (if is_due old.restarts old.published mid.published then 1 else 0)
  planned_then =
      ap (λ plan. planned_up_to plan mid.published) is.goes_on.restarts
      ∙ planned_more old.restarts old.published is.count mid.published is.few is.published

  -- none is due
  pub sent_on : is_due old.restarts old.published mid.published ≡ false → IsSentNext old true mid
  sent_on due =
      let planned = planned_then ∙ ap (λ b. planned_up_to old.restarts old.published + (if b then 1 else 0)) due in
      let number : held_number mid.held ≡ held_number old.held = ap held_number is.held in
      record {
        sends = record { course = is.course; publishing = is.publishing; turn = is.turn due; working = is.working };
        none = is.none;
        one = is.one;
        goes_on = is.goes_on;
        sessions = λ gives. omega (arith, planned, number);
        time = KeepsTimestamp-same old mid is.held;
      }

  -- one is
  pub sent_and_begun : (new : ConnectorCore) → is_due old.restarts old.published mid.published ≡ true → IsBegun mid new
      → IsSentNext old true new
  sent_and_begun new due on =
      let planned = planned_then ∙ ap (λ b. planned_up_to old.restarts old.published + (if b then 1 else 0)) due in
      let number : held_number mid.held ≡ held_number old.held = ap held_number is.held in
      let unanswered : new.unanswered ≡ mid.unanswered = ap (λ (c : ConnectorCore). c.unanswered) on.after in
      record {
        sends = record {
          course = new_course on.saved mid.window;
          publishing = IsPublishing-begun mid new (Some is.course) is.publishing on;
          turn = turn_begun mid new on
              (is.restarts due on.saved.session (number_begun mid new is.course is.publishing on));
          working = finished-begun mid new on ∙ is.working;
        };
        none = λ unsent. cc;
        one = λ sent. unanswered ∙ is.one sent;
        goes_on = GoesOn-trans old mid new is.goes_on (GoesOn-begun mid new on);
        sessions = λ gives.
            let rise = RisesBy-begun mid new on (is.goes_on.honest ∙ gives) in omega (arith, rise, planned, number);
        time = KeepsTimestamp-trans old mid new is.goes_on.honest (KeepsTimestamp-same old mid is.held)
            (KeepsTimestamp-begun mid new on);
      }

-- ---- packets as long as there is one

-- there is no more
pub all_sent : (old here new : ConnectorCore) → GoesOn old here → RisesBy 0 old here → KeepsTimestamp old here
    → IsSentNext here false new → AreSent old new
all_sent old here new on rise time is = record {
  sends = is.sends;
  all = inl (is.none refl);
  goes_on = GoesOn-trans old here new on is.goes_on;
  sessions = RisesBy-trans 0 0 old here new on.honest rise is.sessions;
  time = KeepsTimestamp-trans old here new on.honest time is.time;
}

-- ---- what is asked

-- whatever is wanted is asked for
asked_where : (course : Course) (asked : ℕ) → is_some (poll_for (Some course) asked) ≡ is_some (next_poll course)
asked_where course asked = there (next_poll course)
  where
    as_poll : Wanted → Poll
    as_poll w = record { session = course.number; number = asked; after = w.after; limit = w.limit }

    there : (o : Option Wanted) → is_some (option_map as_poll o) ≡ is_some o
    there None = refl
    there (Some w) = refl

-- what an ask leaves
pub record IsAskedFor (old : ConnectorCore) (course : Course) (new : ConnectorCore) : Type 0 where
  pub publishing : IsPublishing new (Some course)
  pub turn : IsTurnOf new course
  pub working : new.finished ≡ false
  pub poll : is_some new.poll ≡ is_some (next_poll course)
  pub unanswered : new.unanswered ≡ old.unanswered
  pub goes_on : GoesOn old new
  pub sessions : RisesBy 0 old new
  pub held : new.held ≡ old.held

module _ (c : ConnectorCore) (sends : IsSending c) where
  -- what is the same of a connector that asks, whether it does or not
  asked_with : (o : Option Poll) → c.poll ≡ None → poll_for (Some sends.course) (c.asked + 1) ≡ o
      → IsAskedFor c sends.course (with_poll o c)
  asked_with None none is =
      assumption (
        ap is_some none ∙ sym (ap is_some is) ∙ asked_where sends.course (c.asked + 1),
        RisesBy-same c c refl refl refl,
      )
  asked_with (Some poll) none is =
      assumption (
        IsPublishing-asked c sends.course sends.publishing sends.working (Some poll) is,
        sym (ap is_some is) ∙ asked_where sends.course (c.asked + 1),
        RisesBy-same c (with_poll (Some poll) c) refl refl refl,
      )

  asked_over : (o : Option Poll) → c.poll ≡ o → IsAskedFor c sends.course (asked_if o sends.course c)
  asked_over None is = asked_with (poll_for (Some sends.course) (c.asked + 1)) is refl
  asked_over (Some poll) is =
      assumption (
        ap is_some is ∙ sym (ap is_some (sends.publishing.poll poll is).wanted.wants),
        RisesBy-same c c refl refl refl,
      )

  pub asked_so : (new : ConnectorCore) → new ≡ asked_if c.poll sends.course c → IsAskedFor c sends.course new
  asked_so new is = rw is (asked_over c.poll refl)

-- so it goes on sending
pub IsSending-asked : (c new : ConnectorCore) (sends : IsSending c) → IsAskedFor c sends.course new → IsSending new
IsSending-asked c new sends is =
    record { course = sends.course; publishing = is.publishing; turn = is.turn; working = is.working }

-- ---- what follows

module _ (old sent asked : ConnectorCore) (are : AreSent old sent) (is : IsAskedFor sent are.sends.course asked) where
  all_there : (done : Bool) → (is_done are.sends.course && (asked.unanswered == 0)) ≡ done
      → IsFollowed old (finished_if done asked)
  all_there done ends = record {
    course = are.sends.course;
    publishing = IsPublishing-finished asked are.sends.course is.publishing is.working done;
    followed = followed done ends;
    goes_on = GoesOn-trans old asked (finished_if done asked) (GoesOn-trans old sent asked are.goes_on is.goes_on)
        (kept done).0;
    sessions = RisesBy-trans 0 0 old asked (finished_if done asked) (is.goes_on.honest ∙ are.goes_on.honest)
        (RisesBy-trans 0 0 old sent asked are.goes_on.honest are.sessions is.sessions)
        (RisesBy-same asked (finished_if done asked) (kept done).1 (kept done).0.restarts (kept done).2);
    time = KeepsTimestamp-trans old sent (finished_if done asked) are.goes_on.honest are.time
        (KeepsTimestamp-same sent (finished_if done asked) ((kept done).1 ∙ is.held));
  }
    where
      kept : (b : Bool) → GoesOn asked (finished_if b asked) × ((finished_if b asked).held ≡ asked.held)
          × ((finished_if b asked).published ≡ asked.published)
      kept true = assumption
      kept false = assumption

      all : (next_packet are.sends.course ≡ None) ⊎ (asked.unanswered ≡ asked.window + 1)
      all = elim are.all [
        | inl none ↦ inl none
        | inr full ↦ inr (omega (arith, full, is.unanswered, is.goes_on.window))
      ]

      followed : (b : Bool) → (is_done are.sends.course && (asked.unanswered == 0)) ≡ b
          → HasFollowed (finished_if b asked) are.sends.course
      followed true ends = record {
        asked = is.poll;
        sent = all;
        turn = subst
            (λ ps. IsInTurn asked.restarts asked.honest (confirms_in (of_sender 1 asked.inbox.received)) ps
            are.sends.course) (sym (packets-finished asked.packets.sent)) is.turn;
        finished = sym ends;
      }
      followed false ends = record { asked = is.poll; sent = all; turn = is.turn; finished = is.working ∙ sym ends }

  pub followed_so : (new : ConnectorCore)
      → new ≡ finished_if (is_done are.sends.course && (asked.unanswered == 0)) asked → IsFollowed old new
  followed_so new after = rw after (all_there (is_done are.sends.course && (asked.unanswered == 0)) refl)

-- what holds of each good answer
pub if_ok_then : {A E : Type 0} (r : Result A E) (P Q : A → Type 0) → ((x : A) → P x → Q x) → IfOk r P → IfOk r Q
if_ok_then (Ok x) P Q then_so so = then_so x so
if_ok_then (Err e) P Q then_so so = tt

-- ---- what stays so of any turn

pub same_of : (old new : ConnectorCore) → GoesOn old new → IsOfSame old new
same_of old new on = assumption

pub same_trans : (a b c : ConnectorCore) → IsOfSame a b → IsOfSame b c → IsOfSame a c
same_trans a b c one two = record {
  polls = two.polls ∙ one.polls;
  packets = two.packets ∙ one.packets;
  honest = two.honest ∙ one.honest;
  risks = two.risks ∙ one.risks;
  origin = λ gives. two.origin (one.honest ∙ gives) ∙ one.origin gives;
  window = two.window ∙ one.window;
  restarts = two.restarts ∙ one.restarts;
}
