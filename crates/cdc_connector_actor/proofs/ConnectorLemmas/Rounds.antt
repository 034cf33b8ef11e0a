-- A whole turn of a connector.
use Rattle.cdc_connector_actor.proofs.Words.{if◌then◌else◌, ◌&&◌, ◌++◌, ◌+◌, ◌-◌, ◌<◌, ◌==◌, ◌∙◌, ◌≡◌, ◌≤◌, Answer, AreReceived, Bool, Broken, Confirm, Confirmed, Connected, ConnectorCore, Contains-push, Course, FinishedConnectorsAreDone, FollowsToConnector, HasFollowed, Ignored, Incoming, IsAdvanced, IsAnswerTaken, IsAtRest, IsAtStart, IsBegun, IsBegunOrReceived, IsBroken, IsBrokenOff, IsConfirmTaken, IsConnectorActor, IsDone, IsFollowed, IsOfSame, IsPublishing, IsReplyReceived, IsReplyTaken, IsSending, IsTurnOf, IsWorkingTurn, KeepsTo-begin, List, None, Option, Outgoing, Packet, Past, PollReply, RisesBy, Risks, Saved, SessionStands, SessionState, Some, Takes, TakesIfSome, ToBroker, ToConnector, ToLedger, [], after_answer, and_parts, ap, ap₂, arith, broken_by, confirmed_timestamp, confirms_in, eqb-true, false, finish_if, first_connector, first_origin, held_number, held_start, held_timestamp, inl, inr, is_confirmed, is_done, is_some, leb-true, length, map, nat_le, nat_lt, nat_tests, new_course, none-some, of_sender, origin_of, packets_in, planned_up_to, polls_in, progress_of, refl, saved_by, sym, tags_sent, timestamp_after, true, true≢false, with_confirm, with_offer, ℕ}
use Rattle.cdc_connector_actor.proofs.ConnectorLemmas.Receiving.{IsConfirmOf, IsPublishing-answered, IsPublishing-offered, IsPublishing-saved, IsPublishing-unused, answer_keeps, confirm_came, origin_saved, reply_came, turn_answered, turn_offered}
use Rattle.cdc_connector_actor.proofs.ConnectorLemmas.Restarts.{MayConnect-broken, MayConnect-first, RestartsAsPlanned-none, unplanned_last}
use Rattle.cdc_connector_actor.proofs.ConnectorLemmas.Steps.{GoesOn-begun, IsPublishing-begun, finished-begun, number_begun, start_held, turn_begun}
use Rattle.cdc_connector_actor.proofs.ConnectorLemmas.Turns.{GoesOn-same, KeepsTimestamp-begun, RisesBy-begun, RisesBy-same, RisesBy-trans, same_of, same_trans}
use Rattle.cdc_traffic.specs.declared.messages.ToBroker.TheVariants as to_broker
use Rattle.cdc_traffic.specs.declared.messages.ToConnector.TheVariants as to_connector
use Rattle.cdc_traffic.specs.declared.messages.ToLedger.TheVariants as to_ledger
use Rattle.cdc_types.specs.Windows.{IsWindow}

-- what a connector's store, plan and count of publish packets imply about its sessions
rises_as : (n : ℕ) (old new : ConnectorCore) (held : Option Saved) → new.held ≡ held
    → held_number held ≡ held_number old.held + n → new.restarts ≡ old.restarts → new.published ≡ old.published
    → RisesBy n old new
rises_as n old new held is number plan published = λ gives.
    let numbers : held_number new.held ≡ held_number old.held + n = ap held_number is ∙ number in
    let planned = ap₂ planned_up_to plan published in
    omega (arith, numbers, planned)

add_none : (n : ℕ) → n ≡ n + 0
add_none n = omega arith

-- a session that has come no further leaves what is held
unmoved : (held before after : ℕ) → after ≡ before → held ≡ timestamp_after held before after
unmoved held before after same =
    let here : (after == before) ≡ true = grind (arith, nat_tests) in
    sym (ap (λ b. if b then held else after) here)

module _ (old : ConnectorCore) (course : Course) (is : IsPublishing old (Some course))
    (inbox : Incoming ToConnector (Option Past)) where
  -- ---- a reply to a poll was received and taken
  pub received_reply : (reply : PollReply) → Takes FollowsToConnector old.inbox (to_connector.PollReply reply) inbox
      → (moved : Bool) (new : ConnectorCore) → IsReplyTaken (record old { inbox = inbox }) reply moved new
      → IsReplyReceived old course moved new
  received_reply reply takes true new (asked, offered, after) =
      let came = reply_came old.inbox inbox reply takes in
      let next : Course = with_offer reply.events reply.complete course in
      rw after (record {
        message = to_connector.PollReply reply;
        takes = takes;
        next = next;
        publishing = IsPublishing-offered old course is inbox reply came asked new.session (offered course is.stands);
        turn = turn_offered old inbox reply came course next refl refl;
        working = refl;
        sessions = λ _. add_none _;
        saves = λ _. refl;
        same = assumption;
        unasked = λ other. absurd (other asked);
        still = λ moved. cc;
      })
  received_reply reply takes false new (other, after) =
      let came = reply_came old.inbox inbox reply takes in
      rw after (record {
        message = to_connector.PollReply reply;
        takes = takes;
        next = course;
        publishing = IsPublishing-unused old course is inbox reply came;
        turn = turn_offered old inbox reply came course course refl refl;
        working = refl;
        sessions = λ _. add_none _;
        saves = λ _. refl;
        same = assumption;
        unasked = λ _. refl;
        still = λ _. (refl, refl);
      })

  -- ---- a confirm was received and taken
  module _ (session unanswered : ℕ) (less : old.unanswered ≡ unanswered + 1) where
    -- the connector with one answer more
    abbrev answered : ConnectorCore
    answered = record old { inbox = inbox; unanswered = unanswered }

    abbrev TakesAnswer : Answer → Type 0
    TakesAnswer answer =
        Takes FollowsToConnector old.inbox (to_connector.Confirm (record { session = session; answer = answer })) inbox

    module _ (answer : Answer) (takes : TakesAnswer answer) where
      abbrev confirm : Confirm
      confirm = record { session = session; answer = answer }

      came : IsConfirmOf old.inbox inbox confirm
      came = confirm_came old.inbox inbox confirm takes

      -- so much is known of what comes of it
      received_of : (new : ConnectorCore) (next : Course) (n : ℕ) → IsPublishing new (Some next)
          → (IsTurnOf old course → IsTurnOf new next) → new.inbox ≡ inbox → new.finished ≡ old.finished
          → RisesBy n old new → broken_by (session == held_number old.held) answer ≡ n
          → (old.honest ≡ true
          → held_timestamp new.held ≡ saved_by (held_timestamp old.held) course (to_connector.Confirm confirm))
          → IsOfSame old new → IsReplyReceived old course true new
      received_of new next n publishing turn here working rises ends saves same = record {
        message = to_connector.Confirm confirm;
        takes = rw here takes;
        next = next;
        publishing = publishing;
        turn = turn;
        working = working;
        sessions = rw ends rises;
        saves = saves;
        same = same;
        unasked = λ other. absurd other;
        still = λ moved. cc;
      }

      -- its session takes it
      answered_as : (s : Option SessionState) → SessionStands s (Some (after_answer course session answer))
          → IsPublishing (record answered { session = s }) (Some (after_answer course session answer))
      answered_as s stands = IsPublishing-answered old course is inbox confirm came unanswered less s stands

      -- so it is in turn if it was
      turn_as : IsTurnOf old course → IsTurnOf answered (after_answer course session answer)
      turn_as turn = turn_answered old course is inbox confirm came unanswered less turn

      -- nothing else comes of it
      received_only : (new : ConnectorCore) → new ≡ answered → IsPublishing answered (Some course)
          → broken_by (session == held_number old.held) answer ≡ 0 → after_answer course session answer ≡ course
          → IsReplyReceived old course true new
      received_only new after publishing ends same_course =
          rw after (received_of answered course 0 publishing (λ turn. rw same_course at (turn_as turn)) refl
          refl (RisesBy-same old answered refl refl refl) ends
          (λ gives.
          unmoved (held_timestamp old.held) (confirmed_timestamp course)
          (confirmed_timestamp (after_answer course session answer)) (ap confirmed_timestamp same_course)) assumption)

    -- a tag was confirmed, and progress is saved if it has moved
    module _ (next : Course) where
      abbrev held_if : Bool → Option Saved
      held_if same = if same then old.held else Some (progress_of next)

      saved_if : (s : Option SessionState) → IsPublishing (record answered { session = s }) (Some next) → (b : Bool)
          → IsPublishing (record answered { held = held_if b; session = s }) (Some next)
      saved_if s publishing true = publishing
      saved_if s publishing false = IsPublishing-saved (record answered { session = s }) next publishing

      origin_if : (s : Option SessionState) → IsPublishing (record answered { session = s }) (Some next) → (b : Bool)
          → origin_of (record answered { held = held_if b; session = s }) ≡ origin_of old
      origin_if s publishing true = refl
      origin_if s publishing false = origin_saved (record answered { session = s }) next publishing

      number_if : next.number ≡ course.number → (b : Bool) → held_number (held_if b) ≡ held_number old.held + 0
      number_if same true = add_none (held_number old.held)
      number_if same false = same ∙ sym is.runs.held ∙ add_none (held_number old.held)

      timestamp_if : (b : Bool)
          → held_timestamp (held_if b) ≡ (if b then held_timestamp old.held else confirmed_timestamp next)
      timestamp_if true = refl
      timestamp_if false = refl

    module _ (new : ConnectorCore) where
      received_confirmed : (tag : ℕ) → TakesAnswer (Confirmed tag)
          → IsAnswerTaken answered course session (Confirmed tag) new → IsReplyReceived old course true new
      received_confirmed tag takes (stands, after) =
          let next : Course = with_confirm session tag course in
          let moved : Bool = confirmed_timestamp next == confirmed_timestamp course in
          let state : ConnectorCore = record answered { held = held_if next moved; session = new.session } in
          let publishing = answered_as (Confirmed tag) takes new.session stands in
          rw after (received_of (Confirmed tag) takes state next 0 (saved_if next new.session publishing moved)
          (turn_as (Confirmed tag) takes) refl refl
          (rises_as 0 old state (held_if next moved) refl
          (number_if next (answer_keeps course session (Confirmed tag)).number moved) refl refl)
          refl (λ gives. timestamp_if next moved) (assumption (origin_if next new.session publishing moved)))

      -- a packet of the session was lost, so the next one may connect
      turn_broken : TakesAnswer Broken → session ≡ course.number → (begun : IsBegun answered new) → IsTurnOf old course
          → IsTurnOf new (new_course begun.saved old.window)
      turn_broken takes own begun turn =
          let lost : Confirm = record { session = session; answer = Broken } in
          let confirms : List Confirm = confirms_in (of_sender 1 inbox.received) in
          let there : IsBroken confirms session =
          rw ((came Broken takes).confirms) (Contains-push (confirms_in (of_sender 1 old.inbox.received)) lost) in
          turn_begun answered new begun
          (MayConnect-broken old.restarts old.honest confirms (packets_in old.packets.sent) course.number
          begun.saved.session (number_begun answered new course (answered_as Broken takes old.session is.stands) begun)
          (rw own at there) course refl (turn_as Broken takes turn))

      -- a packet of a session was lost
      received_broken : TakesAnswer Broken → (b : Bool) → (session == course.number) ≡ b → IsBrokenOff b answered new
          → IsReplyReceived old course true new
      received_broken takes false other after =
          received_only Broken takes new after (answered_as Broken takes old.session is.stands)
          (ap (λ n. if session == n then 1 else 0) is.runs.held ∙ ap (λ b. if b then 1 else 0) other) refl
      received_broken takes true own begun =
          let goes = GoesOn-begun answered new begun in
          received_of Broken takes new (new_course begun.saved old.window) 1
          (IsPublishing-begun answered new (Some course) (answered_as Broken takes old.session is.stands) begun)
          (turn_broken takes (eqb-true session course.number own) begun) goes.inbox (finished-begun answered new begun)
          (RisesBy-begun answered new begun)
          (ap (λ n. if session == n then 1 else 0) is.runs.held ∙ ap (λ b. if b then 1 else 0) own)
          (λ gives.
          (KeepsTimestamp-begun answered new begun).time gives (rw is.runs.held is.runs.number)
          ∙ unmoved (held_timestamp old.held) (confirmed_timestamp course) (confirmed_timestamp course) refl)
          (assumption goes)

      received_answer : (answer : Answer) → TakesAnswer answer → IsAnswerTaken answered course session answer new
          → IsReplyReceived old course true new
      received_answer (Confirmed tag) takes taken = received_confirmed tag takes taken
      received_answer Connected takes taken =
          received_only Connected takes new taken (answered_as Connected takes old.session is.stands) refl refl
      received_answer Ignored takes taken =
          received_only Ignored takes new taken (answered_as Ignored takes old.session is.stands) refl refl
      received_answer Broken takes taken = received_broken takes (session == course.number) refl taken

pub received_confirm : (old : ConnectorCore) (course : Course) → IsPublishing old (Some course)
    → (inbox : Incoming ToConnector (Option Past)) (confirm : Confirm)
    → Takes FollowsToConnector old.inbox (to_connector.Confirm confirm) inbox → (new : ConnectorCore)
    → IsConfirmTaken (record old { inbox = inbox }) course confirm new → IsReplyReceived old course true new
received_confirm old course is inbox confirm takes new taken =
    received_answer old course is inbox confirm.session taken.unanswered taken.less new confirm.answer takes taken.taken

-- ---- a session begins, or messages are received

-- what holds between two turns
not_none : (o : Option SessionState) → o ≡ None → is_some o ≡ true → ⊥
not_none None is up = cc
not_none (Some kept) is up = cc

none_of : (o : Option SessionState) → is_some o ≡ false → o ≡ None
none_of None is = refl
none_of (Some kept) is = cc

-- if a session runs, there is a course that it represents
course_of : (s : Option SessionState) (course : Option Course) → SessionStands s course → is_some s ≡ true
    → (c : Course) × (course ≡ Some c)
course_of None course stands up = absurd (not_none None refl up)
course_of (Some kept) None stands up = absurd stands
course_of (Some kept) (Some c) stands up = (c, refl)

module _ (old : ConnectorCore) (end : IsConnectorActor old) (working : old.finished ≡ false) where
  module _ (up : is_some old.session ≡ true) where
    runs : (c : Course) × (end.course ≡ Some c)
    runs = course_of old.session end.course end.publishing.stands up

    followed_by : HasFollowed old runs.0
    followed_by = rw runs.1 at end.rest

    pub running : IsSending old
    running = record {
      course = runs.0;
      publishing = rw runs.1 at end.publishing;
      turn = followed_by.turn;
      working = working;
    }

    followed : HasFollowed old running.course
    unfolding running runs
    followed = followed_by

    -- messages were received
    received_moves : (moved : Bool) (new : ConnectorCore) → AreReceived old running.course moved new
        → (s : Option SessionState) → old.session ≡ s → IsBegunOrReceived s old moved new
    received_moves moved new are None down = absurd (not_none old.session down up)
    received_moves moved new are (Some kept) there =
        record { messages = are.messages; some = are.some; takes = are.takes; unasked = are.unasked }

    -- if they had no effect, it is as before
    stays : (new : ConnectorCore) (next : Course) → IsTurnOf new next → next ≡ running.course
        → new ≡ record old { inbox = new.inbox } → HasFollowed new next
    stays new next turn same after =
        rw same (record {
          asked = ap (λ (c : ConnectorCore). is_some c.poll) after ∙ followed.asked;
          sent = elim followed.sent [
            | inl none ↦ inl none
            | inr full ↦ inr
                (ap (λ (c : ConnectorCore). c.unanswered) after
                ∙ full
                ∙ ap (λ n. n + 1) (sym (ap (λ (c : ConnectorCore). c.window) after)))
          ];
          turn = rw same at turn;
          finished = ap (λ (c : ConnectorCore). c.finished) after
              ∙ followed.finished
              ∙ ap (λ n. is_done running.course && (n == 0)) (sym (ap (λ (c : ConnectorCore). c.unanswered) after));
        })

    pub received_so : (moved : Bool) (new : ConnectorCore) → AreReceived old running.course moved new
        → IsAdvanced old moved new
    received_so moved new are = record {
      next = are.next;
      publishing = are.publishing;
      turn = are.turn;
      working = are.working ∙ working;
      moves = received_moves moved new are old.session refl;
      still = λ quiet. let same = are.still quiet in stays new are.next are.turn same.0 same.1;
    }

  -- the first session has begun
  first_moves : (new : ConnectorCore) → IsBegun old new → (s : Option SessionState) → old.session ≡ s → s ≡ None
      → IsBegunOrReceived s old true new
  first_moves new begun None is down =
      let goes = GoesOn-begun old new begun in
      record { inbox = goes.inbox; sessions = RisesBy-begun old new begun; same = same_of old new goes }
  first_moves new begun (Some kept) is down = cc

  -- before that nothing was sent
  none_sent : (course : Option Course) → SessionStands old.session course → IsAtRest old course → old.session ≡ None
      → packets_in old.packets.sent ≡ []
  none_sent None stands rest down = ap (λ (l : List (ToBroker × Unit {0})). packets_in l) rest.packets
  none_sent (Some course) stands rest down = absurd (rw down at stands)

  pub first_so : (new : ConnectorCore) → is_some old.session ≡ false → IsBegun old new → IsAdvanced old true new
  first_so new down begun = record {
    next = new_course begun.saved old.window;
    publishing = IsPublishing-begun old new end.course end.publishing begun;
    turn = turn_begun old new begun
        (rw (none_sent end.course end.publishing.stands end.rest (none_of old.session down))
        (MayConnect-first old.restarts old.honest (confirms_in (of_sender 1 old.inbox.received)) begun.saved.session));
    working = finished-begun old new begun ∙ working;
    moves = first_moves new begun old.session refl (none_of old.session down);
    still = λ quiet. cc;
  }

-- ---- a whole turn

module _ (old mid new : ConnectorCore) where
  -- all that follows was sent
  followed_turn : (s : Option SessionState) → 0 < held_number mid.held → IsBegunOrReceived s old true mid
      → IsFollowed mid new → IsWorkingTurn s old new
  followed_turn None some is on = record {
    inbox = on.goes_on.inbox ∙ is.inbox;
    sessions = RisesBy-trans 1 0 old mid new is.same.honest is.sessions on.sessions;
    same = same_trans old mid new is.same (same_of mid new on.goes_on);
  }
  followed_turn (Some kept) some is on = record {
    messages = is.messages;
    some = is.some;
    taken = mid;
    takes = is.takes;
    follows = record {
      inbox = on.goes_on.inbox;
      sessions = on.sessions;
      saves = λ gives. on.time.time gives some;
      same = same_of mid new on.goes_on;
    };
    unasked = λ others. absurd (true≢false (is.unasked others));
  }

  pub turned : IsAdvanced old true mid → IsFollowed mid new → IsWorkingTurn old.session old new
  turned is on =
      let some : 0 < held_number mid.held = rw is.publishing.runs.held is.publishing.runs.number in
      followed_turn old.session some is.moves on

-- nothing followed
module _ (old new : ConnectorCore) where
  still_turn : (s : Option SessionState) → IsBegunOrReceived s old false new → IsWorkingTurn s old new
  still_turn None is = is
  still_turn (Some kept) is = record {
    messages = is.messages;
    some = is.some;
    taken = new;
    takes = is.takes;
    follows = record {
      inbox = refl;
      sessions = RisesBy-same new new refl refl refl;
      saves = λ gives. refl;
      same = same_of new new (GoesOn-same new);
    };
    unasked = λ others. refl;
  }

  pub turned_still : IsAdvanced old false new → IsWorkingTurn old.session old new
  turned_still is = still_turn old.session is.moves

  pub rests_still : IsAdvanced old false new → IsConnectorActor new
  rests_still is = record { course = Some is.next; publishing = is.publishing; rest = is.still refl }

pub rests_then : (mid new : ConnectorCore) → IsFollowed mid new → IsConnectorActor new
rests_then mid new is = record { course = Some is.course; publishing = is.publishing; rest = is.followed }

-- what the work inside a connector received, the connector received
pub took : (inside now : ConnectorCore) (message : ToConnector) (new : Incoming ToConnector (Option Past))
    → inside ≡ now → Takes FollowsToConnector inside.inbox message new → Takes FollowsToConnector now.inbox message new
took inside now message new same takes = rw same at takes

-- the same of a message that was ready
pub took_ready : (inside now : ConnectorCore) (ready : Option ToConnector) (message : ToConnector)
    (new : Incoming ToConnector (Option Past)) → inside ≡ now → ready ≡ Some message
    → TakesIfSome FollowsToConnector inside.inbox ready new → Takes FollowsToConnector now.inbox message new
took_ready inside now ready message new same is takes = took inside now message new same (rw is at takes)

-- ---- it begins

-- a store that holds nothing, or a timestamp that is its start
at_start : (at : Option ℕ) (held : Option Saved) → IsAtStart (first_origin at held)
    → held_timestamp held ≡ held_start held
at_start at None same = refl
at_start at (Some saved) same = same

-- nothing has been sent yet, whatever the store holds
pub begins : (inbox : Incoming ToConnector (Option Past)) (polls : Outgoing ToLedger (Unit {0}))
    (packets : Outgoing ToBroker (Unit {0})) (held : Option Saved) (honest : Bool) (risks : Risks) (start : Option ℕ)
    (window : ℕ) (restarts : List ℕ) → inbox.received ≡ [] → inbox.senders ≡ 2 → polls.number ≡ 0 → polls.sent ≡ []
    → packets.number ≡ 0 → packets.sent ≡ [] → IsWindow window
    → IsConnectorActor (first_connector inbox polls packets held honest risks start window restarts)
begins inbox polls packets held honest risks start window restarts fresh two to_ledger asked to_broker published fits =
    let no_packets = ap (λ (l : List (ToBroker × Unit {0})). packets_in l) published in
    let no_confirms = ap (λ (l : List (ℕ × (ToConnector × Option Past))). confirms_in (of_sender 1 l)) fresh in
    record {
      course = None;
      publishing = record {
        wired = record { two = two; polls = to_ledger; packets = to_broker; fits = fits };
        dispatched = rw asked (rw published (record { asked = refl; sent = refl; counted = refl }));
        answers = record {
          exact = ap (λ (cs : List Confirm). 0 + length cs) no_confirms
              ∙ sym (ap (λ (ps : List Packet). length ps) no_packets);
          room = zero_first (window + 1);
        };
        stands = tt;
        runs = tt;
        first = refl;
        honest = tt;
        poll = λ poll there. absurd (none-some poll there);
        restarted = rw no_packets (RestartsAsPlanned-none restarts honest (confirms_in (of_sender 1 inbox.received)));
        keeps = λ gives zero h are.
            rw no_packets (rw no_confirms (KeepsTo-begin h held (at_start start held zero)));
      };
      rest = record { received = fresh; polls = asked; packets = published; working = refl };
    }
  where
    zero_first : (n : ℕ) → 0 ≤ n
    zero_first n = omega arith

-- ---- it is done

-- a session that is done has connected
connected : (s : Option SessionState) (course : Course) → SessionStands s (Some course) → is_done course ≡ true
    → 0 < course.sent
connected None course stands done = absurd stands
connected (Some kept) course stands done =
    let tag : ℕ = length course.offered + 1 in
    let confirmed = and_parts course.complete (is_confirmed course tag) done in
    let both = and_parts (nat_lt 0 tag) (nat_le tag (tags_sent course)) (stands.confirmed_sent tag confirmed.1) in
    let within : tag ≤ course.sent - 1 = leb-true tag (tags_sent course) both.1 in
    omega (arith, within)

-- a connector that has finished isn't silent, so its session runs
pub finished_done : FinishedConnectorsAreDone
finished_done c end finished = go end.course end.publishing end.rest
  where
    go : (course : Option Course) → IsPublishing c course → IsAtRest c course → IsDone c
    go None is rest = absurd (true≢false (sym finished ∙ rest.working))
    go (Some course) is rest =
        let both = and_parts (is_done course) (c.unanswered == 0) (sym rest.finished ∙ finished) in
        let none : c.unanswered ≡ 0 = eqb-true c.unanswered 0 both.1 in
        record {
          course = course;
          done = both.0;
          answered = omega (arith, none, is.answers.exact);
          asked = is.dispatched.asked
              ∙ ap (λ b. map to_ledger.Poll (polls_in c.polls.sent) ++ finish_if to_ledger.Finish b) finished;
          sent = is.dispatched.sent
              ∙ ap (λ b. map to_broker.Packet (packets_in c.packets.sent) ++ finish_if to_broker.Finish b) finished;
          start = sym (start_held c.start c.held (rw is.runs.held is.runs.number));
          restarted = is.restarted;
          last = unplanned_last c.restarts c.honest (confirms_in (of_sender 1 c.inbox.received))
              (packets_in c.packets.sent) course (connected c.session course is.stands both.0) rest.turn;
          honest = is.honest;
          keeps = is.keeps;
        }
