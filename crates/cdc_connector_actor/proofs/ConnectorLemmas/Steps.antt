-- What stays so of a connector at each step: as it starts a session, sends, asks, finishes, and receives.
use Rattle.cdc_connector_actor.proofs.Words.{if◌then◌else◌, ◌++◌, ◌+◌, ◌<◌, ◌==◌, ◌∙◌, ◌∷◌, ◌≡◌, ◌≤◌, AreUnanswered, Bool, Confirm, ConnectorCore, ConnectorState, Course, Err, FollowsToBroker, FollowsToLedger, GoesOn, HasSent, IsAtStart, IsBegun, IsPollOf, IsPublishing, IsTurnOf, IsWanted-now, KeepsTo-sent, KeepsTo-start, KeepsToReadings, List, MayConnect, None, Ok, Option, Origin, Packet, Poll, RestartsAsPlanned, Result, Saved, SessionStands, SessionState, Some, StandsFor, StartError, Wanted, [], ap, arith, begun, confirms_in, connector_of, false, finished_if, first_origin, first_saved, held_number, held_start, last_session, length, length-append, new_course, next_packet, next_poll, none-some, none_there, of_sender, option_map, origin_of, packets_in, packets_keep, poll_for, publish_count, readings_of, refl, same_Some, subst, sym, true, unwrap_or, with_message, with_poll, with_sent, ℕ}
use Rattle.cdc_connector_actor.proofs.ConnectorLemmas.Messages.{HasSent-finished, HasSent-packet, HasSent-poll, IsPacket-next, packets-finished, packets-more, to_broker_goes_on, to_ledger_goes_on}
use Rattle.cdc_connector_actor.proofs.ConnectorLemmas.Restarts.{IsInTurn-begun, MayBeSent-next, RestartsAsPlanned-sent}
use Rattle.cdc_publisher.specs.declared.errors.StartError.TheVariants.{SessionsExhausted}
use Rattle.cdc_traffic.specs.declared.messages.ToBroker.TheVariants as to_broker
use Rattle.cdc_traffic.specs.declared.messages.ToLedger.TheVariants as to_ledger

-- the session that runs represents the course
pub stands_of : (o : Option SessionState) (kept : SessionState) (course : Course) → o ≡ Some kept
    → SessionStands o (Some course) → StandsFor kept course
stands_of o kept course is stands = rw is at stands

-- what is kept of it is there
pub kept_of : (o : Option SessionState) (course : Course) → SessionStands o (Some course)
    → (kept : SessionState) × (o ≡ Some kept) × StandsFor kept course
kept_of None course stands = absurd stands
kept_of (Some kept) course stands = (kept, refl, stands)

-- ---- a session starts

-- what is answered is one and the same
same_Ok : (x y : Saved) (answer : Result Saved StartError) → answer ≡ Ok x → answer ≡ Ok y → x ≡ y
same_Ok x y answer is also = cc

-- what is saved as a session starts: the next number, and the origin that is held, or the one that was given
pub record IsNext (at : Option ℕ) (held : Option Saved) (saved : Saved) : Type 0 where
  pub number : saved.session ≡ held_number held + 1
  pub origin : record { after = saved.timestamp; start = saved.start } ≡ first_origin at held

pub next_saved_is : (at : Option ℕ) (held : Option Saved) (saved : Saved) → begun held at ≡ Ok saved
    → IsNext at held saved
next_saved_is at None saved is =
    subst (IsNext at None) (same_Ok (first_saved at) saved (begun None at) refl is)
    (record { number = refl; origin = refl })
next_saved_is (Some time) (Some held) saved is = cc
next_saved_is None (Some held) saved is = either (held.session == last_session) is
  where
    next : Saved
    next = record held { session = held.session + 1 }

    either : (b : Bool) → (if b then Err SessionsExhausted else Ok next) ≡ Ok saved → IsNext None (Some held) saved
    either true is = cc
    either false is =
        subst (IsNext None (Some held)) (same_Ok next saved (Ok next) refl is) (record { number = refl; origin = refl })

-- so the run has the same origin then
pub origin_kept : (c : ConnectorCore) (saved : Saved) → begun c.held c.start ≡ Ok saved
    → record { after = unwrap_or c.first saved.timestamp; start = saved.start } ≡ origin_of c
origin_kept c saved begins =
    ap (λ (o : Origin). record { after = unwrap_or c.first o.after; start = o.start })
    (next_saved_is c.start c.held saved begins).origin

-- once a session has begun, the start of the run is held
pub start_held : (at : Option ℕ) (held : Option Saved) → 0 < held_number held
    → (first_origin at held).start ≡ held_start held
start_held at None some = absurd (omega (arith, some))
start_held at (Some saved) some = refl

-- an honest store gives what it holds
begins_over : (old new : ConnectorCore) (on : IsBegun old new) → old.honest ≡ true
    → begun old.held old.start ≡ Ok on.saved
begins_over old new on gives = ap (λ h. begun h old.start) (sym (on.given gives)) ∙ on.begins

pub IsPublishing-begun : (old new : ConnectorCore) (course : Option Course) (is : IsPublishing old course)
    (on : IsBegun old new) → IsPublishing new (Some (new_course on.saved old.window))
IsPublishing-begun old new course is on =
    let next : Course = new_course on.saved old.window in
    let number = (next_saved_is old.start on.loaded on.saved on.begins).number in
    rw on.after (record {
      wired = is.wired;
      dispatched = is.dispatched;
      answers = is.answers;
      stands = on.stands;
      runs = record {
        number = omega (arith, number);
        held = refl;
        start = refl;
        emitted = λ event there. absurd (none_there event there);
      };
      first = (unwrap_or old.first on.saved.timestamp, refl);
      honest = on.honest;
      poll = λ poll there. absurd (none-some poll there);
      restarted = is.restarted;
      keeps = λ gives zero h are.
          let begins = begins_over old new on gives in
          KeepsTo-start h (connector_of old course) old.start on.saved old.window
          (is.keeps gives (subst IsAtStart (origin_kept old on.saved begins) zero) h are) begins;
    })

-- its number is the one after the session that ran
pub number_begun : (old new : ConnectorCore) (course : Course) → IsPublishing old (Some course) → (on : IsBegun old new)
    → old.honest ≡ true → on.saved.session ≡ course.number + 1
number_begun old new course is on gives =
    (next_saved_is old.start on.loaded on.saved on.begins).number
    ∙ ap (λ o. held_number o + 1) (on.given gives)
    ∙ ap (λ n. n + 1) is.runs.held

-- it is in turn, if it may connect
pub turn_begun : (old new : ConnectorCore) (on : IsBegun old new)
    → MayConnect old.restarts old.honest (confirms_in (of_sender 1 old.inbox.received)) (packets_in old.packets.sent)
    on.saved.session → IsTurnOf new (new_course on.saved old.window)
turn_begun old new on may =
    let next : Course = new_course on.saved old.window in
    rw on.after (IsInTurn-begun old.restarts old.honest (confirms_in (of_sender 1 old.inbox.received))
    (packets_in old.packets.sent) next refl may)

pub GoesOn-begun : (old new : ConnectorCore) → IsBegun old new → GoesOn old new
GoesOn-begun old new on =
    rw on.after (assumption (λ (gives : old.honest ≡ true). origin_kept old on.saved (begins_over old new on gives)))

pub finished-begun : (old new : ConnectorCore) → IsBegun old new → new.finished ≡ old.finished
finished-begun old new on = ap (λ (c : ConnectorCore). c.finished) on.after

-- ---- what it wants

-- a poll for what a session wants is one of it
poll_of_for : (course : Course) (asked : ℕ) (poll : Poll) → poll_for (Some course) asked ≡ Some poll
    → IsPollOf course asked poll
poll_of_for course asked poll is = there (next_poll course) refl is
  where
    as_poll : Wanted → Poll
    as_poll w = record { session = course.number; number = asked; after = w.after; limit = w.limit }

    of_wanted : (w : Wanted) → next_poll course ≡ Some w → IsPollOf course asked (as_poll w)
    of_wanted w here = record { session = refl; number = refl; wanted = IsWanted-now course w here }

    there : (o : Option Wanted) → next_poll course ≡ o → option_map as_poll o ≡ Some poll → IsPollOf course asked poll
    there None here is = absurd (none-some poll is)
    there (Some w) here is = rw (same_Some (as_poll w) poll is) at (of_wanted w here)

-- it stays one, whatever the session sends
poll_kept : (course : Course) (asked : ℕ) (poll : Poll) (packet : Packet) → next_packet course ≡ Some packet
    → IsPollOf course asked poll → IsPollOf (with_sent (Some packet) course) asked poll
poll_kept course asked poll packet sends is = record {
  session = is.session;
  number = is.number;
  wanted = packets_keep course (record { after = poll.after; limit = poll.limit }) packet is.wanted sends;
}

-- ---- it sends

module _ (c : ConnectorCore) (course : Course) (is : IsPublishing c (Some course)) where
  -- a session that had nothing to send
  pub IsPublishing-none : (session : Option SessionState) → SessionStands session (Some course)
      → IsPublishing (record c { session = session }) (Some course)
  IsPublishing-none session stands = assumption

  module _ (working : c.finished ≡ false) where
    dispatched_so_far : HasSent c.polls.sent c.packets.sent c.published false
    dispatched_so_far = rw working at is.dispatched

    -- its next packet may be sent
    pub may_publish : (packet : Packet) → next_packet course ≡ Some packet
        → FollowsToBroker c.packets.number c.packets.sent (to_broker.Packet packet, tt)
    may_publish packet next = record {
      goes_on = to_broker_goes_on c.polls.sent c.packets.sent c.published dispatched_so_far;
      may = (is.wired.packets, IsPacket-next c.held course is.runs packet next);
    }

    -- so may any poll
    pub may_ask : (poll : Poll) → FollowsToLedger c.polls.number c.polls.sent (to_ledger.Poll poll, tt)
    may_ask poll = record {
      goes_on = to_ledger_goes_on c.polls.sent c.packets.sent c.published dispatched_so_far;
      may = is.wired.polls;
    }

    -- and the last messages
    pub may_finish_to_ledger : FollowsToLedger c.polls.number c.polls.sent (to_ledger.Finish, tt)
    may_finish_to_ledger = record {
      goes_on = to_ledger_goes_on c.polls.sent c.packets.sent c.published dispatched_so_far;
      may = is.wired.polls;
    }

    pub may_finish_to_broker : FollowsToBroker c.packets.number c.packets.sent (to_broker.Finish, tt)
    may_finish_to_broker = record {
      goes_on = to_broker_goes_on c.polls.sent c.packets.sent c.published dispatched_so_far;
      may = is.wired.packets;
    }

    -- its next packet was sent
    pub IsPublishing-sent : (session : Option SessionState) (packet : Packet) → next_packet course ≡ Some packet
        → SessionStands session (Some (with_sent (Some packet) course)) → c.unanswered ≤ c.window → IsTurnOf c course
        → IsPublishing (record c {
          session = session;
          packets = with_message c.packets (to_broker.Packet packet, tt);
          unanswered = c.unanswered + 1;
          published = c.published + publish_count packet;
        }) (Some (with_sent (Some packet) course))
    IsPublishing-sent session packet next stands room turn =
        let next_course : Course = with_sent (Some packet) course in
        let more = packets-more c.packets.sent packet in
        let confirms : List Confirm = confirms_in (of_sender 1 c.inbox.received) in
        let count = ap (λ (l : List Packet). length l) more ∙ length-append (packets_in c.packets.sent) (packet ∷ []) in
        record {
          wired = is.wired;
          dispatched = subst
              (HasSent c.polls.sent (c.packets.sent ++ (to_broker.Packet packet, tt) ∷ [])
              (c.published + publish_count packet)) (sym working)
              (HasSent-packet c.polls.sent c.packets.sent c.published dispatched_so_far packet);
          answers = record { exact = omega (arith, is.answers.exact, count); room = omega (arith, room) };
          stands = stands;
          runs = assumption;
          first = is.first;
          honest = is.honest;
          poll = λ poll there. poll_kept course c.asked poll packet next (is.poll poll there);
          restarted = rw more
              (RestartsAsPlanned-sent c.restarts c.honest confirms (packets_in c.packets.sent) packet is.restarted
              (MayBeSent-next c.restarts c.honest confirms (packets_in c.packets.sent) course turn packet next));
          keeps = λ gives zero h are.
              let state : ConnectorState = connector_of c (Some course) in
              rw more (KeepsTo-sent h state (is.keeps gives zero h are) course refl packet next);
        }

    -- a poll was sent for what it wants
    pub IsPublishing-asked : (o : Option Poll) → poll_for (Some course) (c.asked + 1) ≡ o
        → IsPublishing (with_poll o c) (Some course)
    IsPublishing-asked None is_for = is
    IsPublishing-asked (Some poll) is_for =
        let polls : (other : Poll) → Some poll ≡ Some other → IsPollOf course (c.asked + 1) other = λ other there.
        poll_of_for course (c.asked + 1) other (is_for ∙ there) in
        assumption (
          polls,
          subst (λ (b : Bool). HasSent (c.polls.sent ++ (to_ledger.Poll poll, tt) ∷ []) c.packets.sent c.published b)
              (sym working) (HasSent-poll c.polls.sent c.packets.sent c.published dispatched_so_far poll),
        )

    -- the last messages were sent
    pub IsPublishing-finished : (done : Bool) → IsPublishing (finished_if done c) (Some course)
    IsPublishing-finished false = is
    IsPublishing-finished true =
        let same = packets-finished c.packets.sent in
        assumption (
          HasSent-finished c.polls.sent c.packets.sent c.published dispatched_so_far,
          subst
              (λ (l : List Packet). AreUnanswered (length l)
              (length (confirms_in (of_sender 1 c.inbox.received))) c.unanswered c.window) (sym same) is.answers,
          subst (RestartsAsPlanned c.restarts c.honest (confirms_in (of_sender 1 c.inbox.received))) (sym same)
              is.restarted,
          subst (λ (ps : List Packet). c.honest ≡ true → IsAtStart (origin_of c)
              → KeepsToReadings (readings_of (of_sender 0 c.inbox.received))
              (record (connector_of c (Some course)) { sent = ps })) (sym same) is.keeps,
        )
