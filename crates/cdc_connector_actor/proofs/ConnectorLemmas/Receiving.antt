-- What stays so of a connector as it receives a message.
use Rattle.cdc_connector_actor.proofs.Words.{if◌then◌else◌, ◌++◌, ◌+◌, ◌-◌, ◌<◌, ◌∙◌, ◌∷◌, ◌≡◌, ◌≤◌, Answer, AreUnanswered, Bool, Confirm, Confirmed, ConnectorCore, ConnectorState, Contains, Contains-append_cases, Course, Event, FollowsToConnector, HasRestarted, History, Incoming, IsAtStart, IsEmitted, IsInTurn, IsOffered, IsPollOf, IsPublishing, IsReadOf, IsReply-wanted, IsRunning, IsTurnOf, IsWired, KeepsTo-confirm, KeepsTo-save, KeepsToReadings, List, None, OfEvent, Option, Past, Poll, PollReply, Reading, SessionStands, SessionState, Some, Takes, ToConnector, Wanted, [], after_answer, ap, ap₂, arith, confirmed_timestamp, confirms_in, confirms_widen, connector_of, false, first_origin, held_number, history_of, inl, inr, length, length-append, next_poll, none-some, of_sender, origin_of, packets_in, progress_of, reading_of, readings_of, refl, same_Some, subst, suc, sym, takes_confirm, true, unconfirmed, unwrap_or, wanted_by, with_offer, with_reading, with_received, zero, ℕ}
use Rattle.std.proofs.lemmas.List.Sums.{fold-append}
use Rattle.cdc_connector_actor.proofs.ConnectorLemmas.Messages.{confirms-more}
use Rattle.cdc_connector_actor.proofs.ConnectorLemmas.Restarts.{IsInTurn-confirmed, IsInTurn-same, RestartsAsPlanned-confirmed}
use Rattle.cdc_connector_actor.proofs.ConnectorLemmas.Steps.{kept_of, start_held}
use Rattle.cdc_laws.proofs.WholeReads.{Contains-read, IsReply-read}
use Rattle.cdc_laws.proofs.Offers.{KeepsToReadings-offer, KeepsToReadings-unused}
use Rattle.cdc_ledger.proofs.KeptLaws.{IsSound-from_legal}
use Rattle.cdc_links.proofs.Entries.{of_sender-snoc_other, of_sender-snoc_own}
use Rattle.cdc_publisher.proofs.Standing.{poll_of_is}
use Rattle.cdc_traffic.specs.declared.messages.ToConnector.TheVariants as to_connector
use Rattle.cdc_types.specs.Timestamps.{last_timestamp_from}

-- messages to a connector, with their names
abbrev ToConnectors : Type 0
ToConnectors = List (ToConnector × Option Past)

-- ---- what was received

-- one message more among those of the ledger
readings-more : (received : ToConnectors) (m : ToConnector) (name : Option Past)
    → readings_of (received ++ (m, name) ∷ []) ≡ with_reading (readings_of received) m
readings-more received m name =
    fold-append (λ (readings : List Reading) (each : ToConnector × Option Past). with_reading readings each.0) []
    received ((m, name) ∷ [])

-- a poll's reply came: of the ledger, read of a legal history
pub record IsReplyOf (old new : Incoming ToConnector (Option Past)) (reply : PollReply) : Type 0 where
  pub past : Past
  pub read : IsReadOf (of_sender 0 old.received) reply past
  pub readings : readings_of (of_sender 0 new.received) ≡ reading_of reply ∷ readings_of (of_sender 0 old.received)
  pub confirms : confirms_in (of_sender 1 new.received) ≡ confirms_in (of_sender 1 old.received)
  pub senders : new.senders ≡ old.senders

reply_of : (old new : Incoming ToConnector (Option Past)) (reply : PollReply) (j : ℕ) (name : Option Past)
    → FollowsToConnector j (of_sender j old.received) (to_connector.PollReply reply, name)
    → new ≡ with_received old (j, (to_connector.PollReply reply, name)) → IsReplyOf old new reply
reply_of old new reply j None follows after = absurd follows.may
reply_of old new reply zero (Some past) follows after =
    let entry : ℕ × (ToConnector × Option Past) = (0, (to_connector.PollReply reply, Some past)) in
    let received = ap (λ (i : Incoming ToConnector (Option Past)). i.received) after in
    record {
      past = past;
      read = follows.may.1;
      readings = ap (λ (l : List (ℕ × (ToConnector × Option Past))). readings_of (of_sender 0 l)) received
          ∙ ap (λ (l : ToConnectors). readings_of l) (of_sender-snoc_own entry old.received)
          ∙ readings-more (of_sender 0 old.received) (to_connector.PollReply reply) (Some past);
      confirms = ap (λ (l : List (ℕ × (ToConnector × Option Past))). confirms_in (of_sender 1 l)) received
          ∙ ap (λ (l : ToConnectors). confirms_in l) (of_sender-snoc_other 1 entry old.received (λ e. cc));
      senders = ap (λ (i : Incoming ToConnector (Option Past)). i.senders) after;
    }
reply_of old new reply (suc j) (Some past) follows after = absurd (omega (arith, follows.may.0))

pub reply_came : (old new : Incoming ToConnector (Option Past)) (reply : PollReply)
    → Takes FollowsToConnector old (to_connector.PollReply reply) new → IsReplyOf old new reply
reply_came old new reply (j, name, below, follows, after) = reply_of old new reply j name follows after

-- a confirm came, of the broker
pub record IsConfirmOf (old new : Incoming ToConnector (Option Past)) (confirm : Confirm) : Type 0 where
  pub readings : readings_of (of_sender 0 new.received) ≡ readings_of (of_sender 0 old.received)
  pub confirms : confirms_in (of_sender 1 new.received) ≡ confirms_in (of_sender 1 old.received) ++ confirm ∷ []
  pub senders : new.senders ≡ old.senders

confirm_of : (old new : Incoming ToConnector (Option Past)) (confirm : Confirm) (j : ℕ) (name : Option Past)
    → FollowsToConnector j (of_sender j old.received) (to_connector.Confirm confirm, name)
    → new ≡ with_received old (j, (to_connector.Confirm confirm, name)) → IsConfirmOf old new confirm
confirm_of old new confirm j (Some past) follows after = absurd follows.may
confirm_of old new confirm zero None follows after = absurd (omega (arith, follows.may.0))
confirm_of old new confirm (suc zero) None follows after =
    let entry : ℕ × (ToConnector × Option Past) = (1, (to_connector.Confirm confirm, None)) in
    let received = ap (λ (i : Incoming ToConnector (Option Past)). i.received) after in
    record {
      readings = ap (λ (l : List (ℕ × (ToConnector × Option Past))). readings_of (of_sender 0 l)) received
          ∙ ap (λ (l : ToConnectors). readings_of l) (of_sender-snoc_other 0 entry old.received (λ e. cc));
      confirms = ap (λ (l : List (ℕ × (ToConnector × Option Past))). confirms_in (of_sender 1 l)) received
          ∙ ap (λ (l : ToConnectors). confirms_in l) (of_sender-snoc_own entry old.received)
          ∙ confirms-more (of_sender 1 old.received) confirm None;
      senders = ap (λ (i : Incoming ToConnector (Option Past)). i.senders) after;
    }
confirm_of old new confirm (suc (suc j)) None follows after = absurd (omega (arith, follows.may.0))

pub confirm_came : (old new : Incoming ToConnector (Option Past)) (confirm : Confirm)
    → Takes FollowsToConnector old (to_connector.Confirm confirm) new → IsConfirmOf old new confirm
confirm_came old new confirm (j, name, below, follows, after) = confirm_of old new confirm j name follows after

-- ---- the reply to a poll

-- it keeps to every history of which the replies that it has received are readings
abbrev KeepsOn : ConnectorCore → Course → Type 0
KeepsOn c course = c.honest ≡ true → IsAtStart (origin_of c)
    → KeepsToReadings (readings_of (of_sender 0 c.inbox.received)) (connector_of c (Some course))

-- it wants what follows the last event that it was offered
wants_after : (course : Course) (w : Wanted) → next_poll course ≡ Some w
    → w.after ≡ last_timestamp_from course.base course.offered
wants_after course w is = there _ is
  where
    asked : Wanted
    asked = record {
      after = last_timestamp_from course.base course.offered;
      limit = course.window - length (unconfirmed course);
    }

    there : (b : Bool) → (if b then Some asked else None) ≡ Some w
        → w.after ≡ last_timestamp_from course.base course.offered
    there true is = ap (λ (p : Wanted). p.after) (sym (same_Some asked w is))
    there false is = absurd (none-some w is)

module _ (c : ConnectorCore) (course : Course) (is : IsPublishing c (Some course))
    (inbox : Incoming ToConnector (Option Past)) (reply : PollReply) (came : IsReplyOf c.inbox inbox reply) where
  -- each event of the reply is one of a history that batches and a close make
  emitted : (event : Event) → Contains reply.events event → IsEmitted (OfEvent event)
  emitted event there =
      let h : History = history_of came.past in
      let read = ap (λ (r : PollReply). r.events) came.read.read in (
        h,
        came.read.legal,
        Contains-read h reply.poll.after reply.poll.limit event (IsSound-from_legal h came.read.legal)
            (rw read at there),
      )

  -- what no reply changes
  wired_as : IsWired inbox.senders c.polls.number c.packets.number c.window
  wired_as = assumption (came.senders ∙ is.wired.two)

  answers_as : AreUnanswered (length (packets_in c.packets.sent)) (length (confirms_in (of_sender 1 inbox.received)))
      c.unanswered c.window
  answers_as = rw came.confirms is.answers

  restarted_as : HasRestarted (record c { inbox = inbox })
  restarted_as = rw came.confirms is.restarted

  -- one that isn't used
  pub IsPublishing-unused : IsPublishing (record c { inbox = inbox }) (Some course)
  IsPublishing-unused =
      let keeps : KeepsOn (record c { inbox = inbox }) course = λ gives zero h are.
      let state : ConnectorState = connector_of c (Some course) in
      rw came.confirms (KeepsToReadings-unused (readings_of (of_sender 0 c.inbox.received)) state (reading_of reply)
      (is.keeps gives zero) h (rw came.readings at are)) in
      assumption (wired_as, answers_as, restarted_as, keeps)

  module _ (asked : c.poll ≡ Some reply.poll) where
    poll_of : IsPollOf course c.asked reply.poll
    poll_of = is.poll reply.poll asked

    -- to the open poll: it may be offered
    pub offered_lawful : IsOffered (wanted_by c.session) reply.events
    offered_lawful =
        let there = kept_of c.session course is.stands in
        let h : History = history_of came.past in
        let read = ap (λ (r : PollReply). r.events) (sym came.read.read) in
        let wants = ap wanted_by there.1 ∙ poll_of_is there.0 course there.2 in
        rw wants (IsReply-wanted course (record { after = reply.poll.after; limit = reply.poll.limit }) reply.events
        poll_of.wanted
        (rw read at (IsReply-read h (record { after = reply.poll.after; limit = reply.poll.limit }) came.read.legal)))

    -- and is offered
    pub IsPublishing-offered : (session : Option SessionState)
        → SessionStands session (Some (with_offer reply.events reply.complete course))
        → IsPublishing (record c { inbox = inbox; session = session; poll = None })
        (Some (with_offer reply.events reply.complete course))
    IsPublishing-offered session stands =
        let next : Course = with_offer reply.events reply.complete course in
        let runs : IsRunning c.held next = record {
          number = is.runs.number;
          held = is.runs.held;
          start = is.runs.start;
          emitted = λ event there. elim (Contains-append_cases course.offered reply.events event there) [
            | inl before ↦ is.runs.emitted event before
            | inr new ↦ emitted event new
          ];
        } in
        let none_open : (poll : Poll) → None ≡ Some poll → IsPollOf next c.asked poll = λ poll there.
        absurd (none-some poll there) in
        let keeps : KeepsOn (record c { inbox = inbox; session = session; poll = None }) next = λ gives zero h are.
        let state : ConnectorState = connector_of c (Some course) in
        rw came.confirms
        (KeepsToReadings-offer (readings_of (of_sender 0 c.inbox.received)) state course (reading_of reply)
        (is.keeps gives zero) refl (poll_of.wanted.after ∙ wants_after course poll_of.wanted.now poll_of.wanted.wants) h
        (rw came.readings at are)) in
        assumption (wired_as, answers_as, restarted_as, runs, none_open, keeps)

-- a reply leaves a session in turn
pub turn_offered : (c : ConnectorCore) (inbox : Incoming ToConnector (Option Past)) (reply : PollReply)
    → IsReplyOf c.inbox inbox reply → (course next : Course) → next.sent ≡ course.sent → next.number ≡ course.number
    → IsTurnOf c course
    → IsInTurn c.restarts c.honest (confirms_in (of_sender 1 inbox.received)) (packets_in c.packets.sent) next
turn_offered c inbox reply came course next same number turn =
    rw came.confirms
    (IsInTurn-same c.restarts c.honest (confirms_in (of_sender 1 c.inbox.received)) (packets_in c.packets.sent) course
    next same number turn)

-- ---- a confirm

-- an answer leaves a session its number, its start, how much it has sent and what it was offered
pub record IsSameSession (course next : Course) : Type 0 where
  pub number : next.number ≡ course.number
  pub start : next.start ≡ course.start
  pub sent : next.sent ≡ course.sent
  pub offered : next.offered ≡ course.offered

pub answer_keeps : (course : Course) (session : ℕ) (answer : Answer)
    → IsSameSession course (after_answer course session answer)
answer_keeps course session (Confirmed tag) = go (takes_confirm course session tag)
  where
    go : (b : Bool)
        → IsSameSession course (if b then record course { confirmed = course.confirmed ++ tag ∷ [] } else course)
    go true = assumption
    go false = assumption
answer_keeps course session other = assumption

-- an open poll stays one of the session: a confirm makes room for more at most
poll_stays : (course : Course) (asked : ℕ) (poll : Poll) (session : ℕ) (answer : Answer)
    → IsPollOf course asked poll → IsPollOf (after_answer course session answer) asked poll
poll_stays course asked poll session (Confirmed tag) is = record {
  session = is.session ∙ sym (answer_keeps course session (Confirmed tag)).number;
  number = is.number;
  wanted = confirms_widen course (record { after = poll.after; limit = poll.limit }) session tag is.wanted;
}
poll_stays course asked poll session other is = is

-- it is one more confirm
pub confirm_counts : (old new : Incoming ToConnector (Option Past)) (confirm : Confirm) → IsConfirmOf old new confirm
    → length (confirms_in (of_sender 1 new.received)) ≡ length (confirms_in (of_sender 1 old.received)) + 1
confirm_counts old new confirm came =
    ap (λ (cs : List Confirm). length cs) came.confirms
    ∙ length-append (confirms_in (of_sender 1 old.received)) (confirm ∷ [])

-- a connector has restarted no more than before
pub restarted_answered : (c : ConnectorCore) (course : Course) → IsPublishing c (Some course)
    → (inbox : Incoming ToConnector (Option Past)) (confirm : Confirm) → IsConfirmOf c.inbox inbox confirm
    → HasRestarted (record c { inbox = inbox })
restarted_answered c course is inbox confirm came =
    rw came.confirms
    (RestartsAsPlanned-confirmed c.restarts c.honest (confirms_in (of_sender 1 c.inbox.received)) confirm
    (packets_in c.packets.sent) is.restarted)

module _ (c : ConnectorCore) (course : Course) (is : IsPublishing c (Some course))
    (inbox : Incoming ToConnector (Option Past)) (confirm : Confirm) (came : IsConfirmOf c.inbox inbox confirm)
    (unanswered : ℕ) (less : c.unanswered ≡ unanswered + 1) where
  abbrev answered : Course
  answered = after_answer course confirm.session confirm.answer

  kept : IsSameSession course answered
  kept = answer_keeps course confirm.session confirm.answer

  -- its session is in turn if it was
  pub turn_answered : IsTurnOf c course
      → IsInTurn c.restarts c.honest (confirms_in (of_sender 1 inbox.received)) (packets_in c.packets.sent) answered
  turn_answered turn =
      IsInTurn-same c.restarts c.honest (confirms_in (of_sender 1 inbox.received)) (packets_in c.packets.sent) course
      answered kept.sent kept.number
      (rw came.confirms (IsInTurn-confirmed c.restarts c.honest (confirms_in (of_sender 1 c.inbox.received)) confirm
      (packets_in c.packets.sent) course turn))

  -- the session takes it
  pub IsPublishing-answered : (session : Option SessionState) → SessionStands session (Some answered)
      → IsPublishing (record c { inbox = inbox; unanswered = unanswered; session = session }) (Some answered)
  IsPublishing-answered session stands =
      let count = confirm_counts c.inbox inbox confirm came in
      let exact : unanswered + length (confirms_in (of_sender 1 inbox.received)) ≡ length (packets_in c.packets.sent) =
      omega (arith, is.answers.exact, count, less) in
      let room : unanswered ≤ c.window + 1 = omega (arith, is.answers.room, less) in
      let runs : IsRunning c.held answered = record {
        number = rw kept.number is.runs.number;
        held = is.runs.held ∙ sym kept.number;
        start = is.runs.start ∙ sym kept.start;
        emitted = λ event there.
            is.runs.emitted event (rw kept.offered at there);
      } in
      let polls : (poll : Poll) → c.poll ≡ Some poll → IsPollOf answered c.asked poll = λ poll there.
      poll_stays course c.asked poll confirm.session confirm.answer (is.poll poll there) in
      let keeps : KeepsOn (record c { inbox = inbox; unanswered = unanswered; session = session }) answered =
      λ gives zero h are.
      let state : ConnectorState = connector_of c (Some course) in
      rw came.confirms (KeepsTo-confirm h state confirm (is.keeps gives zero h (rw came.readings at are))) in
      let restarted = restarted_answered c course is inbox confirm came in
      assumption (came.senders ∙ is.wired.two, exact, room, runs, polls, restarted, keeps)

-- how far it has come is saved: the run has the same origin then
pub origin_saved : (c : ConnectorCore) (course : Course) → IsPublishing c (Some course)
    → origin_of (record c { held = Some (progress_of course) }) ≡ origin_of c
origin_saved c course is =
    let some : 0 < held_number c.held = rw is.runs.held is.runs.number in
    let after : unwrap_or c.first (confirmed_timestamp course) ≡ unwrap_or c.first (first_origin c.start c.held).after =
    ap (λ o. unwrap_or o (confirmed_timestamp course)) is.first.1
    ∙ sym (ap (λ o. unwrap_or o (first_origin c.start c.held).after) is.first.1) in
    let start = sym is.runs.start ∙ sym (start_held c.start c.held some) in
    ap₂ (λ (a s : ℕ). record { after = a; start = s }) after start

pub IsPublishing-saved : (c : ConnectorCore) (course : Course) → IsPublishing c (Some course)
    → IsPublishing (record c { held = Some (progress_of course) }) (Some course)
IsPublishing-saved c course is =
    let keeps : KeepsOn (record c { held = Some (progress_of course) }) course = λ gives zero h are.
    KeepsTo-save h (connector_of c (Some course)) course
    (is.keeps gives (subst IsAtStart (origin_saved c course is) zero) h are) refl in
    assumption keeps
