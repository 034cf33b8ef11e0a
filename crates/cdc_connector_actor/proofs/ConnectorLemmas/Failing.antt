-- How far a connector has come when a part of its turn fails.
use Rattle.cdc_connector_actor.proofs.Words.{◌+◌, ◌∙◌, ◌≡◌, ◌⊎◌, Answer, Bool, Broken, Confirm, Confirmed, ConnectorCore, ConnectorState, Course, FollowsToConnector, GoesOn, HasFailed, HasSent, Incoming, IsAdvanced, IsAnswerFailed, IsAtStart, IsBegunOrReceived, IsConfirmFailed, IsConnectorSoFar, IsCutShort, IsFaultOf, IsHeldOrNext, IsNotBegun, IsOfSame, IsPublishing, IsRisked, IsSaveRisked, IsSending, IsStartRisked, IsTrue, IsUnfinished, IsUnsaved, IsUnsent, KeepsTo-confirm, KeepsTo-end, KeepsTo-half_started, KeepsToReadings, MayRefuseSave, MayRefuseStart, None, Option, OutOfMemory, Past, PeerGone, Risks, RunFault, Saved, SessionStands, SessionState, Some, StartError, Store, Takes, TakesMany, ToConnector, ap, arith, begun, connector_of, false, has_event, inl, inr, next_packet, of_sender, origin_of, progress_of, readings_of, refl, start_fault, store_fault, subst, sym, true, with_confirm, with_message, ℕ}
use Rattle.cdc_connector_actor.proofs.ConnectorLemmas.Receiving.{IsPublishing-answered, IsPublishing-saved, confirm_came, confirm_counts, origin_saved, restarted_answered}
use Rattle.cdc_connector_actor.proofs.ConnectorLemmas.Messages.{HasSent-finished}
use Rattle.cdc_connector_actor.proofs.ConnectorLemmas.Steps.{origin_kept}
use Rattle.cdc_connector_actor.proofs.ConnectorLemmas.Taking.{taken_same, taken_then}
use Rattle.cdc_connector_actor.proofs.ConnectorLemmas.Turns.{GoesOn-same, GoesOn-trans, same_of, same_trans}
use Rattle.cdc_progress.specs.StoreError.{StoreError}
use Rattle.cdc_progress.specs.StoreError.TheVariants as store
use Rattle.cdc_publisher.specs.declared.errors.StartError.TheVariants as start
use Rattle.cdc_traffic.specs.declared.messages.ToConnector.TheVariants as to_connector
use Rattle.cdc_traffic.specs.declared.messages.ToLedger.TheVariants as to_ledger

-- ---- at any time

-- if it keeps its invariant, whether a session runs or not
pub publishing_so_far : (c : ConnectorCore) (course : Option Course) → IsPublishing c course → IsConnectorSoFar c
publishing_so_far c course is = record {
  wired = is.wired;
  dispatched = record {
    emitted = c.finished;
    asked = is.dispatched.asked;
    sent = is.dispatched.sent;
    counted = is.dispatched.counted;
    order = λ over. over;
  };
  answers = inl is.answers.exact;
  restarted = is.restarted;
  keeps = λ gives zero h are. KeepsTo-end h (connector_of c course) (is.keeps gives zero h are);
}

-- whatever its session has done besides
moved_so_far : (c : ConnectorCore) (session : Option SessionState) → IsConnectorSoFar c
    → IsConnectorSoFar (record c { session = session })
moved_so_far c session is = assumption

-- ---- a step fails

-- nothing has come of it
pub cut_same : (c new : ConnectorCore) (fault : RunFault) → IsFaultOf c fault → IsConnectorSoFar c → new ≡ c
    → IsCutShort c fault new
cut_same c new fault risked is same = rw same (record { goes_on = GoesOn-same c; risked = risked; so_far = is })

-- after steps that went well
pub cut_trans : (old mid new : ConnectorCore) (fault : RunFault) → GoesOn old mid → IsCutShort mid fault new
    → IsCutShort old fault new
cut_trans old mid new fault on is =
    record { goes_on = GoesOn-trans old mid new on is.goes_on; risked = is.risked; so_far = is.so_far }

-- ---- no session begins

module _ (old : ConnectorCore) (held : Option Saved) where
  abbrev half : ConnectorCore
  half = record old { held = held }

  module _ (is : IsConnectorSoFar old) where
    half_keeps : old.honest ≡ true → IsHeldOrNext old.held old.start held → IsAtStart (origin_of half)
        → KeepsToReadings (readings_of (of_sender 0 old.inbox.received)) (connector_of half None)
    half_keeps gives (inl same) zero =
        subst (λ (o : Option Saved). IsAtStart (origin_of (record old { held = o }))
        → KeepsToReadings (readings_of (of_sender 0 old.inbox.received)) (connector_of (record old { held = o }) None))
        (sym same) (is.keeps gives) zero
    half_keeps gives (inr (saved, (begins, same))) zero =
        subst (λ (o : Option Saved). IsAtStart (origin_of (record old { held = o }))
        → KeepsToReadings (readings_of (of_sender 0 old.inbox.received)) (connector_of (record old { held = o }) None))
        (sym same)
        (λ at_start h are.
        KeepsTo-half_started h (connector_of old None) old.start saved
        (is.keeps gives (subst IsAtStart (origin_kept old saved begins) at_start) h are) begins) zero

    half_so_far : (old.honest ≡ true → IsHeldOrNext old.held old.start held) → IsConnectorSoFar half
    half_so_far next = assumption (λ (gives : old.honest ≡ true). half_keeps gives (next gives))

  half_origin : IsHeldOrNext old.held old.start held → origin_of half ≡ origin_of old
  half_origin (inl same) = ap (λ (o : Option Saved). origin_of (record old { held = o })) same
  half_origin (inr (saved, (begins, same))) =
      ap (λ (o : Option Saved). origin_of (record old { held = o })) same ∙ origin_kept old saved begins

  half_goes_on : (old.honest ≡ true → IsHeldOrNext old.held old.start held) → GoesOn old half
  half_goes_on next = assumption (λ (gives : old.honest ≡ true). half_origin (next gives))

pub cut_begin : (old new : ConnectorCore) (fault : RunFault) → IsConnectorSoFar old → IsNotBegun old fault new
    → IsCutShort old fault new
cut_begin old new fault is failed = record {
  goes_on = rw failed.after (half_goes_on old new.held failed.held);
  risked = failed.risked;
  so_far = rw failed.after (half_so_far old new.held is failed.held);
}

-- why it doesn't
module _ (old : ConnectorCore) (held : Option Saved) (failed failed' : ℕ) where
  abbrev Refuses : StartError → Type 0
  Refuses error = MayRefuseStart (record {
    honest = old.honest;
    before = old.held;
    after = held;
    failed_before = failed;
    failed_after = failed';
  }) old.start error

  start_fault_of : (error : StartError) → Refuses error → IsStartRisked old.risks error
      → IsFaultOf (record old { held = held }) (start_fault error)
  start_fault_of (start.Store store.ReadFault) refuses risked = risked
  start_fault_of (start.Store store.WriteFault) refuses risked = risked
  start_fault_of (start.Store store.BadRecord) refuses risked = (risked, refuses.1.1)
  start_fault_of (start.Store store.OutOfMemory) refuses risked = absurd refuses
  start_fault_of start.SessionsExhausted refuses risked = refuses.1.0
  start_fault_of start.OutOfMemory refuses risked = tt
  start_fault_of start.StartNotAllowed refuses risked = refuses.1.0

  held_of : (error : StartError) → Refuses error → old.honest ≡ true → IsHeldOrNext old.held old.start held
  held_of (start.Store store.ReadFault) refuses gives = inl refuses.0
  held_of (start.Store store.WriteFault) refuses gives =
      let half = refuses.0 in
      elim half.held [
        | inl same ↦ inl (same ∙ half.given gives)
        | inr next ↦ inr (half.saved, (ap (λ o. begun o old.start) (sym (half.given gives)) ∙ half.begins, next))
      ]
  held_of (start.Store store.BadRecord) refuses gives = inl refuses.1.0
  held_of (start.Store store.OutOfMemory) refuses gives = absurd refuses
  held_of start.SessionsExhausted refuses gives = inl (refuses.1.1 gives)
  held_of start.OutOfMemory refuses gives = inl (refuses.1 gives)
  held_of start.StartNotAllowed refuses gives = inl (refuses.1.1 gives)

  pub not_begun : (honest : Bool) (risks : Risks) (error : StartError) → Refuses error
      → IsStartRisked old.risks error → honest ≡ old.honest → risks ≡ old.risks
      → IsNotBegun old (start_fault error) (record old { held = held; honest = honest; risks = risks })
  not_begun honest risks error refuses risked same same_risks =
      let here : record old { held = held } ≡ record old { held = held; honest = honest; risks = risks } =
      λ i. record old { held = held; honest = sym same i; risks = sym same_risks i } in
      subst (IsNotBegun old (start_fault error)) here
      (record { after = refl; held = held_of error refuses; risked = start_fault_of error refuses risked })

pub not_begun_entry : (inside now new : ConnectorCore) (fault : RunFault) → inside ≡ now → IsNotBegun inside fault new
    → IsNotBegun now fault new
not_begun_entry inside now new fault same is = rw same at is

-- ---- a packet isn't sent

pub cut_unsent : (old : ConnectorCore) (course : Course) → IsPublishing old (Some course) → (fault : RunFault)
    → (new : ConnectorCore) → IsUnsent old course fault new → IsCutShort old fault new
cut_unsent old course is PeerGone new (some, stands, after) =
    rw after (record {
      goes_on = assumption;
      risked = tt;
      so_far = moved_so_far old new.session (publishing_so_far old (Some course) is);
    })
cut_unsent old course is OutOfMemory new (event, after) =
    cut_same old new OutOfMemory tt (publishing_so_far old (Some course) is) after
cut_unsent old course is other new unsent = absurd unsent

-- ---- nothing is asked, or the last messages aren't sent

pub cut_unasked : (old new : ConnectorCore) (fault : RunFault) → IsSending old → (fault ≡ PeerGone) × (new ≡ old)
    → IsCutShort old fault new
cut_unasked old new fault sends (gone, same) =
    rw gone (cut_same old new PeerGone tt (publishing_so_far old (Some sends.course) sends.publishing) same)

module _ (old : ConnectorCore) (sends : IsSending old) where
  abbrev emitted : ConnectorCore
  emitted = record old { polls = with_message old.polls (to_ledger.Finish, tt) }

  -- only the ledger was sent its last message
  emitted_so_far : IsConnectorSoFar emitted
  emitted_so_far =
      let is = sends.publishing in
      let dispatched : HasSent old.polls.sent old.packets.sent old.published false =
      rw sends.working at is.dispatched in
      record {
        wired = is.wired;
        dispatched = record {
          emitted = true;
          asked = (HasSent-finished old.polls.sent old.packets.sent old.published dispatched).asked;
          sent = is.dispatched.sent;
          counted = is.dispatched.counted;
          order = λ _. refl;
        };
        answers = inl is.answers.exact;
        restarted = is.restarted;
        keeps = λ gives zero h are. KeepsTo-end h (connector_of old (Some sends.course)) (is.keeps gives zero h are);
      }

  pub cut_unfinished : (fault : RunFault) (new : ConnectorCore) → (fault ≡ PeerGone) × IsUnfinished old new
      → IsCutShort old fault new
  cut_unfinished fault new (gone, inl same) = cut_unasked old new fault sends (gone, same)
  cut_unfinished fault new (gone, inr after) =
      rw (gone, after) (record { goes_on = assumption; risked = tt; so_far = emitted_so_far })

-- ---- how far it has come isn't saved

save_fault_of : (c : ConnectorCore) (fault : RunFault) → IsSaveRisked c.risks fault → IsFaultOf c fault
save_fault_of c PeerGone risked = tt
save_fault_of c OutOfMemory risked = tt
save_fault_of c (Store store.WriteFault) risked = risked
save_fault_of c other risked = absurd risked

module _ (c : ConnectorCore) (course : Course) (is : IsPublishing c (Some course)) (fault : RunFault)
    (risked : IsSaveRisked c.risks fault) where
  -- so a connector that holds this is cut short
  abbrev CutWith : Option Saved → Type 0
  CutWith held = IsCutShort c fault (record c { held = held })

  cut_old : CutWith c.held
  cut_old = cut_same c c fault (save_fault_of c fault risked) (publishing_so_far c (Some course) is) refl

  cut_new : CutWith (Some (progress_of course))
  cut_new = record {
    goes_on = assumption (origin_saved c course is);
    risked = save_fault_of (record c { held = Some (progress_of course) }) fault risked;
    so_far = publishing_so_far (record c { held = Some (progress_of course) }) (Some course)
        (IsPublishing-saved c course is);
  }

  pub cut_unsaved : (new : ConnectorCore) → new ≡ record c { held = new.held }
      → (new.held ≡ c.held) ⊎ (new.held ≡ Some (progress_of course)) → IsCutShort c fault new
  cut_unsaved new after (inl same) = subst (IsCutShort c fault) (sym after) (rw same cut_old)
  cut_unsaved new after (inr saved) = rw after (rw saved cut_new)

-- why it isn't
save_risked : (risks : Risks) (failed failed' : ℕ) (error : StoreError) → MayRefuseSave failed failed' error
    → IsRisked risks error → IsSaveRisked risks (store_fault error)
save_risked risks failed failed' store.WriteFault refuses risked = risked
save_risked risks failed failed' store.OutOfMemory refuses risked = risked
save_risked risks failed failed' other refuses risked = absurd refuses

without_memory : (error : StoreError) → store_fault error ≡ OutOfMemory → error ≡ store.OutOfMemory
without_memory store.OutOfMemory is = refl
without_memory other is = cc

pub not_saved : (old : ConnectorCore) (course : Course) (session : Option SessionState) (held : Option Saved)
    (honest : Bool) (risks : Risks) (failed failed' : ℕ) (error : StoreError) → SessionStands session (Some course)
    → (held ≡ old.held) ⊎ (held ≡ Some (progress_of course)) → (error ≡ store.OutOfMemory → held ≡ old.held)
    → MayRefuseSave failed failed' error → IsRisked old.risks error → honest ≡ old.honest → risks ≡ old.risks
    → IsUnsaved old course (store_fault error)
    (record old { session = session; held = held; honest = honest; risks = risks })
not_saved old course session held honest risks failed failed' error stands half memory refuses risked same same_risks =
    let here : record old { session = session; held = held }
    ≡ record old { session = session; held = held; honest = honest; risks = risks } =
    λ i. record old { session = session; held = held; honest = sym same i; risks = sym same_risks i } in
    subst (IsUnsaved old course (store_fault error)) here
    (record {
      stands = stands;
      after = refl;
      held = half;
      without_memory = λ is. memory (without_memory error is);
      risked = save_risked old.risks failed failed' error refuses risked;
    })

-- ---- a message was received, and couldn't be taken

-- so a turn has failed if all that it received and began before succeeded
pub failed_of : (old mid new : ConnectorCore) (fault : RunFault) → old.finished ≡ false
    → (n : ℕ) × TakesMany FollowsToConnector n old.inbox mid.inbox → IsOfSame old mid → IsCutShort mid fault new
    → HasFailed old fault new
failed_of old mid new fault working (n, receives) same cut = record {
  working = working;
  inbox = (n, rw cut.goes_on.inbox receives);
  same = same_trans old mid new same (same_of mid new cut.goes_on);
  risked = cut.risked;
  so_far = cut.so_far;
}

-- nothing came
pub failed_unheard : (old new : ConnectorCore) (fault : RunFault) → IsSending old → (fault ≡ PeerGone) × (new ≡ old)
    → HasFailed old fault new
failed_unheard old new fault sends cut =
    failed_of old old new fault sends.working (0, refl) (same_of old old (GoesOn-same old))
    (cut_unasked old new fault sends cut)

module _ (old : ConnectorCore) (course : Course) (is : IsPublishing old (Some course)) (working : old.finished ≡ false)
    (inbox : Incoming ToConnector (Option Past)) (session : ℕ) where
  abbrev WasReceived : Answer → Type 0
  WasReceived answer =
      Takes FollowsToConnector old.inbox (to_connector.Confirm (record { session = session; answer = answer })) inbox

  -- a turn that has received this confirm
  after_it : (answer : Answer) → WasReceived answer → (unanswered : ℕ) (s : Option SessionState) (new : ConnectorCore)
      (fault : RunFault) → IsCutShort (record old { inbox = inbox; unanswered = unanswered; session = s }) fault new
      → HasFailed old fault new
  after_it answer takes unanswered s new fault cut =
      failed_of old (record old { inbox = inbox; unanswered = unanswered; session = s }) new fault working
      (1, (to_connector.Confirm (record { session = session; answer = answer }), inbox, takes, refl)) (assumption) cut

  -- it answers no packet
  uncalled_so_far : (answer : Answer) → WasReceived answer → old.unanswered ≡ 0
      → IsConnectorSoFar (record old { inbox = inbox })
  uncalled_so_far answer takes none =
      let confirm : Confirm = record { session = session; answer = answer } in
      let came = confirm_came old.inbox inbox confirm takes in
      let count = confirm_counts old.inbox inbox confirm came in
      record {
        wired = assumption (came.senders ∙ is.wired.two);
        dispatched = (publishing_so_far old (Some course) is).dispatched;
        answers = inr (none, omega (arith, is.answers.exact, count, none));
        restarted = restarted_answered old course is inbox confirm came;
        keeps = λ gives zero h are.
            let state : ConnectorState = connector_of old (Some course) in
            rw came.confirms (KeepsTo-confirm h (record state { session = None }) confirm
            (KeepsTo-end h state (is.keeps gives zero h (rw came.readings at are))));
      }

  answer_failed : (unanswered : ℕ) → old.unanswered ≡ unanswered + 1 → (answer : Answer) → WasReceived answer
      → (fault : RunFault) (new : ConnectorCore)
      → IsAnswerFailed (record old { inbox = inbox; unanswered = unanswered }) course session answer fault new
      → HasFailed old fault new
  answer_failed unanswered less (Confirmed tag) takes fault new failed =
      let confirm : Confirm = record { session = session; answer = Confirmed tag } in
      let next : Course = with_confirm session tag course in
      after_it (Confirmed tag) takes unanswered new.session new fault
      (cut_unsaved (record old { inbox = inbox; unanswered = unanswered; session = new.session }) next
      (IsPublishing-answered old course is inbox confirm (confirm_came old.inbox inbox confirm takes) unanswered less
      new.session failed.stands) fault failed.risked new failed.after failed.held)
  answer_failed unanswered less Broken takes fault new (own, failed) =
      let confirm : Confirm = record { session = session; answer = Broken } in
      let mid : ConnectorCore = record old { inbox = inbox; unanswered = unanswered } in
      after_it Broken takes unanswered old.session new fault
      (cut_begin mid new fault
      (publishing_so_far mid (Some course)
      (IsPublishing-answered old course is inbox confirm (confirm_came old.inbox inbox confirm takes) unanswered less
      old.session is.stands)) failed)
  answer_failed unanswered less other takes fault new failed = absurd failed

  either_failed : (answer : Answer) → WasReceived answer → (fault : RunFault) (new : ConnectorCore)
      → IsConfirmFailed (record old { inbox = inbox }) course (record { session = session; answer = answer }) fault new
      → HasFailed old fault new
  either_failed answer takes fault new (inl (gone, (none, after))) =
      let mid : ConnectorCore = record old { inbox = inbox } in
      after_it answer takes old.unanswered old.session new fault
      (rw gone (cut_same mid new PeerGone tt (uncalled_so_far answer takes none) after))
  either_failed answer takes fault new (inr (unanswered, (less, failed))) =
      answer_failed unanswered less answer takes fault new failed

pub failed_confirm : (old : ConnectorCore) (sends : IsSending old) (inbox : Incoming ToConnector (Option Past))
    (confirm : Confirm) → Takes FollowsToConnector old.inbox (to_connector.Confirm confirm) inbox → (fault : RunFault)
    → (new : ConnectorCore) → IsConfirmFailed (record old { inbox = inbox }) sends.course confirm fault new
    → HasFailed old fault new
failed_confirm old sends inbox confirm takes fault new failed =
    either_failed old sends.course sends.publishing sends.working inbox confirm.session confirm.answer takes fault new
    failed

-- what follows failed
pub failed_then : (old mid new : ConnectorCore) (moved : Bool) (fault : RunFault) → old.finished ≡ false
    → IsAdvanced old moved mid → IsCutShort mid fault new → HasFailed old fault new
failed_then old mid new moved fault working is cut = go old.session is.moves
  where
    go : (s : Option SessionState) → IsBegunOrReceived s old moved mid → HasFailed old fault new
    go None first = failed_of old mid new fault working (0, first.inbox) first.same cut
    go (Some kept) later =
        failed_of old mid new fault working (taken_then old later.messages mid mid.inbox later.takes (0, refl))
        (taken_same old later.messages mid later.takes) cut

-- ---- the work inside a connector actor

pub same_inbox : (inside now : ConnectorCore) (inbox : Incoming ToConnector (Option Past)) → inside ≡ now
    → inbox ≡ inside.inbox → record inside { inbox = inbox } ≡ now
same_inbox inside now inbox same is = (λ i. record inside { inbox = is i }) ∙ same

-- its next packet wasn't made
pub unsent_memory : (inside now : ConnectorCore) (kept : SessionState) (course : Course) (fault : RunFault) → inside
    ≡ now → Some kept ≡ inside.session → IsTrue (has_event (next_packet course)) → fault ≡ OutOfMemory
    → IsUnsent now course fault (record inside { session = Some kept })
unsent_memory inside now kept course fault same is event memory =
    rw memory (event, (λ i. record inside { session = is i }) ∙ same)

pub unsaved_entry : (inside now new : ConnectorCore) (course : Course) (fault : RunFault) → inside ≡ now
    → IsUnsaved inside course fault new → IsUnsaved now course fault new
unsaved_entry inside now new course fault same is = rw same at is
