-- How far the ledger actor has come that has met a fault.
use Rattle.std.proofs.Common.{◌≡◌, ◌==◌, ℕ, ◌+◌, ◌-◌, ◌<◌, ◌≤◌, true, false, List, [], ◌∷◌, ◌++◌, inl, inr, refl, sym, ap, ◌∙◌, subst, length, append-nil, ne_eqb, arith}
use Rattle.std.specs.Prelude.{◌⊎◌, is_some, IfErr, OnErr, Option, Result, Ok, Err}
use Rattle.cdc_actor_work.specs.Faults.{IsTurnFault}
use Rattle.cdc_ledger_actors.specs.Ledger.{LedgerCore, IsBooked, IsLedgerActor, clients_left, order_of, past_of_inbox}
use Rattle.cdc_ledger_actors.specs.Ledger.SoFar.{AnswersSoFar, ComesSoFar, IsLedgerSoFar, IsUntaken, LedgersComeSoFar, TakesSoFar}
use Rattle.cdc_ledger_actors.specs.Ledger.Steps.{IsNext, IsTaken}
use Rattle.cdc_ledger_actors.specs.Orders.{past_of}
use Rattle.cdc_actor_work.specs.declared.faults.RunFault.{RunFault}
use Rattle.cdc_actor_work.specs.declared.faults.RunFault.TheVariants.{PeerGone, OutOfMemory, Store, SessionsExhausted, NotOneSystem, StartNotAllowed}
use Rattle.cdc_ledger_actors.proofs.LedgerLemmas.Turns.{left_before, past_before, past_with}
use Rattle.cdc_ledger_actors.proofs.LedgerLemmas.Receipts.{done_same, left_same, order_push}
use Rattle.cdc_ledger_actors.proofs.ClientReplies.{past_push}
use Rattle.cdc_ledger.specs.History.{History}
use Rattle.cdc_links.specs.Links.{Incoming, Outgoing, of_sender, with_received}
use Rattle.cdc_traffic.specs.Following.{FollowsToLedger, ends_to_ledger, last_named}
use Rattle.cdc_traffic.specs.Pasts.{Continues, history_of}
use Rattle.cdc_traffic.specs.declared.messages.ToLedger.{ToLedger}
use Rattle.cdc_traffic.specs.declared.messages.ToLedger.TheVariants as to_ledger
use Rattle.cdc_traffic.specs.declared.pasts.Past.{Past}
use Rattle.cdc_traffic.specs.declared.messages.ToConnector.{ToConnector}
use Rattle.cdc_traffic.specs.declared.polls.Poll.{Poll}
use Rattle.cdc_traffic.specs.declared.requests.Reply.{Reply}
use Rattle.cdc_traffic.specs.declared.requests.Request.{Request}
use Rattle.cdc_traffic.proofs.Continuing.{Continues-batch, Continues-trans}
use Rattle.cdc_types.specs.declared.batches.Batch.{Batch}

-- ---- all batches are booked

-- the past that the inbox makes, from how many clients the actor counts as left
past_left : (d : LedgerCore) → IsBooked d
    → past_of_inbox d.inbox ≡ past_with (order_of d.inbox.received) (d.clients_left == 0)
past_left d is =
    let count : d.inbox.senders - 1 ≡ length d.clients = omega (arith, is.senders) in
    ap (λ (n : ℕ). past_with (order_of d.inbox.received) (n == 0))
    (ap (λ (n : ℕ). clients_left n d.inbox.received) count ∙ sym is.left)

booked_so_far : (d : LedgerCore) → IsBooked d → IsLedgerSoFar d
booked_so_far d is = record {
  senders = is.senders;
  submitted = order_of d.inbox.received;
  unsubmitted = [];
  all = sym (append-nil (order_of d.inbox.received));
  replied = order_of d.inbox.received;
  unreplied = [];
  answered = sym (append-nil (order_of d.inbox.received));
  at_most_one = omega arith;
  emitted = is.emitted;
  past = past_of_inbox d.inbox;
  past_is = past_left d is;
  history = is.history;
  left = is.left;
  connector_done = is.connector_done;
  own = is.own;
  named = is.named;
}

-- ---- a message wasn't taken

module _ (d : LedgerCore) (is : IsBooked d) (sender : ℕ) (message : ToLedger)
    (goes_on : ends_to_ledger message ≡ false) where
  abbrev brought : Incoming ToLedger (Unit {0})
  brought = with_received d.inbox (sender, (message, tt))

  -- with these batches submitted, and these that aren't
  so_far_with : (submitted unsubmitted unreplied : List (ℕ × Batch)) (ledger : History)
      → order_of brought.received ≡ submitted ++ unsubmitted
      → submitted ≡ order_of d.inbox.received ++ unreplied → length unsubmitted + length unreplied ≤ 1
      → ledger ≡ history_of (past_with submitted (d.clients_left == 0))
      → Continues (last_named d.connector.sent) (past_with submitted (d.clients_left == 0))
      → IsLedgerSoFar (record d { inbox = brought; ledger = ledger })
  so_far_with submitted unsubmitted unreplied ledger all answered few history named = record {
    senders = is.senders;
    submitted = submitted;
    unsubmitted = unsubmitted;
    all = all;
    replied = order_of d.inbox.received;
    unreplied = unreplied;
    answered = answered;
    at_most_one = few;
    emitted = is.emitted;
    past = past_with submitted (d.clients_left == 0);
    past_is = refl;
    history = history;
    left = is.left ∙ sym (left_same d.inbox.received sender message (length d.clients) goes_on);
    connector_done = is.connector_done ∙ sym (done_same d.inbox.received sender message 0 goes_on);
    own = is.own;
    named = named;
  }

  -- the batch that it has, if it has one, wasn't submitted
  unsubmitted_so_far : (unsubmitted : List (ℕ × Batch)) → length unsubmitted ≤ 1
      → order_of brought.received ≡ order_of d.inbox.received ++ unsubmitted → (ledger : History) → ledger ≡ d.ledger
      → IsLedgerSoFar (record d { inbox = brought; ledger = ledger })
  unsubmitted_so_far unsubmitted few all ledger same =
      so_far_with (order_of d.inbox.received) unsubmitted [] ledger all (sym (append-nil (order_of d.inbox.received)))
      (omega (arith, few)) (same ∙ is.history ∙ ap history_of (past_left d is))
      (subst (Continues (last_named d.connector.sent)) (past_left d is) is.named)

-- a request's was, and its client wasn't replied to
submitted_so_far : (d : LedgerCore) → IsBooked d → (sender : ℕ) (request : Request) → sender < d.inbox.senders
    → FollowsToLedger sender (of_sender sender d.inbox.received) (to_ledger.Request request, tt) → (ledger : History)
    → ledger ≡ history_of (past_of (order_of d.inbox.received ++ (request.client, request.batch) ∷ []))
    → IsLedgerSoFar (record d {
      inbox = with_received d.inbox (sender, (to_ledger.Request request, tt));
      ledger = ledger;
    })
submitted_so_far d is sender request below follows ledger history =
    let order : List (ℕ × Batch) = order_of d.inbox.received in
    let more : List (ℕ × Batch) = order ++ (request.client, request.batch) ∷ [] in
    let message : ToLedger = to_ledger.Request request in
    let before = past_before d is sender below follows.may.0 follows.goes_on in
    let some = left_before d is sender below follows.may.0 follows.goes_on in
    let still : (d.clients_left == 0) ≡ false = ne_eqb d.clients_left 0 (omega (arith, some)) in
    let all : order_of (d.inbox.received ++ (sender, (message, tt)) ∷ []) ≡ more ++ [] =
    order_push d.inbox.received sender message
    ∙ ap (λ (j : ℕ). order ++ (j, request.batch) ∷ []) (sym follows.may.1)
    ∙ sym (append-nil more) in
    let past : past_of more ≡ past_with more (d.clients_left == 0) = ap (past_with more) (sym still) in
    let on : Continues (past_of_inbox d.inbox) (past_of more) =
    subst (λ (p : Past). Continues p (past_of more)) (sym before)
    (subst (Continues (past_of order)) (sym (past_push order (request.client, request.batch)))
    (Continues-batch request.batch (past_of order) refl)) in
    so_far_with d is sender message refl more [] ((request.client, request.batch) ∷ []) ledger all refl (omega arith)
    (history ∙ ap history_of past)
    (subst (Continues (last_named d.connector.sent)) past
    (Continues-trans (last_named d.connector.sent) (past_of_inbox d.inbox) (past_of more) is.named on))

module _ (old : LedgerCore) (is : IsBooked old) (fault : RunFault) (new : LedgerCore) (sender : ℕ) where
  -- what holds of the inbox with the message holds of it as it is
  at_inbox : (message : ToLedger) → new.inbox ≡ with_received old.inbox (sender, (message, tt))
      → new ≡ record old { inbox = new.inbox; ledger = new.ledger }
      → IsLedgerSoFar (record old {
        inbox = with_received old.inbox (sender, (message, tt));
        ledger = new.ledger;
      }) → IsLedgerSoFar new
  at_inbox message received after so_far =
      subst IsLedgerSoFar (sym after)
      (subst (λ (i : Incoming ToLedger (Unit {0})). IsLedgerSoFar (record old { inbox = i; ledger = new.ledger }))
      (sym received) so_far)

  request_so_far : (request : Request) → sender < old.inbox.senders
      → FollowsToLedger sender (of_sender sender old.inbox.received) (to_ledger.Request request, tt)
      → (f : RunFault)
      → AnswersSoFar old.ledger
      (history_of (past_of (order_of old.inbox.received ++ (request.client, request.batch) ∷ []))) f new.ledger
      → IsLedgerSoFar (record old {
        inbox = with_received old.inbox (sender, (to_ledger.Request request, tt));
        ledger = new.ledger;
      })
  request_so_far request below follows PeerGone answers =
      submitted_so_far old is sender request below follows new.ledger answers
  request_so_far request below follows OutOfMemory answers =
      unsubmitted_so_far old is sender (to_ledger.Request request) refl ((sender, request.batch) ∷ []) (omega arith)
      (order_push old.inbox.received sender (to_ledger.Request request)) new.ledger answers
  request_so_far request below follows (Store why) answers = absurd answers
  request_so_far request below follows SessionsExhausted answers = absurd answers
  request_so_far request below follows NotOneSystem answers = absurd answers
  request_so_far request below follows StartNotAllowed answers = absurd answers

  untaken_so_far : (message : ToLedger) → sender < old.inbox.senders
      → FollowsToLedger sender (of_sender sender old.inbox.received) (message, tt)
      → new.inbox ≡ with_received old.inbox (sender, (message, tt)) → TakesSoFar message old fault new
      → IsLedgerSoFar new
  untaken_so_far (to_ledger.Request request) below follows received (answers, after) =
      at_inbox (to_ledger.Request request) received after (request_so_far request below follows fault answers)
  untaken_so_far (to_ledger.Done number) below follows received takes = absurd takes
  untaken_so_far (to_ledger.Poll poll) below follows received (some, its, after) =
      let same : new.ledger ≡ old.ledger = ap (λ (d : LedgerCore). d.ledger) after in
      at_inbox (to_ledger.Poll poll) received
      (after ∙ ap (λ (h : History). record old { inbox = new.inbox; ledger = h }) (sym same))
      (unsubmitted_so_far old is sender (to_ledger.Poll poll) refl [] (omega arith)
      (order_push old.inbox.received sender (to_ledger.Poll poll)) new.ledger same)
  untaken_so_far to_ledger.Finish below follows received takes = absurd takes

comes_so_far : (old : LedgerCore) (fault : RunFault) (new : LedgerCore) → IsLedgerActor old → ComesSoFar old fault new
    → IsLedgerSoFar new
comes_so_far old fault new is (inl (gone, same)) = subst IsLedgerSoFar (sym same) (booked_so_far old is.booked)
comes_so_far old fault new is (inr (inl untaken)) =
    untaken_so_far old is.booked fault new untaken.sender untaken.message untaken.below untaken.follows untaken.inbox
    untaken.takes
comes_so_far old fault new is (inr (inr (taken, some, its))) = booked_so_far new taken.booked

pub ledgers_come_so_far : LedgersComeSoFar
ledgers_come_so_far = record {
  between = λ d is. booked_so_far d is.booked;
  failed = λ old fault new is failed. comes_so_far old fault new is failed.comes;
}

-- a message was taken, and the poll that is asked then couldn't be replied to
pub looked_failed : {A : Type 0} (old mid new : LedgerCore) (result : Result A RunFault) → IsTaken old mid
    → OnErr result (new ≡ mid) → OnErr result (is_some mid.kept ≡ true) → IfErr result IsTurnFault
    → IfErr result (λ fault. ComesSoFar old fault new)
looked_failed old mid new (Ok x) taken same some kind = tt
looked_failed old mid new (Err fault) taken same some kind =
    subst (ComesSoFar old fault) (sym same) (inr (inr (taken, some, kind)))

-- ---- the work inside the ledger actor

pub unheard_so : (inside now : LedgerCore) (inbox : Incoming ToLedger (Unit {0})) → inside ≡ now → inbox ≡ inside.inbox
    → record inside { inbox = inbox } ≡ now
unheard_so inside now inbox same is = (λ i. record inside { inbox = is i }) ∙ same

-- a request couldn't be replied to
pub request_failed : {A : Type 0} (d now : LedgerCore) → d ≡ now → (request : Request)
    (inbox : Incoming ToLedger (Unit {0})) → IsNext d.inbox (to_ledger.Request request) inbox
    → (order : List (ℕ × Batch)) → order ≡ order_of d.inbox.received → (clients : List (Outgoing Reply Past))
    → (ledger : History) (noted : List ℕ) (result : Result A RunFault)
    → IfErr result (λ fault. AnswersSoFar d.ledger
    (history_of (past_of (order ++ (request.client, request.batch) ∷ []))) fault ledger)
    → OnErr result (clients ≡ d.clients) → OnErr result (noted ≡ d.order)
    → IfErr result (λ fault. ((fault ≡ PeerGone)
    × (record d { inbox = inbox; clients = clients; ledger = ledger; order = noted } ≡ now))
    ⊎ IsUntaken now fault (record d { inbox = inbox; clients = clients; ledger = ledger; order = noted }))
request_failed d now same request inbox next order is clients ledger noted (Ok x) answers untold unnoted = tt
request_failed d now same request inbox next order is clients ledger noted (Err fault) answers untold unnoted =
    inr (subst (λ (s : LedgerCore).
    IsUntaken s fault (record d { inbox = inbox; clients = clients; ledger = ledger; order = noted })) same
    (record {
      sender = next.sender;
      message = to_ledger.Request request;
      below = next.below;
      follows = next.follows;
      inbox = next.after;
      takes = (
        subst (λ (o : List (ℕ × Batch)). AnswersSoFar d.ledger
            (history_of (past_of (o ++ (request.client, request.batch) ∷ []))) fault ledger) is answers,
        λ i. record d { inbox = inbox; clients = untold i; ledger = ledger; order = unnoted i },
      );
    }))

-- nor a poll that was kept
pub poll_failed : (d now : LedgerCore) → d ≡ now → (poll : Poll) (inbox : Incoming ToLedger (Unit {0}))
    → IsNext d.inbox (to_ledger.Poll poll) inbox → (connector : Outgoing ToConnector (Option Past))
    → connector ≡ d.connector → is_some d.kept ≡ true → (fault : RunFault) → IsTurnFault fault
    → IsUntaken now fault (record d { inbox = inbox; connector = connector })
poll_failed d now same poll inbox next connector untold some fault kind =
    subst (λ (s : LedgerCore). IsUntaken s fault (record d { inbox = inbox; connector = connector })) same
    (record {
      sender = next.sender;
      message = to_ledger.Poll poll;
      below = next.below;
      follows = next.follows;
      inbox = next.after;
      takes = (some, kind, λ i. record d { inbox = inbox; connector = untold i });
    })

-- a batch was submitted, and the reply to its client failed
pub untold_so : {A : Type 0} (before after ledger : History) (result : Result A RunFault) (still : Type 0)
    → IfErr result (λ fault. (fault ≡ PeerGone) × still) → ledger ≡ after
    → IfErr result (λ fault. AnswersSoFar before after fault ledger)
untold_so before after ledger (Ok x) still refused is = tt
untold_so before after ledger (Err fault) still (gone, same) is =
    subst (λ (f : RunFault). AnswersSoFar before after f ledger) (sym gone) is
