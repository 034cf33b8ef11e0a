use Rattle.std.proofs.Common.{◌≡◌, ◌+◌, [], ◌∷◌, ◌++◌, List, ℕ, Some, true, inl, inr, sym, ap, ◌∙◌, subst, length}
use Rattle.std.specs.Prelude.{IfOk, Result, Ok, Err}
use Rattle.std.specs.Vec.{with_items}
use Rattle.std.proofs.lemmas.List.{with_items_is}
use Rattle.std.proofs.lemmas.Result.{on_err_weaker}
use Rattle.cdc_ledger_actors.specs.Ledger.{ReceiveReplies, LedgerCore, IsLedgerActor, links_of, order_of, past_of_inbox}
use Rattle.cdc_ledger_actors.specs.Ledger.Steps.{IsNext, IsTaken}
use Rattle.cdc_ledger_actors.specs.Orders.{batches_by, past_of}
use Rattle.cdc_ledger_actors.specs.declared.ledger.cores.LedgerCore.TheInside.{Inside}
use Rattle.cdc_links.specs.Links.{Incoming, Outgoing}
use Rattle.cdc_traffic.specs.Pasts.{history_of}
use Rattle.cdc_traffic.specs.declared.messages.ToLedger.{ToLedger}
use Rattle.cdc_traffic.specs.declared.messages.ToLedger.TheVariants as to_ledger
use Rattle.cdc_traffic.specs.declared.pasts.Past.{Past}
use Rattle.cdc_traffic.specs.declared.requests.Reply.{Reply}
use Rattle.cdc_types.specs.declared.batches.Batch.{Batch}
use Rattle.cdc_ledger_actors.proofs.LedgerLemmas.Fields.{seen}
use Rattle.cdc_ledger_actors.proofs.LedgerLemmas.Turns.{history_before, left_before, number_of, taken_done, taken_finish, taken_poll, taken_request}
use Rattle.std.specs.Prelude.{◌⊎◌, IfErr}
use Rattle.cdc_ledger_actors.specs.Ledger.SoFar.{IsUntaken}
use Rattle.cdc_actor_work.specs.declared.faults.RunFault.TheVariants.{PeerGone}
use Rattle.cdc_actor_work.proofs.PassedOn.{passed_on}
use Rattle.cdc_ledger_actors.proofs.LedgerLemmas.Fails.{poll_failed, request_failed, unheard_so}
use Rattle.cdc_ledger_actors.proofs.ledger.cores.LedgerCore.take.Goals as goal
use Rattle.cdc_ledger_actors.proofs.ledger.cores.LedgerCore.take.Given.{Over}
use Rattle.cdc_ledger_actors.proofs.ledger.cores.LedgerCore.take.Goals.{In_ok-message}

-- four clauses of a call that is answered as it is
all_four : {X E : Type 0} {P Q R N S : X → Type 0} (r : Result X E) → ((x : X) → P x → Q x → R x → N x → S x)
    → IfOk r P → IfOk r Q → IfOk r R → IfOk r N → IfOk r S
all_four (Ok x) all p q r n = all x p q r n
all_four (Err e) all p q r n = tt

-- the ledger as it received this message
record HasCome (named : List (ℕ × Batch)) (named_past : Past) (fields : Inside) (message : ToLedger)
    (inbox : Incoming ToLedger (Unit {0})) : Type 0 where
  is : IsLedgerActor (seen fields)
  next : IsNext fields.inbox message inbox
  order : named ≡ order_of fields.inbox.received
  past : named_past ≡ past_of_inbox fields.inbox

received : (g : Over) (c : In_ok-message g) (message : ToLedger) → c.in_ok-message.message ≡ message
    → HasCome g.K.Reception.order g.K.Reception.past c.self.inside message c.receive_next.new.inbox
received g c message same = record {
  is = subst IsLedgerActor (sym c.self.view_is) c.requires.kept;
  next = subst (λ (m : ToLedger). IsNext c.self.inside.inbox m c.receive_next.new.inbox) same
      c.in_ok-message.ensures.next;
  order = c.requires.order ∙ ap (λ (s : LedgerCore). order_of s.inbox.received) (sym c.self.view_is);
  past = c.requires.past ∙ ap (λ (s : LedgerCore). past_of_inbox s.inbox) (sym c.self.view_is);
}

pub take_request-requires-clause-number : goal.take_request-requires-clause-number
take_request-requires-clause-number g c =
    let inside = c.self.inside in
    let d : LedgerCore = seen inside in
    let came =
    received g (goal.at.take_request-requires-clause-number g c).In_ok-message
    (to_ledger.Request c.in-Request.request) c.in-Request.is in
    let request = c.in-Request.request in
    number_of d came.is.booked came.next.sender came.next.below came.next.follows.may.0 came.next.follows.goes_on
    request came.next.follows.may.1
    came.next.follows.may.2 (c.in_ok-message.ensures.lawful came.next.sender)
    ∙ ap (λ (o : List (ℕ × Batch)). length (batches_by request.client o) + 1) (sym came.order)

pub take_request-requires-clause-history : goal.take_request-requires-clause-history
take_request-requires-clause-history g c =
    let inside = c.self.inside in
    let d : LedgerCore = seen inside in
    let came =
    received g (goal.at.take_request-requires-clause-history g c).In_ok-message
    (to_ledger.Request c.in-Request.request) c.in-Request.is in
    history_before d came.is.booked came.next.sender came.next.below came.next.follows.may.0 came.next.follows.goes_on
    ∙ ap (λ (o : List (ℕ × Batch)). history_of (past_of o)) (sym came.order)

pub count_done-requires : goal.count_done-requires
count_done-requires g c =
    let inside = c.self.inside in
    let d : LedgerCore = seen inside in
    let came =
    received g (goal.at.count_done-requires g c).In_ok-message (to_ledger.Done c.in-Done.client) c.in-Done.is in
    left_before d came.is.booked came.next.sender came.next.below came.next.follows.may.0 came.next.follows.goes_on

pub returns-in-Request-clause-taken : goal.returns-in-Request-clause-taken
returns-in-Request-clause-taken g c =
    let inside = c.self.inside in
    let d : LedgerCore = seen inside in
    let came =
    received g (goal.at.returns-in-Request-clause-taken g c).In_ok-message (to_ledger.Request c.in-Request.request)
    c.in-Request.is in
    let request = c.in-Request.request in
    let clients : List (Outgoing Reply Past) = c.take_request.new.clients in
    let written : (with_items inside.clients clients).items ≡ clients =
    with_items_is inside.clients clients (c.take_request.auto.clients ∙ c.as_mut_slice.ensures.len) in
    let after : List (Outgoing Reply Past) → LedgerCore = λ cs. record d {
      inbox = c.receive_next.new.inbox;
      clients = cs;
      ledger = c.take_request.new.ledger;
      order = c.take_request.new.order.items;
    } in
    all_four c.take_request.result
    (λ x emitted history links noted.
    subst (λ (s : LedgerCore). IsTaken s (after (with_items inside.clients clients).items)) c.self.view_is
    (subst (λ (cs : List (Outgoing Reply Past)). IsTaken d (after cs)) (sym written)
    (taken_request d came.is request c.receive_next.new.inbox came.next clients c.take_request.new.ledger
    (subst (λ (o : List (ℕ × Batch)). ReceiveReplies 1 (o ++ (request.client, request.batch) ∷ []) clients)
    came.order emitted)
    (history ∙ ap (λ (o : List (ℕ × Batch)). history_of (past_of (o ++ (request.client, request.batch) ∷ [])))
    came.order)
    (links ∙ ap links_of c.as_mut_slice.ensures.value) c.take_request.new.order.items noted)))
    c.take_request.ensures.emitted c.take_request.ensures.history c.take_request.ensures.links
    c.take_request.ensures.noted

pub returns-in-Done-clause-taken : goal.returns-in-Done-clause-taken
returns-in-Done-clause-taken g c =
    let inside = c.self.inside in
    let d : LedgerCore = seen inside in
    let came =
    received g (goal.at.returns-in-Done-clause-taken g c).In_ok-message (to_ledger.Done c.in-Done.client)
    c.in-Done.is in
    subst (λ (s : LedgerCore). IsTaken s c.count_done.new.self) c.self.view_is
    (subst (IsTaken d) (sym c.count_done.ensures)
    (taken_done d came.is c.in-Done.client c.receive_next.new.inbox came.next))

pub returns-in_ok-reply_kept-in-Poll-clause-taken : goal.returns-in_ok-reply_kept-in-Poll-clause-taken
returns-in_ok-reply_kept-in-Poll-clause-taken g c =
    let inside = c.self.inside in
    let d : LedgerCore = seen inside in
    let came =
    received g (goal.at.returns-in_ok-reply_kept-in-Poll-clause-taken g c).In_ok-message
    (to_ledger.Poll c.in-Poll.poll) c.in-Poll.is in
    subst (λ (s : LedgerCore). IsTaken s (record d {
      inbox = c.receive_next.new.inbox;
      connector = c.reply_kept.new.connector;
      kept = Some c.in-Poll.poll;
    })) c.self.view_is
    (taken_poll d came.is c.in-Poll.poll c.receive_next.new.inbox came.next g.K.Reception.past came.past
    c.reply_kept.new.connector
    c.in_ok-reply_kept-in-Poll.ensures.replied)

pub returns-in-Finish-clause-taken : goal.returns-in-Finish-clause-taken
returns-in-Finish-clause-taken g c =
    let inside = c.self.inside in
    let d : LedgerCore = seen inside in
    let came = received g (goal.at.returns-in-Finish-clause-taken g c).In_ok-message to_ledger.Finish c.in-Finish.is in
    subst (λ (s : LedgerCore). IsTaken s (record d { inbox = c.receive_next.new.inbox; connector_done = true }))
    c.self.view_is
    (taken_finish d came.is c.receive_next.new.inbox came.next)

pub returns-in_err-message-clause-failed : goal.returns-in_err-message-clause-failed
returns-in_err-message-clause-failed g c =
    let inside = c.self.inside in
    let now = c.args.self.now in
    let d : LedgerCore = seen inside in
    let gone = c.in_err-message.ensures.refused in
    passed_on (λ fault. ((fault ≡ PeerGone) × (_ ≡ now)) ⊎ IsUntaken now fault _) c.from_residual.result
    c.in_err-message.field-0.0 c.from_residual.ensures.1
    (inl (gone.0, unheard_so d now c.receive_next.new.inbox c.self.view_is gone.1))

pub returns-in-Request-clause-failed : goal.returns-in-Request-clause-failed
returns-in-Request-clause-failed g c =
    let inside = c.self.inside in
    let now = c.args.self.now in
    let d : LedgerCore = seen inside in
    let came =
    received g (goal.at.returns-in-Request-clause-failed g c).In_ok-message (to_ledger.Request c.in-Request.request)
    c.in-Request.is in
    let clients : List (Outgoing Reply Past) = c.take_request.new.clients in
    let written : (with_items inside.clients clients).items ≡ clients =
    with_items_is inside.clients clients (c.take_request.auto.clients ∙ c.as_mut_slice.ensures.len) in
    let after : List (Outgoing Reply Past) → LedgerCore = λ cs. record d {
      inbox = c.receive_next.new.inbox;
      clients = cs;
      ledger = c.take_request.new.ledger;
      order = c.take_request.new.order.items;
    } in
    subst
    (λ (cs : List (Outgoing Reply Past)). IfErr c.take_request.result (λ fault. ((fault ≡ PeerGone)
    × (after cs ≡ now)) ⊎ IsUntaken now fault (after cs))) (sym written)
    (request_failed d now c.self.view_is c.in-Request.request c.receive_next.new.inbox came.next g.K.Reception.order
    came.order clients
    c.take_request.new.ledger c.take_request.new.order.items c.take_request.result c.take_request.ensures.failed
    (on_err_weaker c.take_request.result (λ same. same ∙ c.as_mut_slice.ensures.value) c.take_request.ensures.untold)
    c.take_request.ensures.unnoted)

pub returns-in_err-reply_kept-in-Poll-clause-failed : goal.returns-in_err-reply_kept-in-Poll-clause-failed
returns-in_err-reply_kept-in-Poll-clause-failed g c =
    let inside = c.self.inside in
    let now = c.args.self.now in
    let d : LedgerCore = seen inside in
    let came =
    received g (goal.at.returns-in_err-reply_kept-in-Poll-clause-failed g c).In_ok-message
    (to_ledger.Poll c.in-Poll.poll) c.in-Poll.is in
    let err = c.in_err-reply_kept-in-Poll.ensures in
    passed_on (λ fault. ((fault ≡ PeerGone) × (_ ≡ now)) ⊎ IsUntaken now fault _)
    c.from_residual-in_err-reply_kept-in-Poll.result c.in_err-reply_kept-in-Poll.field-0.0
    c.from_residual-in_err-reply_kept-in-Poll.ensures.1
    (inr (poll_failed d now c.self.view_is c.in-Poll.poll c.receive_next.new.inbox came.next
    c.reply_kept.new.connector err.refused
    err.asked c.in_err-reply_kept-in-Poll.field-0.0 err.kind))
