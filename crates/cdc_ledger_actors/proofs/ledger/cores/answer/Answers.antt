use Rattle.std.proofs.Common.{◌≡◌, ◌-◌, ◌+◌, ◌<◌, [], ◌∷◌, ◌++◌, List, ℕ, sym, ap, ap₂, ◌∙◌, subst, length, arith}
use Rattle.std.specs.Prelude.{slice_set}
use Rattle.std.proofs.lemmas.Result.{IfOk-weaker}
use Rattle.cdc_ledger_actors.specs.Ledger.{ReceiveReplies, links_of}
use Rattle.cdc_ledger_actors.specs.Orders.{past_of, reply_after}
use Rattle.cdc_ledger.specs.Submit.{IsLegal, history_or, submit}
use Rattle.cdc_links.specs.Links.{Outgoing, with_sent}
use Rattle.cdc_traffic.specs.Answering.{reply_to}
use Rattle.cdc_traffic.specs.Following.{FollowsToClient}
use Rattle.cdc_traffic.specs.Pasts.{history_of}
use Rattle.cdc_traffic.specs.declared.pasts.Past.{Past}
use Rattle.cdc_traffic.specs.declared.requests.Reply.{Reply}
use Rattle.cdc_types.specs.declared.batches.Batch.{Batch}
use Rattle.cdc_ledger_actors.proofs.LedgerLemmas.Fails.{untold_so}
use Rattle.cdc_ledger_actors.proofs.LedgerLemmas.RequestReplies.{history_push, links_set, may_reply, reply_is, emitted_at, emitted_push}
use Rattle.cdc_ledger_actors.proofs.ledger.cores.answer.Goals as goal

pub reply_to_client-requires : goal.reply_to_client-requires
reply_to_client-requires g c =
    let order : List (ℕ × Batch) = g.K.Reception.order in
    let request = c.args.request in
    let client : ℕ = request.client in
    let link : Outgoing Reply Past = c.index-clients-place.result in
    let place : client ≡ 1 + (client - 1) = omega (arith, c.requires.first) in
    let within : client - 1 < length c.args.clients.now = omega (arith, c.requires.first, c.requires.last) in
    let is : c.in_ok-reply.reply ≡ reply_after client order request.batch =
    c.in_ok-reply.ensures.reply
    ∙ ap (λ h. reply_to h request) c.requires.history
    ∙ reply_is order request c.requires.number in
    let at = emitted_at 1 client (client - 1) order c.args.clients.now link place within c.index-clients-place.is
    c.requires.emitted in
    let legal : IsLegal (history_of (past_of order)) = subst IsLegal c.requires.history c.answer.ensures.legal in
    subst (λ (o : Outgoing Reply Past). FollowsToClient o.number o.sent (c.in_ok-reply.reply, past_of order))
    c.index-clients-place.is
    (subst (λ (r : Reply). FollowsToClient link.number link.sent (r, past_of order)) (sym is)
    (may_reply client order request.batch link at.0 at.1 legal))

pub returns-clause-emitted : goal.returns-clause-emitted
returns-clause-emitted g c =
    let order : List (ℕ × Batch) = g.K.Reception.order in
    let request = c.args.request in
    let client : ℕ = request.client in
    let link : Outgoing Reply Past = c.index-clients-place.result in
    let place : client ≡ 1 + (client - 1) = omega (arith, c.requires.first) in
    let within : client - 1 < length c.args.clients.now = omega (arith, c.requires.first, c.requires.last) in
    let is : c.in_ok-reply.reply ≡ reply_after client order request.batch =
    c.in_ok-reply.ensures.reply
    ∙ ap (λ h. reply_to h request) c.requires.history
    ∙ reply_is order request c.requires.number in
    IfOk-weaker c.reply_to_client.result _ _
    (λ x sent.
    let emitted : c.reply_to_client.new.client
    ≡ with_sent link (reply_after client order request.batch, past_of order) =
    sent
    ∙ ap₂ (λ (o : Outgoing Reply Past) (r : Reply). with_sent o (r, past_of order))
    (sym c.index-clients-place.is) is in
    subst (λ (o : Outgoing Reply Past). ReceiveReplies 1 (order ++ (client, request.batch) ∷ [])
    (slice_set c.args.clients.now (client - 1) o)) (sym emitted)
    (emitted_push 1 client (client - 1) request.batch order c.args.clients.now link place within
    c.index-clients-place.is c.requires.emitted))
    c.reply_to_client.ensures.sent

pub returns-clause-history : goal.returns-clause-history
returns-clause-history g c =
    let order : List (ℕ × Batch) = g.K.Reception.order in
    let request = c.args.request in
    IfOk-weaker c.reply_to_client.result _ _
    (λ x sent.
    c.in_ok-reply.ensures.after
    ∙ ap (λ h. history_or h (submit h request.batch)) c.requires.history
    ∙ sym (history_push order request.client request.batch))
    c.reply_to_client.ensures.sent

pub returns-clause-links : goal.returns-clause-links
returns-clause-links g c =
    let order : List (ℕ × Batch) = g.K.Reception.order in
    let client : ℕ = c.args.request.client in
    let link : Outgoing Reply Past = c.index-clients-place.result in
    IfOk-weaker c.reply_to_client.result _ _
    (λ x sent.
    let emitted : c.reply_to_client.new.client ≡ with_sent link (c.in_ok-reply.reply, past_of order) =
    sent
    ∙ ap (λ (o : Outgoing Reply Past). with_sent o (c.in_ok-reply.reply, past_of order))
    (sym c.index-clients-place.is) in
    ap (λ (o : Outgoing Reply Past). links_of (slice_set c.args.clients.now (client - 1) o)) emitted
    ∙ links_set (client - 1) c.args.clients.now link (c.in_ok-reply.reply, past_of order)
    c.index-clients-place.is)
    c.reply_to_client.ensures.sent

pub returns-clause-failed : goal.returns-clause-failed
returns-clause-failed g c =
    let order : List (ℕ × Batch) = g.K.Reception.order in
    let request = c.args.request in
    untold_so c.args.ledger.now (history_of (past_of (order ++ (request.client, request.batch) ∷ [])))
    c.answer.new.ledger
    c.reply_to_client.result _ c.reply_to_client.ensures.refused
    (c.in_ok-reply.ensures.after
    ∙ ap (λ h. history_or h (submit h request.batch)) c.requires.history
    ∙ sym (history_push order request.client request.batch))
