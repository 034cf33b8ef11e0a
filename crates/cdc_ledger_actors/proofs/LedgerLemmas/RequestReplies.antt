-- What one more request adds to what clients were sent.
use Rattle.std.proofs.Common.{◌≡◌, ◌≢◌, ℕ, zero, suc, ◌+◌, ◌<◌, Bool, List, [], ◌∷◌, ◌++◌, refl, sym, ap, ◌∙◌, subst, length, get_or, append-nil, eq-eqb, ne_eqb, arith}
use Rattle.std.specs.Prelude.{if◌then◌else◌, slice_set}
use Rattle.std.proofs.lemmas.List.{map-append}
use Rattle.cdc_ledger_actors.specs.Ledger.{ReceiveReplies, links_of}
use Rattle.cdc_ledger_actors.specs.Orders.{batches_by, batches_in, past_of, reply_after, named_replies_to}
use Rattle.cdc_ledger_actors.proofs.ClientReplies.{replies_are_sent, replies_may_follow}
use Rattle.cdc_ledger.specs.History.{History, empty_history}
use Rattle.cdc_ledger.specs.Submit.{IsLegal, after_batches, history_or, submit}
use Rattle.cdc_links.specs.Links.{LinkId, Outgoing, with_sent}
use Rattle.cdc_traffic.specs.Answering.{answer_shown, reply_to}
use Rattle.cdc_traffic.specs.Following.{FollowsToClient}
use Rattle.cdc_traffic.specs.Pasts.{history_of}
use Rattle.cdc_traffic.specs.declared.pasts.Past.{Past}
use Rattle.cdc_traffic.specs.declared.requests.Reply.{Reply}
use Rattle.cdc_traffic.specs.declared.requests.Request.{Request}
use Rattle.cdc_types.specs.declared.batches.Batch.{Batch}

abbrev Links : Type 0
Links = List (Outgoing Reply Past)

-- another client's batch adds nothing to a client's replies
dispatched_other : (number client : ℕ) (batch : Batch) (order : List (ℕ × Batch)) → client ≢ number
    → named_replies_to number (order ++ (client, batch) ∷ []) ≡ named_replies_to number order
dispatched_other number client batch order apart =
    replies_are_sent number order (client, batch)
    ∙ ap (λ (b : Bool). named_replies_to number order
    ++ (if b then (reply_after number order batch, past_of order) ∷ [] else []))
    (ne_eqb client number apart)
    ∙ append-nil (named_replies_to number order)

-- its own adds the reply to it
dispatched_own : (client : ℕ) (batch : Batch) (order : List (ℕ × Batch))
    → named_replies_to client (order ++ (client, batch) ∷ [])
    ≡ named_replies_to client order ++ (reply_after client order batch, past_of order) ∷ []
dispatched_own client batch order =
    replies_are_sent client order (client, batch)
    ∙ ap (λ (b : Bool). named_replies_to client order
    ++ (if b then (reply_after client order batch, past_of order) ∷ [] else []))
    (eq-eqb client client refl)

-- clients beyond the one whose batch it is were sent all their replies
emitted_other : (number client : ℕ) (batch : Batch) (order : List (ℕ × Batch)) (clients : Links) → client < number
    → ReceiveReplies number order clients → ReceiveReplies number (order ++ (client, batch) ∷ []) clients
emitted_other number client batch order [] beyond emitted = tt
emitted_other number client batch order (c ∷ clients) beyond emitted =
    let apart : client ≢ number = omega arith in
    let more : client < number + 1 = omega arith in (
      emitted.0,
      emitted.1 ∙ sym (dispatched_other number client batch order apart),
      emitted_other (number + 1) client batch order clients more emitted.2,
    )

-- once the reply was sent over the link at its client's place, all were sent their replies for the whole order
pub emitted_push : (number client k : ℕ) (batch : Batch) (order : List (ℕ × Batch)) (clients : Links)
    (c : Outgoing Reply Past) → client ≡ number + k → k < length clients → c ≡ get_or clients k c
    → ReceiveReplies number order clients
    → ReceiveReplies number (order ++ (client, batch) ∷ [])
    (slice_set clients k (with_sent c (reply_after client order batch, past_of order)))
emitted_push number client k batch order [] c place within found emitted = absurd (omega arith)
emitted_push number client zero batch order (first ∷ clients) c place within found emitted =
    let this : client ≡ number = omega arith in
    let beyond : client < number + 1 = omega arith in
    let is : c ≡ first = found in (
      ap (λ (o : Outgoing Reply Past). o.number) is ∙ emitted.0,
      ap (λ (l : List (Reply × Past)). l ++ (reply_after client order batch, past_of order) ∷ [])
          (ap (λ (o : Outgoing Reply Past). o.sent) is
          ∙ emitted.1
          ∙ ap (λ (n : ℕ). named_replies_to n order) (sym this))
          ∙ sym (dispatched_own client batch order)
          ∙ ap (λ (n : ℕ). named_replies_to n (order ++ (client, batch) ∷ [])) this,
      emitted_other (number + 1) client batch order clients beyond emitted.2,
    )
emitted_push number client (suc k) batch order (first ∷ clients) c place within found emitted =
    let apart : client ≢ number = omega arith in
    let next : client ≡ number + 1 + k = omega arith in
    let less : k < length clients = omega arith in (
      emitted.0,
      emitted.1 ∙ sym (dispatched_other number client batch order apart),
      emitted_push (number + 1) client k batch order clients c next less found emitted.2,
    )

-- what the client at a place was sent
pub emitted_at : (number client k : ℕ) (order : List (ℕ × Batch)) (clients : Links) (c : Outgoing Reply Past)
    → client ≡ number + k → k < length clients → c ≡ get_or clients k c → ReceiveReplies number order clients
    → (c.number ≡ 0) × (c.sent ≡ named_replies_to client order)
emitted_at number client k order [] c place within found emitted = absurd (omega arith)
emitted_at number client zero order (first ∷ clients) c place within found emitted =
    let this : number ≡ client = omega arith in
    let is : c ≡ first = found in (
      ap (λ (o : Outgoing Reply Past). o.number) is ∙ emitted.0,
      ap (λ (o : Outgoing Reply Past). o.sent) is ∙ emitted.1 ∙ ap (λ (n : ℕ). named_replies_to n order) this,
    )
emitted_at number client (suc k) order (first ∷ clients) c place within found emitted =
    let next : client ≡ number + 1 + k = omega arith in
    let less : k < length clients = omega arith in
    emitted_at (number + 1) client k order clients c next less found emitted.2

-- over the same links
pub links_set : (k : ℕ) (clients : Links) (c : Outgoing Reply Past) (message : Reply × Past) → c ≡ get_or clients k c
    → links_of (slice_set clients k (with_sent c message)) ≡ links_of clients
links_set k [] c message found = refl
links_set zero (first ∷ clients) c message found =
    ap (λ (o : Outgoing Reply Past). o.link ∷ links_of clients) found
links_set (suc k) (first ∷ clients) c message found =
    ap (λ (l : List (LinkId Reply)). first.link ∷ l) (links_set k clients c message found)

-- later batches come upon what the earlier ones left
after_push : (h : History) (earlier : List Batch) (batch : Batch)
    → after_batches h (earlier ++ batch ∷ [])
    ≡ history_or (after_batches h earlier) (submit (after_batches h earlier) batch)
after_push h [] batch = refl
after_push h (first ∷ earlier) batch = after_push (history_or h (submit h first)) earlier batch

-- the history that one batch more makes
pub history_push : (order : List (ℕ × Batch)) (client : ℕ) (batch : Batch)
    → history_of (past_of (order ++ (client, batch) ∷ []))
    ≡ history_or (history_of (past_of order)) (submit (history_of (past_of order)) batch)
history_push order client batch =
    ap (λ (bs : List Batch). after_batches empty_history bs)
    (map-append (λ (p : ℕ × Batch). p.1) order ((client, batch) ∷ []))
    ∙ after_push empty_history (batches_in order) batch

-- the reply to a request that has its number
pub reply_is : (order : List (ℕ × Batch)) (request : Request)
    → request.number ≡ length (batches_by request.client order) + 1
    → reply_to (history_of (past_of order)) request ≡ reply_after request.client order request.batch
reply_is order request number =
    ap (λ (n : ℕ). record {
      number = n;
      batch = request.batch;
      answer = answer_shown (history_of (past_of order)) request.batch;
    }) number

-- it may be sent over the client's link
pub may_reply : (client : ℕ) (order : List (ℕ × Batch)) (batch : Batch) (c : Outgoing Reply Past) → c.number ≡ 0
    → c.sent ≡ named_replies_to client order → IsLegal (history_of (past_of order))
    → FollowsToClient c.number c.sent (reply_after client order batch, past_of order)
may_reply client order batch c own sent legal =
    let message : Reply × Past = (reply_after client order batch, past_of order) in
    subst (λ (n : ℕ). FollowsToClient n c.sent message) (sym own)
    (subst (λ (l : List (Reply × Past)). FollowsToClient 0 l message) (sym sent)
    (replies_may_follow client order batch legal))
