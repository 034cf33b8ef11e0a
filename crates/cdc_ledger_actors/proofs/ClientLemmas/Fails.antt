-- How far a client actor has come that has met a fault.
use Rattle.std.proofs.Common.{◌≡◌, ℕ, ◌+◌, ◌≤◌, Bool, false, List, [], ◌∷◌, ◌++◌, inl, inr, refl, sym, ap, ◌∙◌, subst, length, map, append-nil, arith}
use Rattle.std.proofs.lemmas.List.{map-append}
use Rattle.cdc_ledger_actors.specs.Client.{IsClient, IsReplyReceived, ClientCore, done_if, request_for, requests_from}
use Rattle.cdc_ledger_actors.specs.Client.SoFar.{AsksSoFar, ClientsComeSoFar, IsClientSoFar, IsReceivedOnly, IsReplyTo, with_request}
use Rattle.cdc_actor_work.specs.declared.faults.RunFault.{RunFault}
use Rattle.cdc_actor_work.specs.declared.faults.RunFault.TheVariants.{PeerGone, OutOfMemory, Store, SessionsExhausted, NotOneSystem, StartNotAllowed}
use Rattle.cdc_ledger_actors.proofs.ClientLemmas.Talking.{dispatched_so_far, sent_as_many}
use Rattle.cdc_links.specs.Links.{Incoming, Outgoing, with_sent}
use Rattle.cdc_traffic.specs.declared.messages.ToLedger.{ToLedger}
use Rattle.cdc_traffic.specs.declared.pasts.Past.{Past}
use Rattle.cdc_traffic.specs.declared.requests.Reply.{Reply}
use Rattle.cdc_types.specs.declared.batches.Batch.{Batch}

-- one that has met none has kept the reply to each request
client_so_far : (c : ClientCore) → IsClient c → IsClientSoFar c
client_so_far c is = record {
  first = is.first;
  own = is.own;
  alone = is.alone;
  asked = [];
  one_more = omega arith;
  dispatched = is.dispatched
      ∙ ap (λ (l : List ToLedger). l ++ done_if c.finished c.number)
      (sym (append-nil (requests_from c.number 1 c.replies)));
  unkept = [];
  reception = is.reception ∙ sym (append-nil c.replies);
  few = omega arith;
  over = λ _. refl;
}

module _ (batch : Batch) (c : ClientCore) (is : IsClient c) (talks : c.finished ≡ false) where
  -- what it has sent, with one more request
  dispatched_more : map (λ (m : ToLedger × Unit {0}). m.0)
      (c.requests.sent ++ (request_for c.number (length c.replies + 1) batch, tt) ∷ [])
      ≡ requests_from c.number 1 c.replies
      ++ map (request_for c.number (length c.replies + 1)) (batch ∷ [])
      ++ done_if c.finished c.number
  dispatched_more =
      let request : ToLedger = request_for c.number (length c.replies + 1) batch in
      map-append (λ (m : ToLedger × Unit {0}). m.0) c.requests.sent ((request, tt) ∷ [])
      ∙ ap (λ (l : List ToLedger). l ++ request ∷ []) (dispatched_so_far c is talks)
      ∙ sym (append-nil (requests_from c.number 1 c.replies ++ request ∷ []))
      ∙ ap (λ (b : Bool). requests_from c.number 1 c.replies ++ request ∷ [] ++ done_if b c.number) (sym talks)

  -- and nothing, or one reply more
  asked_so_far : (answers : Incoming Reply Past) (unkept : List Reply) → answers.senders ≡ 1
      → map (λ e. e.1.0) answers.received ≡ c.replies ++ unkept → length unkept ≤ 1
      → IsClientSoFar (record (with_request batch c) { answers = answers })
  asked_so_far answers unkept alone reception few = record {
    first = is.first;
    own = is.own;
    alone = alone;
    asked = batch ∷ [];
    one_more = omega arith;
    dispatched = dispatched_more;
    unkept = unkept;
    reception = reception;
    few = few;
    over = λ over. absurd (cc (over, talks));
  }

  received_so_far : (reply : Reply) (new : ClientCore) → IsReceivedOnly batch reply c new → IsClientSoFar new
  received_so_far reply new only =
      let entry : ℕ × (Reply × Past) = (0, (reply, only.reception.past)) in
      subst IsClientSoFar (sym only.after)
      (asked_so_far new.answers (reply ∷ [])
      (ap (λ (i : Incoming Reply Past). i.senders) only.reception.after ∙ is.alone)
      (ap (λ (i : Incoming Reply Past). map (λ (e : ℕ × (Reply × Past)). e.1.0) i.received) only.reception.after
      ∙ map-append (λ (e : ℕ × (Reply × Past)). e.1.0) c.answers.received (entry ∷ [])
      ∙ ap (λ (l : List Reply). l ++ reply ∷ []) is.reception) (omega arith))

  asks_so_far : (fault : RunFault) (new : ClientCore) → AsksSoFar batch c fault new → IsClientSoFar new
  asks_so_far PeerGone new (inl same) = subst IsClientSoFar (sym same) (client_so_far c is)
  asks_so_far PeerGone new (inr (inl after)) =
      subst IsClientSoFar (sym after)
      (asked_so_far c.answers [] is.alone (is.reception ∙ sym (append-nil c.replies)) (omega arith))
  asks_so_far PeerGone new (inr (inr (reply, (only, other)))) = received_so_far reply new only
  asks_so_far OutOfMemory new (inl same) = subst IsClientSoFar (sym same) (client_so_far c is)
  asks_so_far OutOfMemory new (inr (reply, (only, its))) = received_so_far reply new only
  asks_so_far (Store why) new asks = absurd asks
  asks_so_far SessionsExhausted new asks = absurd asks
  asks_so_far NotOneSystem new asks = absurd asks
  asks_so_far StartNotAllowed new asks = absurd asks

pub clients_come_so_far : ClientsComeSoFar
clients_come_so_far = record {
  between = client_so_far;
  failed = λ batch old fault new is talks asks. asks_so_far batch old is talks fault new asks;
}

-- ---- the core inside a client actor

module _ (c now : ClientCore) (same : c ≡ now) (is : IsClient c) (talks : c.finished ≡ false) (batch : Batch)
    (number : ℕ)
    (next : number ≡ length c.requests.sent + 1) (requests : Outgoing ToLedger (Unit {0}))
    (sent : requests ≡ with_sent c.requests (request_for c.number number batch, tt)) (replies : List Reply)
    (kept : replies ≡ c.replies) where
  count : number ≡ length c.replies + 1
  count = next ∙ ap (λ (n : ℕ). n + 1) (sent_as_many c is talks)

  -- a batch was sent
  sent_so : requests ≡ with_sent c.requests (request_for c.number (length c.replies + 1) batch, tt)
  sent_so = sent ∙ ap (λ (n : ℕ). with_sent c.requests (request_for c.number n batch, tt)) count

  -- and no reply came
  pub unheard_so : (answers : Incoming Reply Past) → answers ≡ c.answers
      → record c { requests = requests; answers = answers; replies = replies } ≡ with_request batch now
  unheard_so answers none =
      (λ i. record c { requests = sent_so i; answers = none i; replies = kept i }) ∙ ap (with_request batch) same

  -- or one came, which isn't kept
  pub received_so : (answers : Incoming Reply Past) (reply : Reply) → IsReplyReceived c.answers reply answers
      → IsReceivedOnly batch reply now (record c { requests = requests; answers = answers; replies = replies })
  received_so answers reply reception =
      subst
      (λ (t : ClientCore). IsReceivedOnly batch reply t (record c {
        requests = requests;
        answers = answers;
        replies = replies;
      })) same
      (record {
        reception = reception;
        after =
            λ i. record c { requests = sent_so i; answers = answers; replies = kept i };
      })

  -- it isn't a reply to this batch
  pub other_so : (reply : Reply) → ((reply.number ≡ number) × (reply.batch ≡ batch) → ⊥) → IsReplyTo batch reply now → ⊥
  other_so reply other its =
      let here : IsReplyTo batch reply c = subst (IsReplyTo batch reply) (sym same) its in
      other (here.0 ∙ sym count, here.1)

  -- it is
  pub its_so : (reply : Reply) → reply.number ≡ number → reply.batch ≡ batch → IsReplyTo batch reply now
  its_so reply numbered its = subst (IsReplyTo batch reply) same (numbered ∙ count, its)
