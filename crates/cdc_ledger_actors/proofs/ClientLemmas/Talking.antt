-- A client's core: what it may send next, and that this keeps its invariant.
use Rattle.std.proofs.Common.{◌≡◌, ℕ, ◌+◌, ◌<◌, Bool, true, false, List, [], ◌∷◌, ◌++◌, suc, refl, sym, ap, ◌∙◌, ap₂, subst, length, map, append-nil, arith}
use Rattle.std.specs.Prelude.{◌||◌, if◌then◌else◌}
use Rattle.std.specs.List.{list_any}
use Rattle.std.proofs.lemmas.List.{length-map, map-append}
use Rattle.cdc_ledger_actors.specs.Client.{IsAnswered, IsClient, IsReplyReceived, ClientCore, done_if, finished_client, first_client, request_for, requests_from, with_reply}
use Rattle.cdc_links.specs.Links.{Incoming, Outgoing, with_sent}
use Rattle.cdc_traffic.specs.Answering.{answer_shown}
use Rattle.cdc_traffic.specs.Following.{FollowsToLedger, ends_to_ledger, has_ended}
use Rattle.cdc_traffic.specs.Pasts.{history_of}
use Rattle.cdc_traffic.specs.declared.messages.ToLedger.{ToLedger}
use Rattle.cdc_traffic.specs.declared.messages.ToLedger.TheVariants.{Done}
use Rattle.cdc_traffic.specs.declared.pasts.Past.{Past}
use Rattle.cdc_traffic.specs.declared.requests.Reply.{Reply}
use Rattle.cdc_types.specs.declared.batches.Batch.{Batch}

-- no request is a last message
asks_go_on : (client number : ℕ) (replies : List Reply)
    → list_any ends_to_ledger (requests_from client number replies) ≡ false
asks_go_on client number [] = refl
asks_go_on client number (reply ∷ replies) = asks_go_on client (number + 1) replies

-- there is one for each reply
asks_count : (client number : ℕ) (replies : List Reply) → length (requests_from client number replies) ≡ length replies
asks_count client number [] = refl
asks_count client number (reply ∷ replies) = ap suc (asks_count client (number + 1) replies)

-- that of one reply more has the next number
asks_push : (client number : ℕ) (replies : List Reply) (reply : Reply)
    → requests_from client number (replies ++ reply ∷ [])
    ≡ requests_from client number replies ++ request_for client (number + length replies) reply.batch ∷ []
asks_push client number [] reply =
    let same : number ≡ number + 0 = omega arith in
    ap (λ (n : ℕ). request_for client n reply.batch ∷ []) same
asks_push client number (first ∷ replies) reply =
    let same : number + 1 + length replies ≡ number + suc (length replies) = omega arith in
    ap (λ (l : List ToLedger). request_for client number first.batch ∷ l)
    (asks_push client (number + 1) replies reply
    ∙ ap (λ (n : ℕ). requests_from client (number + 1) replies ++ request_for client n reply.batch ∷ []) same)

-- whether a sender has ended depends only on its messages, not on what they name
ended_of : (sent : List (ToLedger × Unit {0}))
    → has_ended ends_to_ledger sent ≡ list_any ends_to_ledger (map (λ m. m.0) sent)
ended_of [] = refl
ended_of (m ∷ sent) = ap (λ (b : Bool). ends_to_ledger m.0 || b) (ended_of sent)

module _ (c : ClientCore) (is : IsClient c) where
  -- of a client that hasn't finished
  module _ (talks : c.finished ≡ false) where
    -- it has sent a request for each reply
    pub dispatched_so_far : map (λ m. m.0) c.requests.sent ≡ requests_from c.number 1 c.replies
    dispatched_so_far =
        is.dispatched
        ∙ ap (λ (b : Bool). requests_from c.number 1 c.replies ++ done_if b c.number) talks
        ∙ append-nil (requests_from c.number 1 c.replies)

    -- so it hasn't sent its last message
    goes_on : has_ended ends_to_ledger c.requests.sent ≡ false
    goes_on = ended_of c.requests.sent ∙ ap (list_any ends_to_ledger) dispatched_so_far
        ∙ asks_go_on c.number 1 c.replies

    -- and has sent as many messages as it has replies
    pub sent_as_many : length c.requests.sent ≡ length c.replies
    sent_as_many =
        sym (length-map c.requests.sent (λ m. m.0))
        ∙ ap (λ (l : List ToLedger). length l) dispatched_so_far
        ∙ asks_count c.number 1 c.replies

    positive : 0 < c.requests.number
    positive = subst (λ (n : ℕ). 0 < n) (sym is.own) is.first

    -- it may send its next request
    pub may_ask : (number : ℕ) (batch : Batch) → number ≡ length c.requests.sent + 1
        → FollowsToLedger c.requests.number c.requests.sent (request_for c.number number batch, tt)
    may_ask number batch next = record { goes_on = goes_on; may = (positive, sym is.own, next) }

    -- and may report that it is done
    pub may_end : FollowsToLedger c.requests.number c.requests.sent (Done c.number, tt)
    may_end = record { goes_on = goes_on; may = (positive, sym is.own) }

    -- with a request and its reply more it is one still
    pub asked : (reply : Reply) (past : Past) → IsClient (with_reply c reply past)
    asked reply past =
        let request : ToLedger = request_for c.number (length c.replies + 1) reply.batch in
        let same : length c.replies + 1 ≡ 1 + length c.replies = omega arith in
        record {
          first = is.first;
          own = is.own;
          alone = is.alone;
          dispatched = map-append (λ m. m.0) c.requests.sent ((request, tt) ∷ [])
              ∙ ap (λ (l : List ToLedger). l ++ request ∷ []) dispatched_so_far
              ∙ ap (λ (n : ℕ). requests_from c.number 1 c.replies ++ request_for c.number n reply.batch ∷ []) same
              ∙ sym (asks_push c.number 1 c.replies reply)
              ∙ sym (append-nil (requests_from c.number 1 (c.replies ++ reply ∷ [])))
              ∙ ap (λ (b : Bool). requests_from c.number 1 (c.replies ++ reply ∷ []) ++ done_if b c.number) (sym talks);
          reception = map-append (λ e. e.1.0) c.answers.received ((0, (reply, past)) ∷ [])
              ∙ ap (λ (l : List Reply). l ++ reply ∷ []) is.reception;
        }

    -- and once it has reported that it is done
    ended : IsClient (record c { requests = with_sent c.requests (Done c.number, tt); finished = true })
    ended = record {
      first = is.first;
      own = is.own;
      alone = is.alone;
      dispatched = map-append (λ m. m.0) c.requests.sent ((Done c.number, tt) ∷ [])
          ∙ ap (λ (l : List ToLedger). l ++ Done c.number ∷ []) dispatched_so_far;
      reception = is.reception;
    }

  -- whether it had reported so before or not
  pub finished_is : IsClient (finished_client c)
  finished_is = go c.finished refl
    where
      go : (b : Bool) → c.finished ≡ b
          → IsClient (if b then c else record c {
            requests = with_sent c.requests (Done c.number, tt);
            finished = true;
          })
      go true dispatched = is
      go false talks = ended talks

-- a client that has sent nothing yet
pub begins : (number : ℕ) (requests : Outgoing ToLedger (Unit {0})) (answers : Incoming Reply Past) → 0 < number
    → requests.number ≡ number → requests.sent ≡ [] → answers.received ≡ [] → answers.senders ≡ 1
    → IsClient (first_client number requests answers)
begins number requests answers first own silent fresh alone = record {
  first = first;
  own = own;
  alone = alone;
  dispatched = ap (λ (l : List (ToLedger × Unit {0})). map (λ m. m.0) l) silent;
  reception = ap (λ (l : List (ℕ × (Reply × Past))). map (λ e. e.1.0) l) fresh;
}

-- a request was sent for a batch, and its reply received: it is an answer to the batch
pub answered_so : (old : ClientCore) → IsClient old → old.finished ≡ false → (batch : Batch) (number : ℕ)
    (reply : Reply)
    (requests : Outgoing ToLedger (Unit {0})) (answers : Incoming Reply Past) (replies : List Reply)
    → number ≡ length old.requests.sent + 1
    → requests ≡ with_sent old.requests (request_for old.number number batch, tt)
    → IsReplyReceived old.answers reply answers
    → reply.number ≡ number → reply.batch ≡ batch → replies ≡ old.replies ++ reply ∷ []
    → IsAnswered old batch reply (record old { requests = requests; answers = answers; replies = replies })
answered_so old is talks batch number reply requests answers replies next sent reception numbered same kept =
    let count : number ≡ length old.replies + 1 = next ∙ ap (λ (n : ℕ). n + 1) (sent_as_many old is talks) in
    let request : request_for old.number number batch ≡ request_for old.number (length old.replies + 1) reply.batch =
    ap₂ (λ (n : ℕ) (b : Batch). request_for old.number n b) count (sym same) in
    let asks : requests ≡ with_sent old.requests (request_for old.number (length old.replies + 1) reply.batch, tt) =
    sent ∙ ap (λ (m : ToLedger). with_sent old.requests (m, tt)) request in
    record {
      past = reception.past;
      number = numbered ∙ count;
      same = same;
      answer = reception.follows.answer ∙ ap (λ (b : Batch). answer_shown (history_of reception.past) b) same;
      legal = reception.follows.legal;
      continues = reception.follows.continues;
      after = λ i. record old { requests = asks i; answers = reception.after i; replies = kept i };
    }

-- a client that got its answer is still a client
pub answered_is : (old new : ClientCore) (batch : Batch) (reply : Reply) → IsClient old → old.finished ≡ false
    → IsAnswered old batch reply new → IsClient new
answered_is old new batch reply is talks answered =
    subst IsClient (sym answered.after) (asked old is talks reply answered.past)
