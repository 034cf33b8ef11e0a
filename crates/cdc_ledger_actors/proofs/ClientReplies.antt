-- The replies that a client gets for an order: to which batches, what one batch adds, and that they may be sent.
use Rattle.std.proofs.Common.{◌≡◌, ◌==◌, ℕ, ◌+◌, Bool, true, false, List, [], ◌∷◌, ◌++◌, refl, sym, ap, ◌∙◌, subst, length, map, append_assoc, append-nil}
use Rattle.std.specs.Prelude.{filter, if◌then◌else◌}
use Rattle.std.proofs.lemmas.List.{length-map, map-append}
use Rattle.std.proofs.lemmas.List.Sums.{fold-append}
use Rattle.cdc_ledger_actors.specs.Orders.{RepliesAreSent, RepliesHaveTheirBatches, RepliesMayFollow, batches_by, past_of, reply_after, named_replies_from, named_replies_of, named_replies_to}
use Rattle.cdc_traffic.specs.Following.{last_left}
use Rattle.cdc_traffic.specs.Pasts.{Continues, no_past, with_batch}
use Rattle.cdc_traffic.specs.declared.pasts.Past.{Past}
use Rattle.cdc_traffic.specs.declared.requests.Reply.{Reply}
use Rattle.cdc_traffic.proofs.Continuing.{Continues-batch, Continues-same, Continues-trans}
use Rattle.cdc_types.specs.declared.batches.Batch.{Batch}

-- one batch, which is the client's or another's
one_batch : (client : ℕ) (before : List (ℕ × Batch)) (p : ℕ × Batch) (rest : List (Reply × Past)) (own : List Batch)
    (b : Bool)
    → map (λ m. m.0.batch) rest ≡ own
    → map (λ (m : Reply × Past). m.0.batch)
    ((if b then (reply_after client before p.1, past_of before) ∷ [] else []) ++ rest)
    ≡ (if b then p.1 ∷ own else own)
one_batch client before p rest own true is = ap (λ (l : List Batch). p.1 ∷ l) is
one_batch client before p rest own false is = is

-- those of a list that begins with it
pub own_batches : (client : ℕ) (p : ℕ × Batch) (order : List (ℕ × Batch)) (b : Bool) → (p.0 == client) ≡ b
    → batches_by client (p ∷ order) ≡ (if b then p.1 ∷ batches_by client order else batches_by client order)
own_batches client p order true is =
    ap (λ (b : Bool). map (λ (q : ℕ × Batch). q.1)
    (if b then p ∷ filter (λ q. q.0 == client) order else filter (λ q. q.0 == client) order)) is
own_batches client p order false is =
    ap (λ (b : Bool). map (λ (q : ℕ × Batch). q.1)
    (if b then p ∷ filter (λ q. q.0 == client) order else filter (λ q. q.0 == client) order)) is

-- a client is replied to its own batches
dispatched_batches : (client : ℕ) (before order : List (ℕ × Batch))
    → map (λ m. m.0.batch) (named_replies_from client before order) ≡ batches_by client order
dispatched_batches client before [] = refl
dispatched_batches client before (p ∷ order) =
    let rest : List (Reply × Past) = named_replies_from client (before ++ p ∷ []) order in
    one_batch client before p rest (batches_by client order) (p.0 == client)
    (dispatched_batches client (before ++ p ∷ []) order)
    ∙ sym (own_batches client p order (p.0 == client) refl)

pub replies_have_their_batches : RepliesHaveTheirBatches
replies_have_their_batches client order = dispatched_batches client [] order

-- what one more batch adds, after earlier ones
dispatched_push : (client : ℕ) (before order : List (ℕ × Batch)) (p : ℕ × Batch)
    → named_replies_from client before (order ++ p ∷ [])
    ≡ named_replies_from client before order ++ named_replies_of client (before ++ order) p
dispatched_push client before [] p =
    append-nil (named_replies_of client before p)
    ∙ ap (λ (l : List (ℕ × Batch)). named_replies_of client l p) (sym (append-nil before))
dispatched_push client before (q ∷ order) p =
    let first : List (Reply × Past) = named_replies_of client before q in
    let more : List (ℕ × Batch) = before ++ q ∷ [] in
    ap (λ (l : List (Reply × Past)). first ++ l)
    (dispatched_push client more order p
    ∙ ap (λ (l : List (ℕ × Batch)). named_replies_from client more order ++ named_replies_of client l p)
    (append_assoc before (q ∷ []) order))
    ∙ sym (append_assoc first (named_replies_from client more order) (named_replies_of client (before ++ q ∷ order) p))

pub replies_are_sent : RepliesAreSent
replies_are_sent client order p = dispatched_push client [] order p

-- the past that one batch more makes
pub past_push : (before : List (ℕ × Batch)) (p : ℕ × Batch)
    → past_of (before ++ p ∷ []) ≡ with_batch p.1 (past_of before)
past_push before p =
    ap (λ (bs : List Batch). record { batches = bs; closed = false })
    (map-append (λ (q : ℕ × Batch). q.1) before (p ∷ []))

-- the past that the replies to a client leave, with one more batch, is extended by the past of all batches
left_push : (client : ℕ) (before : List (ℕ × Batch)) (p : ℕ × Batch) (dispatched : List (Reply × Past)) (b : Bool)
    → Continues (last_left dispatched) (past_of before)
    → Continues (last_left (dispatched ++ (if b then (reply_after client before p.1, past_of before) ∷ [] else [])))
    (past_of (before ++ p ∷ []))
left_push client before p dispatched true on =
    let next : Past = with_batch p.1 (past_of before) in
    let is : last_left (dispatched ++ (reply_after client before p.1, past_of before) ∷ []) ≡ next =
    fold-append (λ (past : Past) (each : Reply × Past). with_batch each.0.batch each.1) no_past dispatched
    ((reply_after client before p.1, past_of before) ∷ []) in
    subst (λ (past : Past). Continues past (past_of (before ++ p ∷ []))) (sym is)
    (subst (Continues next) (sym (past_push before p)) (Continues-same next))
left_push client before p dispatched false on =
    subst (λ (l : List (Reply × Past)). Continues (last_left l) (past_of (before ++ p ∷ [])))
    (sym (append-nil dispatched))
    (subst (Continues (last_left dispatched)) (sym (past_push before p))
    (Continues-trans (last_left dispatched) (past_of before) (with_batch p.1 (past_of before)) on
    (Continues-batch p.1 (past_of before) refl)))

left_by_all : (client : ℕ) (before order : List (ℕ × Batch)) (dispatched : List (Reply × Past))
    → Continues (last_left dispatched) (past_of before)
    → Continues (last_left (dispatched ++ named_replies_from client before order)) (past_of (before ++ order))
left_by_all client before [] dispatched on =
    subst (λ (l : List (Reply × Past)). Continues (last_left l) (past_of (before ++ []))) (sym (append-nil dispatched))
    (subst (λ (l : List (ℕ × Batch)). Continues (last_left dispatched) (past_of l)) (sym (append-nil before)) on)
left_by_all client before (p ∷ order) dispatched on =
    let first : List (Reply × Past) = named_replies_of client before p in
    let more : List (ℕ × Batch) = before ++ p ∷ [] in
    let all : List (Reply × Past) = (dispatched ++ first) ++ named_replies_from client more order in
    let rest : Continues (last_left all) (past_of (more ++ order)) =
    left_by_all client more order (dispatched ++ first) (left_push client before p dispatched (p.0 == client) on) in
    subst (λ (l : List (Reply × Past)). Continues (last_left l) (past_of (before ++ p ∷ order)))
    (append_assoc dispatched first (named_replies_from client more order))
    (subst (λ (l : List (ℕ × Batch)). Continues (last_left all) (past_of l)) (append_assoc before (p ∷ []) order) rest)

-- so the reply to what comes next may be sent
pub replies_may_follow : RepliesMayFollow
replies_may_follow client order batch legal =
    let count : length (batches_by client order) ≡ length (named_replies_to client order) =
    ap (λ (l : List Batch). length l) (sym (replies_have_their_batches client order))
    ∙ length-map (named_replies_to client order) (λ m. m.0.batch) in
    record {
      ledger = refl;
      number = ap (λ (n : ℕ). n + 1) count;
      legal = legal;
      not_closed = refl;
      answer = refl;
      continues = left_by_all client [] order [] (Continues-same no_past);
    }
