-- One order of all clients' batches, each with its client's number, and what each client is replied in it.
use Rattle.std.specs.Prelude.{◌≡◌, ◌==◌, ℕ, ◌+◌, false, List, [], ◌∷◌, ◌++◌, filter, length, map, if◌then◌else◌}
use Rattle.cdc_ledger.specs.Submit.{IsLegal}
use Rattle.cdc_traffic.specs.Answering.{answer_shown}
use Rattle.cdc_traffic.specs.Following.{FollowsToClient}
use Rattle.cdc_traffic.specs.Pasts.{history_of}
use Rattle.cdc_traffic.specs.declared.pasts.Past.{Past}
use Rattle.cdc_traffic.specs.declared.requests.Reply.{Reply}
use Rattle.cdc_types.specs.declared.batches.Batch.{Batch}

-- the clients of all batches
abbrev pub clients_in : List (ℕ × Batch) → List ℕ
clients_in order = map (λ p. p.0) order

-- the batches of all clients, and those of one
abbrev pub batches_in : List (ℕ × Batch) → List Batch
batches_in order = map (λ p. p.1) order

abbrev pub batches_by : ℕ → List (ℕ × Batch) → List Batch
batches_by client order = map (λ p. p.1) (filter (λ p. p.0 == client) order)

-- the past of an open ledger to which these were submitted
abbrev pub past_of : List (ℕ × Batch) → Past
past_of order = record { batches = batches_in order; closed = false }

-- the reply to a client's batch that comes after these
abbrev pub reply_after : ℕ → List (ℕ × Batch) → Batch → Reply
reply_after client before batch = record {
  number = length (batches_by client before) + 1;
  batch = batch;
  answer = answer_shown (history_of (past_of before)) batch;
}

-- the replies to a client for one batch that comes after these: if the batch is its own, the reply, which names their
-- past
abbrev pub named_replies_of : ℕ → List (ℕ × Batch) → ℕ × Batch → List (Reply × Past)
named_replies_of client before p =
    if p.0 == client then (reply_after client before p.1, past_of before) ∷ [] else []

-- its replies for an order that comes after these, batch by batch
abbrev pub named_replies_from : ℕ → List (ℕ × Batch) → List (ℕ × Batch) → List (Reply × Past)
named_replies_from client before [] = []
named_replies_from client before (p ∷ order) =
    named_replies_of client before p ++ named_replies_from client (before ++ p ∷ []) order

-- its replies for a whole order
abbrev pub named_replies_to : ℕ → List (ℕ × Batch) → List (Reply × Past)
named_replies_to client order = named_replies_from client [] order

-- ---- laws

-- an order is fixed by the clients of its batches and by each client's own batches
abbrev pub OrdersAreFixed : Type 0
OrdersAreFixed = (one other : List (ℕ × Batch)) → clients_in one ≡ clients_in other
    → ((client : ℕ) → batches_by client one ≡ batches_by client other) → one ≡ other

-- a client is replied to its own batches, in its own order, and to none else
abbrev pub RepliesHaveTheirBatches : Type 0
RepliesHaveTheirBatches = (client : ℕ) (order : List (ℕ × Batch))
    → map (λ m. m.0.batch) (named_replies_to client order) ≡ batches_by client order

-- the next batch adds the reply to it to its client's replies
abbrev pub RepliesAreSent : Type 0
RepliesAreSent = (client : ℕ) (order : List (ℕ × Batch)) (p : ℕ × Batch)
    → named_replies_to client (order ++ p ∷ []) ≡ named_replies_to client order ++ named_replies_of client order p

-- and the ledger may send it that reply after these
abbrev pub RepliesMayFollow : Type 0
RepliesMayFollow = (client : ℕ) (order : List (ℕ × Batch)) (batch : Batch) → IsLegal (history_of (past_of order))
    → FollowsToClient 0 (named_replies_to client order) (reply_after client order batch, past_of order)
