-- What the clients of a run come to once all actors have finished: the replies to each, in the order of all batches.
use Rattle.std.specs.Prelude.{◌≡◌, ℕ, ◌+◌, ◌<◌, ◌≤◌, true, List, [], ◌∷◌, ◌++◌, All, length, map}
use Rattle.cdc_ledger_actors.specs.Client.{IsClient, ClientCore}
use Rattle.cdc_ledger_actors.specs.Ledger.{is_done, order_of}
use Rattle.cdc_ledger_actors.specs.Orders.{batches_by, named_replies_to}
use Rattle.cdc_links.specs.Links.{CanSend, IsAccount, Incoming, Outgoing, of_sender}
use Rattle.cdc_traffic.specs.Following.{FollowsToLedger}
use Rattle.cdc_traffic.specs.declared.messages.ToLedger.{ToLedger}
use Rattle.cdc_traffic.specs.declared.pasts.Past.{Past}
use Rattle.cdc_traffic.specs.declared.requests.Reply.{Reply}
use Rattle.cdc_types.specs.declared.batches.Batch.{Batch}

-- ---- ledger and clients

-- what the ledger actor has received, and what was left in its link
pub record LedgerMail : Type 0 where
  pub received : List (ℕ × (ToLedger × Unit {0}))
  pub left : List (ℕ × (ToLedger × Unit {0}))

-- a client that has finished, over its links to a ledger actor that has this mail. The ledger actor has received that
-- the client is done. Whatever the client has sent was received or left. What the client has received or left is
-- exactly what the ledger actor has sent it: its replies for all batches in the order in which they were received
pub record HasSettled (mail : LedgerMail) (c : ClientCore) : Type 0 where
  pub is : IsClient c
  pub finished : c.finished ≡ true
  pub done : is_done c.number mail.received ≡ true
  pub sent : of_sender c.number (mail.received ++ mail.left) ≡ c.requests.sent
  pub lawful : CanSend FollowsToLedger c.number c.requests.sent
  pub link : Outgoing Reply Past
  pub number : link.number ≡ 0
  pub emitted : link.sent ≡ named_replies_to c.number (order_of mail.received)
  pub answers_left : List (ℕ × (Reply × Past))
  pub account : IsAccount c.answers (link ∷ []) answers_left

-- a client has the replies to its own batches in that order, and its batches in that order are those that were
-- answered: none was left out, none came twice
pub record IsReplied (order : List (ℕ × Batch)) (number : ℕ) (replies : List Reply) : Type 0 where
  pub answers : replies ≡ map (λ m. m.0) (named_replies_to number order)
  pub batches : batches_by number order ≡ map (λ r. r.batch) replies

abbrev pub ClientsAreReplied : Type 0
ClientsAreReplied = (mail : LedgerMail) (c : ClientCore) → HasSettled mail c
    → IsReplied (order_of mail.received) c.number c.replies

-- every batch in it is that of one of so many clients
abbrev pub IsOfClients : ℕ → List (ℕ × Batch) → Type 0
IsOfClients clients order = All (λ p. (0 < p.0) × (p.0 ≤ clients)) order

-- senders' endpoints that have these numbers, one after another
abbrev pub AreNumbered : {M N : Type 0} → ℕ → List (Outgoing M N) → Type 0
AreNumbered number [] = Unit {0}
AreNumbered number (end ∷ ends) = (end.number ≡ number) × AreNumbered (number + 1) ends

-- no other batch is in it: the ledger actor has received only from the connector and the clients, and the connector
-- has no batch
abbrev pub OrdersAreOfClients : Type 0
OrdersAreOfClients = (inbox : Incoming ToLedger (Unit {0})) (polls : Outgoing ToLedger (Unit {0}))
    (requests : List (Outgoing ToLedger (Unit {0}))) (left : List (ℕ × (ToLedger × Unit {0})))
    → IsAccount inbox (polls ∷ requests) left → AreNumbered 0 (polls ∷ requests)
    → CanSend FollowsToLedger 0 polls.sent
    → IsOfClients (length requests) (order_of inbox.received)
