-- What the ledger actor has received, what it has sent to each client and to the connector, and what its turns do.
pub mod SoFar
pub mod Steps
use Rattle.std.specs.Prelude.{◌≡◌, ◌==◌, ℕ, zero, suc, ◌+◌, ◌-◌, ◌<◌, ◌≤◌, Bool, true, false, ◌&&◌, not, Option, Some, None, List, [], ◌∷◌, ◌++◌, map, length, slice_get, if◌then◌else◌}
use Rattle.cdc_ledger_actors.specs.Orders.{batches_in, clients_in, named_replies_to}
use Rattle.cdc_ledger.specs.History.{History, empty_history}
use Rattle.cdc_links.specs.Links.{Incoming, LinkId, Outgoing, of_sender, with_received}
use Rattle.cdc_traffic.specs.Answering.{read_by}
use Rattle.cdc_traffic.specs.Following.{FollowsToLedger, ends_to_ledger, has_ended, last_named}
use Rattle.cdc_traffic.specs.Pasts.{Continues, history_of}
use Rattle.cdc_traffic.specs.declared.messages.ToConnector.{ToConnector}
use Rattle.cdc_traffic.specs.declared.messages.ToConnector.TheVariants.{PollReply as OfPoll}
use Rattle.cdc_traffic.specs.declared.messages.ToLedger.{ToLedger}
use Rattle.cdc_traffic.specs.declared.messages.ToLedger.TheVariants as to_ledger
use Rattle.cdc_traffic.specs.declared.pasts.Past.{Past}
use Rattle.cdc_traffic.specs.declared.polls.Poll.{Poll}
use Rattle.cdc_traffic.specs.declared.polls.PollReply.{PollReply}
use Rattle.cdc_traffic.specs.declared.requests.Reply.{Reply}
use Rattle.cdc_types.specs.declared.batches.Batch.{Batch}

-- ---- what was received

-- the batch of a request, with the number of the client that has sent it
abbrev pub batch_in : ℕ → ToLedger → List (ℕ × Batch)
batch_in client (to_ledger.Request request) = (client, request.batch) ∷ []
batch_in client (to_ledger.Done number) = []
batch_in client (to_ledger.Poll poll) = []
batch_in client to_ledger.Finish = []

-- the batches among what was received, each with its client's number, in the order in which they were received
abbrev pub order_of : List (ℕ × (ToLedger × Unit {0})) → List (ℕ × Batch)
order_of [] = []
order_of (e ∷ received) = batch_in e.0 e.1.0 ++ order_of received

-- the last message of this sender was received
abbrev pub is_done : ℕ → List (ℕ × (ToLedger × Unit {0})) → Bool
is_done sender received = has_ended ends_to_ledger (of_sender sender received)

-- how many of the clients up to this number aren't done
abbrev pub clients_left : ℕ → List (ℕ × (ToLedger × Unit {0})) → ℕ
clients_left zero received = 0
clients_left (suc number) received =
    clients_left number received + (if is_done (suc number) received then 0 else 1)

-- the past that the inbox makes: the batches received, and a close once all clients are done; each sender but one, the
-- connector, is a client
abbrev pub past_of_inbox : Incoming ToLedger (Unit {0}) → Past
past_of_inbox inbox = record {
  batches = batches_in (order_of inbox.received);
  closed = clients_left (inbox.senders - 1) inbox.received == 0;
}

-- ---- what is kept

-- the ledger's endpoint of each of its links, the ledger, how many clients aren't done, whether the connector is, the
-- poll that is kept until there is something to reply, and the client of each batch that the ledger took
pub record LedgerCore : Type 0 where
  pub inbox : Incoming ToLedger (Unit {0})
  pub clients : List (Outgoing Reply Past)
  pub connector : Outgoing ToConnector (Option Past)
  pub ledger : History
  pub clients_left : ℕ
  pub connector_done : Bool
  pub kept : Option Poll
  pub order : List ℕ

-- over these links, those of clients from this number on, each was sent exactly its replies for this order
abbrev pub ReceiveReplies : ℕ → List (ℕ × Batch) → List (Outgoing Reply Past) → Type 0
ReceiveReplies number order [] = Unit {0}
ReceiveReplies number order (client ∷ clients) =
    (client.number ≡ 0) × (client.sent ≡ named_replies_to number order) × ReceiveReplies (number + 1) order clients

-- the ledger is what all batches received make of it, closed once all clients are done. Each client was replied to
-- its own batches in that order. The ledger continues the past that the connector's last reply names. The clients of
-- these batches are noted in that order
pub record IsBooked (d : LedgerCore) : Type 0 where
  pub some : 0 < length d.clients
  pub senders : d.inbox.senders ≡ length d.clients + 1
  pub emitted : ReceiveReplies 1 (order_of d.inbox.received) d.clients
  pub history : d.ledger ≡ history_of (past_of_inbox d.inbox)
  pub left : d.clients_left ≡ clients_left (length d.clients) d.inbox.received
  pub connector_done : d.connector_done ≡ is_done 0 d.inbox.received
  pub own : d.connector.number ≡ 0
  pub named : Continues (last_named d.connector.sent) (past_of_inbox d.inbox)
  pub order : d.order ≡ clients_in (order_of d.inbox.received)

-- a poll waits if the ledger is open and has nothing for it
abbrev pub has_to_wait : History → Poll → Bool
has_to_wait h poll = not h.closed && (length (read_by h poll).events == 0)

-- so does the poll that is kept
abbrev pub Waits : History → Option Poll → Type 0
Waits h None = Unit {0}
Waits h (Some poll) = has_to_wait h poll ≡ true

pub record IsLedgerActor (d : LedgerCore) : Type 0 where
  pub booked : IsBooked d
  pub waits : Waits d.ledger d.kept

-- nothing was received
abbrev pub first_ledger : Incoming ToLedger (Unit {0}) → List (Outgoing Reply Past)
    → Outgoing ToConnector (Option Past) → LedgerCore
first_ledger inbox clients connector = record {
  inbox = inbox;
  clients = clients;
  connector = connector;
  ledger = empty_history;
  clients_left = length clients;
  connector_done = false;
  kept = None;
  order = [];
}

-- all clients and the connector are done
abbrev pub is_over : LedgerCore → Bool
is_over d = (d.clients_left == 0) && d.connector_done

-- ---- a turn

-- a poll that is kept, read by this history
abbrev pub replies_of : History → Option Poll → List PollReply
replies_of h None = []
replies_of h (Some poll) = read_by h poll ∷ []

-- what is replied at once: a later poll comes in the place of the one that was kept, which is replied then
abbrev pub replied_first : History → Option Poll → ToLedger → List PollReply
replied_first h kept (to_ledger.Request request) = []
replied_first h kept (to_ledger.Done number) = []
replied_first h kept (to_ledger.Poll poll) = replies_of h kept
replied_first h kept to_ledger.Finish = []

-- the poll that is asked then: the later one, or the one that was kept
abbrev pub asked : Option Poll → ToLedger → Option Poll
asked kept (to_ledger.Request request) = kept
asked kept (to_ledger.Done number) = kept
asked kept (to_ledger.Poll poll) = Some poll
asked kept to_ledger.Finish = kept

-- it is kept if it has to wait
abbrev pub kept_of : History → Option Poll → Option Poll
kept_of h None = None
kept_of h (Some poll) = if has_to_wait h poll then Some poll else None

-- and else replied
abbrev pub replied_of : History → Option Poll → List PollReply
replied_of h None = []
replied_of h (Some poll) = if has_to_wait h poll then [] else read_by h poll ∷ []

-- the connector's link, once these replies were sent, each under the name of this past
abbrev pub with_replies : Outgoing ToConnector (Option Past) → Past → List PollReply
    → Outgoing ToConnector (Option Past)
with_replies connector past replies =
    record connector { sent = connector.sent ++ map (λ reply. (OfPoll reply, Some past)) replies }

-- over which links clients are replied to
abbrev pub links_of : List (Outgoing Reply Past) → List (LinkId Reply)
links_of clients = map (λ client. client.link) clients

-- one message was received, and what follows from it was sent
pub record IsLedgerTurn (old new : LedgerCore) : Type 0 where
  pub sender : ℕ
  pub message : ToLedger
  pub below : sender < old.inbox.senders
  pub follows : FollowsToLedger sender (of_sender sender old.inbox.received) (message, tt)
  pub inbox : new.inbox ≡ with_received old.inbox (sender, (message, tt))
  pub links : links_of new.clients ≡ links_of old.clients
  pub connector : new.connector ≡ with_replies old.connector (past_of_inbox new.inbox)
      (replied_first new.ledger old.kept message ++ replied_of new.ledger (asked old.kept message))
  pub kept : new.kept ≡ kept_of new.ledger (asked old.kept message)
  pub is : IsLedgerActor new

-- ---- what is left of the actor

-- these are its endpoints, its ledger, and the client of each batch
pub record ArePartsOf (d : LedgerCore) (inbox : Incoming ToLedger (Unit {0})) (clients : List (Outgoing Reply Past))
    (connector : Outgoing ToConnector (Option Past)) (ledger : History) (order : List ℕ) : Type 0 where
  pub inbox_is : inbox ≡ d.inbox
  pub clients_are : clients ≡ d.clients
  pub connector_is : connector ≡ d.connector
  pub ledger_is : ledger ≡ d.ledger
  pub order_is : order ≡ d.order

-- all senders have reported that they are done. The ledger is what all batches received make of it, with a close
-- after them, and no poll waits
pub record IsClosed (d : LedgerCore) : Type 0 where
  pub clients_done : (client : ℕ) → 0 < client → client ≤ length d.clients → is_done client d.inbox.received ≡ true
  pub connector_done : is_done 0 d.inbox.received ≡ true
  pub history : d.ledger ≡ history_of (record { batches = batches_in (order_of d.inbox.received); closed = true })
  pub none_waits : d.kept ≡ None

-- ---- laws

-- the actor is finished only then
abbrev pub FinishedLedgersAreClosed : Type 0
FinishedLedgersAreClosed = (d : LedgerCore) → IsLedgerActor d → is_over d ≡ true → IsClosed d

-- each client was sent, over the link at its place, its replies for all batches received, in their order
abbrev pub ClientsReceiveReplies : Type 0
ClientsReceiveReplies = (d : LedgerCore) (place : ℕ) (client : Outgoing Reply Past) → IsLedgerActor d
    → slice_get d.clients place ≡ Some client
    → (client.number ≡ 0) × (client.sent ≡ named_replies_to (place + 1) (order_of d.inbox.received))
