-- What a client actor has sent to the ledger, and the replies to it.
pub mod SoFar
use Rattle.std.specs.Prelude.{◌≡◌, ℕ, ◌+◌, ◌<◌, Bool, true, false, List, [], ◌∷◌, ◌++◌, length, map, if◌then◌else◌}
use Rattle.cdc_ledger.specs.Submit.{IsLegal}
use Rattle.cdc_links.specs.Links.{Incoming, Outgoing, of_sender, with_received, with_sent}
use Rattle.cdc_traffic.specs.Answering.{answer_shown}
use Rattle.cdc_traffic.specs.Following.{FollowsToClient, last_left}
use Rattle.cdc_traffic.specs.Pasts.{Continues, history_of}
use Rattle.cdc_traffic.specs.declared.messages.ToLedger.{ToLedger}
use Rattle.cdc_traffic.specs.declared.messages.ToLedger.TheVariants.{Request as Asks, Done}
use Rattle.cdc_traffic.specs.declared.pasts.Past.{Past}
use Rattle.cdc_traffic.specs.declared.requests.Reply.{Reply}
use Rattle.cdc_types.specs.declared.batches.Batch.{Batch}

-- a client's core: its number, what it has sent and received, its copies of the replies, and whether it has reported
-- that it is done
pub record ClientCore : Type 0 where
  pub number : ℕ
  pub requests : Outgoing ToLedger (Unit {0})
  pub answers : Incoming Reply Past
  pub replies : List Reply
  pub finished : Bool

-- a client's request of this number for this batch
abbrev pub request_for : ℕ → ℕ → Batch → ToLedger
request_for client number batch = Asks (record { client = client; number = number; batch = batch })

-- the requests, numbered from here on, to which these are the replies
abbrev pub requests_from : ℕ → ℕ → List Reply → List ToLedger
requests_from client number [] = []
requests_from client number (reply ∷ replies) =
    request_for client number reply.batch ∷ requests_from client (number + 1) replies

-- the last message of a client, once it has finished
abbrev pub done_if : Bool → ℕ → List ToLedger
done_if finished client = if finished then Done client ∷ [] else []

-- a client has sent a request for the batch of each reply, numbered from 1, and then, once it has finished, that it is
-- done; and it has received these replies and no others
pub record IsClient (c : ClientCore) : Type 0 where
  pub first : 0 < c.number
  pub own : c.requests.number ≡ c.number
  pub alone : c.answers.senders ≡ 1
  pub dispatched : map (λ m. m.0) c.requests.sent ≡ requests_from c.number 1 c.replies ++ done_if c.finished c.number
  pub reception : map (λ e. e.1.0) c.answers.received ≡ c.replies

-- nothing has been sent yet
abbrev pub first_client : ℕ → Outgoing ToLedger (Unit {0}) → Incoming Reply Past → ClientCore
first_client number requests answers =
    record { number = number; requests = requests; answers = answers; replies = []; finished = false }

-- the ledger's next reply was received, under the name of some past
pub record IsReplyReceived (old : Incoming Reply Past) (reply : Reply) (new : Incoming Reply Past) : Type 0 where
  pub past : Past
  pub follows : FollowsToClient 0 (of_sender 0 old.received) (reply, past)
  pub after : new ≡ with_received old (0, (reply, past))

-- one more request was sent, and its reply received under the name of this past
abbrev pub with_reply : ClientCore → Reply → Past → ClientCore
with_reply c reply past = record c {
  requests = with_sent c.requests (request_for c.number (length c.replies + 1) reply.batch, tt);
  answers = with_received c.answers (0, (reply, past));
  replies = c.replies ++ reply ∷ [];
}

-- a batch was sent, and this is the reply to it: the ledger's answer to the batch on a legal history, which extends the
-- one that the reply before has left; nothing else has changed
pub record IsAnswered (old : ClientCore) (batch : Batch) (reply : Reply) (new : ClientCore) : Type 0 where
  pub past : Past
  pub number : reply.number ≡ length old.replies + 1
  pub same : reply.batch ≡ batch
  pub answer : reply.answer ≡ answer_shown (history_of past) batch
  pub legal : IsLegal (history_of past)
  pub continues : Continues (last_left (of_sender 0 old.answers.received)) past
  pub after : new ≡ with_reply old reply past

-- the core once the client has reported that it is done, which it does once
abbrev pub finished_client : ClientCore → ClientCore
finished_client c =
    if c.finished then c else record c { requests = with_sent c.requests (Done c.number, tt); finished = true }

-- ---- what is left of the actor

-- these are its endpoints, and its copies of the replies
pub record ArePartsOf (c : ClientCore) (requests : Outgoing ToLedger (Unit {0})) (answers : Incoming Reply Past)
    (replies : List Reply) : Type 0 where
  pub requests_are : requests ≡ c.requests
  pub answers_are : answers ≡ c.answers
  pub replies_are : replies ≡ c.replies
