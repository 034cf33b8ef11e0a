-- How far a client actor has come, whether it has met a fault or not.
use Rattle.std.specs.Prelude.{◌≡◌, ◌⊎◌, ◌+◌, ◌<◌, ◌≤◌, true, false, List, [], ◌++◌, length, map}
use Rattle.cdc_ledger_actors.specs.Client.{IsClient, IsReplyReceived, ClientCore, done_if, request_for, requests_from}
use Rattle.cdc_actor_work.specs.declared.faults.RunFault.{RunFault}
use Rattle.cdc_actor_work.specs.declared.faults.RunFault.TheVariants.{PeerGone, OutOfMemory, Store, SessionsExhausted, NotOneSystem, StartNotAllowed}
use Rattle.cdc_links.specs.Links.{with_sent}
use Rattle.cdc_traffic.specs.declared.requests.Reply.{Reply}
use Rattle.cdc_types.specs.declared.batches.Batch.{Batch}

-- ---- a submission that fails

-- a batch was sent
abbrev pub with_request : Batch → ClientCore → ClientCore
with_request batch c =
    record c { requests = with_sent c.requests (request_for c.number (length c.replies + 1) batch, tt) }

-- a batch was sent, and a reply was received, which is kept nowhere else
pub record IsReceivedOnly (batch : Batch) (reply : Reply) (old new : ClientCore) : Type 0 where
  pub reception : IsReplyReceived old.answers reply new.answers
  pub after : new ≡ record (with_request batch old) { answers = new.answers }

-- the reply is to this batch
abbrev pub IsReplyTo : Batch → Reply → ClientCore → Type 0
IsReplyTo batch reply c = (reply.number ≡ length c.replies + 1) × (reply.batch ≡ batch)

-- how far a submission has come, by its fault: the ledger is gone before the batch was sent, before the reply to it was
-- received, or with a reply that is to another; and memory runs out before the batch was sent, or once the reply to it
-- was received
abbrev pub AsksSoFar : Batch → ClientCore → RunFault → ClientCore → Type 0
AsksSoFar batch old PeerGone new =
    (new ≡ old)
    ⊎ ((new ≡ with_request batch old)
    ⊎ ((reply : Reply) × (IsReceivedOnly batch reply old new × (IsReplyTo batch reply old → ⊥))))
AsksSoFar batch old OutOfMemory new =
    (new ≡ old) ⊎ ((reply : Reply) × (IsReceivedOnly batch reply old new × IsReplyTo batch reply old))
AsksSoFar batch old (Store why) new = ⊥
AsksSoFar batch old SessionsExhausted new = ⊥
AsksSoFar batch old NotOneSystem new = ⊥
AsksSoFar batch old StartNotAllowed new = ⊥

-- ---- at any time

-- with a fault or without one: it has sent a request for the batch of each reply that it has kept, numbered from 1, and
-- one more at most, to which it has kept no reply; and then, once it has finished, that it is done. It has received the
-- replies that it has kept, and none besides but to the last request, if that is one more
pub record IsClientSoFar (c : ClientCore) : Type 0 where
  pub first : 0 < c.number
  pub own : c.requests.number ≡ c.number
  pub alone : c.answers.senders ≡ 1
  pub asked : List Batch
  pub one_more : length asked ≤ 1
  pub dispatched : map (λ m. m.0) c.requests.sent
      ≡ requests_from c.number 1 c.replies
      ++ map (request_for c.number (length c.replies + 1)) asked
      ++ done_if c.finished c.number
  pub unkept : List Reply
  pub reception : map (λ e. e.1.0) c.answers.received ≡ c.replies ++ unkept
  pub few : length unkept ≤ length asked
  pub over : c.finished ≡ true → asked ≡ []

-- ---- laws

-- this holds of a client actor between two submissions, and after one that has failed
pub record ClientsComeSoFar : Type 0 where
  pub between : (c : ClientCore) → IsClient c → IsClientSoFar c
  pub failed : (batch : Batch) (old : ClientCore) (fault : RunFault) (new : ClientCore) → IsClient old → old.finished
      ≡ false
      → AsksSoFar batch old fault new → IsClientSoFar new
