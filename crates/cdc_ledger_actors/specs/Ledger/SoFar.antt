-- How far the ledger actor has come, whether it has met a fault or not.
use Rattle.std.specs.Prelude.{◌≡◌, ◌==◌, ◌⊎◌, ℕ, ◌+◌, ◌<◌, ◌≤◌, true, false, List, [], ◌∷◌, ◌++◌, is_some, length}
use Rattle.cdc_actor_work.specs.Faults.{IsTurnFault}
use Rattle.cdc_ledger_actors.specs.Ledger.{ReceiveReplies, LedgerCore, IsLedgerActor, clients_left, is_done, is_over, order_of}
use Rattle.cdc_ledger_actors.specs.Ledger.Steps.{IsTaken}
use Rattle.cdc_ledger_actors.specs.Orders.{batches_in, past_of}
use Rattle.cdc_actor_work.specs.declared.faults.RunFault.{RunFault}
use Rattle.cdc_actor_work.specs.declared.faults.RunFault.TheVariants.{PeerGone, OutOfMemory, Store, SessionsExhausted, NotOneSystem, StartNotAllowed}
use Rattle.cdc_ledger.specs.History.{History}
use Rattle.cdc_links.specs.Links.{of_sender, with_received}
use Rattle.cdc_traffic.specs.Following.{FollowsToLedger, last_named}
use Rattle.cdc_traffic.specs.Pasts.{Continues, history_of}
use Rattle.cdc_traffic.specs.declared.messages.ToLedger.{ToLedger}
use Rattle.cdc_traffic.specs.declared.messages.ToLedger.TheVariants as to_ledger
use Rattle.cdc_traffic.specs.declared.pasts.Past.{Past}
use Rattle.cdc_types.specs.declared.batches.Batch.{Batch}

-- ---- a turn that fails

-- what a request that fails leaves of the ledger, by its fault: if memory runs out the batch wasn't submitted, and if
-- the client is gone it was
abbrev pub AnswersSoFar : History → History → RunFault → History → Type 0
AnswersSoFar before after PeerGone ledger = ledger ≡ after
AnswersSoFar before after OutOfMemory ledger = ledger ≡ before
AnswersSoFar before after (Store why) ledger = ⊥
AnswersSoFar before after SessionsExhausted ledger = ⊥
AnswersSoFar before after NotOneSystem ledger = ⊥
AnswersSoFar before after StartNotAllowed ledger = ⊥

-- how far a message was taken that was received: a request was submitted or not, and its client wasn't replied to; and
-- a poll came in the place of one that couldn't be replied to, which is kept
abbrev pub TakesSoFar : ToLedger → LedgerCore → RunFault → LedgerCore → Type 0
TakesSoFar (to_ledger.Request request) old fault new =
    AnswersSoFar old.ledger
    (history_of (past_of (order_of old.inbox.received ++ (request.client, request.batch) ∷ []))) fault new.ledger
    × (new ≡ record old { inbox = new.inbox; ledger = new.ledger })
TakesSoFar (to_ledger.Done number) old fault new = ⊥
TakesSoFar (to_ledger.Poll poll) old fault new =
    (is_some old.kept ≡ true) × IsTurnFault fault × (new ≡ record old { inbox = new.inbox })
TakesSoFar to_ledger.Finish old fault new = ⊥

-- a message was received, and couldn't be taken
pub record IsUntaken (old : LedgerCore) (fault : RunFault) (new : LedgerCore) : Type 0 where
  pub sender : ℕ
  pub message : ToLedger
  pub below : sender < old.inbox.senders
  pub follows : FollowsToLedger sender (of_sender sender old.inbox.received) (message, tt)
  pub inbox : new.inbox ≡ with_received old.inbox (sender, (message, tt))
  pub takes : TakesSoFar message old fault new

-- nothing was received; a message was, and couldn't be taken; or it was taken, and the poll that is asked then couldn't
-- be replied to
abbrev pub ComesSoFar : LedgerCore → RunFault → LedgerCore → Type 0
ComesSoFar old fault new =
    ((fault ≡ PeerGone) × (new ≡ old))
    ⊎ (IsUntaken old fault new ⊎ (IsTaken old new × (is_some new.kept ≡ true) × IsTurnFault fault))

-- only an actor that isn't finished fails
pub record HasFailed (old : LedgerCore) (fault : RunFault) (new : LedgerCore) : Type 0 where
  pub working : is_over old ≡ false
  pub comes : ComesSoFar old fault new

-- ---- at any time

-- with a fault or without one. The ledger is what the batches received make of it, except possibly the last one,
-- closed once all clients are done. Each client was replied to its own batches of those in that order, except
-- possibly the last one of all. The ledger continues the past that the connector's last reply names
pub record IsLedgerSoFar (d : LedgerCore) : Type 0 where
  pub senders : d.inbox.senders ≡ length d.clients + 1
  pub submitted : List (ℕ × Batch)
  pub unsubmitted : List (ℕ × Batch)
  pub all : order_of d.inbox.received ≡ submitted ++ unsubmitted
  pub replied : List (ℕ × Batch)
  pub unreplied : List (ℕ × Batch)
  pub answered : submitted ≡ replied ++ unreplied
  pub at_most_one : length unsubmitted + length unreplied ≤ 1
  pub emitted : ReceiveReplies 1 replied d.clients
  pub past : Past
  pub past_is : past ≡ record { batches = batches_in submitted; closed = d.clients_left == 0 }
  pub history : d.ledger ≡ history_of past
  pub left : d.clients_left ≡ clients_left (length d.clients) d.inbox.received
  pub connector_done : d.connector_done ≡ is_done 0 d.inbox.received
  pub own : d.connector.number ≡ 0
  pub named : Continues (last_named d.connector.sent) past

-- ---- laws

-- this holds of the ledger actor between two turns, and after a turn that has failed
pub record LedgersComeSoFar : Type 0 where
  pub between : (d : LedgerCore) → IsLedgerActor d → IsLedgerSoFar d
  pub failed : (old : LedgerCore) (fault : RunFault) (new : LedgerCore) → IsLedgerActor old → HasFailed old fault new
      → IsLedgerSoFar new
