-- What a turn of the ledger actor, or a batch of a client, leaves as it is: its seat.
use Rattle.std.proofs.Common.{◌≡◌, inl, inr, ap, ◌∙◌}
use Rattle.cdc_ledger_actors.specs.Client.SoFar.{AsksSoFar, IsReceivedOnly}
use Rattle.cdc_ledger_actors.specs.Client.{IsAnswered, ClientCore}
use Rattle.cdc_ledger_actors.specs.Ledger.{LedgerCore, IsLedgerTurn}
use Rattle.cdc_ledger_actors.specs.Ledger.SoFar.{ComesSoFar as LedgerComes, TakesSoFar}
use Rattle.cdc_ledger_actors.specs.Ledger.Steps.{IsTaken}
use Rattle.cdc_ledger_actors.specs.Seats.{client_seat, ledger_seat}
use Rattle.cdc_actor_work.specs.declared.faults.RunFault.{RunFault}
use Rattle.cdc_actor_work.specs.declared.faults.RunFault.TheVariants.{PeerGone, OutOfMemory, Store, SessionsExhausted, NotOneSystem, StartNotAllowed}
use Rattle.cdc_traffic.specs.declared.messages.ToLedger.{ToLedger}
use Rattle.cdc_traffic.specs.declared.messages.ToLedger.TheVariants as to_ledger
use Rattle.cdc_traffic.specs.declared.messages.ToLedger.TheVariants.{Done}
use Rattle.cdc_traffic.specs.declared.requests.Reply.{Reply}
use Rattle.cdc_types.specs.declared.batches.Batch.{Batch}

-- the ledger's
pub served_seat : (old new : LedgerCore) → IsLedgerTurn old new → ledger_seat new ≡ ledger_seat old
served_seat old new is = λ i. record {
  inbox = (is.inbox i).link;
  senders = (is.inbox i).senders;
  clients = is.links i;
  connector = (is.connector i).link;
}

-- also if the turn fails
pub come_seat : (old : LedgerCore) (fault : RunFault) (new : LedgerCore) → LedgerComes old fault new
    → ledger_seat new ≡ ledger_seat old
come_seat old fault new (inl none) = ap ledger_seat none.1
come_seat old fault new (inr (inl untaken)) = untaken_seat untaken.message untaken.takes
  where
    received : ledger_seat (record old { inbox = new.inbox }) ≡ ledger_seat old
    received =
        λ i. record (ledger_seat old) { inbox = (untaken.inbox i).link; senders = (untaken.inbox i).senders }

    untaken_seat : (message : ToLedger) → TakesSoFar message old fault new → ledger_seat new ≡ ledger_seat old
    untaken_seat (to_ledger.Request request) takes = ap ledger_seat takes.1 ∙ received
    untaken_seat (to_ledger.Done number) takes = absurd takes
    untaken_seat (to_ledger.Poll poll) takes = ap ledger_seat takes.2 ∙ received
    untaken_seat to_ledger.Finish takes = absurd takes
come_seat old fault new (inr (inr taken)) =
    let is : IsTaken old new = taken.0 in
    λ i. record {
      inbox = (is.inbox i).link;
      senders = (is.inbox i).senders;
      clients = is.links i;
      connector = (is.connector i).link;
    }

-- a client's
pub replied_seat : (old : ClientCore) (batch : Batch) (reply : Reply) (new : ClientCore)
    → IsAnswered old batch reply new
    → client_seat new ≡ client_seat old
replied_seat old batch reply new is = ap client_seat is.after

pub asked_seat : (batch : Batch) (old : ClientCore) (fault : RunFault) (new : ClientCore)
    → AsksSoFar batch old fault new
    → client_seat new ≡ client_seat old
asked_seat batch old fault new asks = go fault asks
  where
    only : (reply : Reply) → IsReceivedOnly batch reply old new → client_seat new ≡ client_seat old
    only reply is =
        ap client_seat is.after ∙ (λ i. record (client_seat old) { answers = (is.reception.after i).link })

    go : (f : RunFault) → AsksSoFar batch old f new → client_seat new ≡ client_seat old
    go PeerGone (inl same) = ap client_seat same
    go PeerGone (inr (inl same)) = ap client_seat same
    go PeerGone (inr (inr received)) = only received.0 received.1.0
    go OutOfMemory (inl same) = ap client_seat same
    go OutOfMemory (inr received) = only received.0 received.1.0
    go (Store why) asks = absurd asks
    go SessionsExhausted asks = absurd asks
    go NotOneSystem asks = absurd asks
    go StartNotAllowed asks = absurd asks
