-- What the steps of a turn of the ledger actor do. Private contracts, and the definition of a turn that fails, cite
-- this file.
use Rattle.std.specs.Prelude.{◌≡◌, ◌==◌, ℕ, ◌-◌, ◌<◌, true, if◌then◌else◌}
use Rattle.cdc_ledger_actors.specs.Ledger.{LedgerCore, IsBooked, asked, kept_of, links_of, past_of_inbox, replied_first, replied_of, with_replies}
use Rattle.cdc_ledger.specs.History.{History}
use Rattle.cdc_links.specs.Links.{Incoming, of_sender, with_received}
use Rattle.cdc_traffic.specs.Following.{FollowsToLedger}
use Rattle.cdc_traffic.specs.declared.messages.ToLedger.{ToLedger}

-- a sender of the link has sent this message, and it was received
pub record IsNext (old : Incoming ToLedger (Unit {0})) (message : ToLedger) (new : Incoming ToLedger (Unit {0}))
    : Type 0 where
  pub sender : ℕ
  pub below : sender < old.senders
  pub follows : FollowsToLedger sender (of_sender sender old.received) (message, tt)
  pub after : new ≡ with_received old (sender, (message, tt))

-- the ledger takes no more batches
abbrev pub shut : History → History
shut h = record h { closed = true }

-- one client more is done; once all are, the ledger is closed
abbrev pub with_one_done : LedgerCore → LedgerCore
with_one_done d = record d {
  clients_left = d.clients_left - 1;
  ledger = if (d.clients_left - 1) == 0 then shut d.ledger else d.ledger;
}

-- the poll that is asked was looked at
abbrev pub looked_at : LedgerCore → LedgerCore
looked_at d = record d {
  connector = with_replies d.connector (past_of_inbox d.inbox) (replied_of d.ledger d.kept);
  kept = kept_of d.ledger d.kept;
}

-- one message was received and taken, and the poll that is asked then wasn't looked at yet
pub record IsTaken (old new : LedgerCore) : Type 0 where
  pub sender : ℕ
  pub message : ToLedger
  pub below : sender < old.inbox.senders
  pub follows : FollowsToLedger sender (of_sender sender old.inbox.received) (message, tt)
  pub inbox : new.inbox ≡ with_received old.inbox (sender, (message, tt))
  pub links : links_of new.clients ≡ links_of old.clients
  pub connector : new.connector ≡ with_replies old.connector (past_of_inbox new.inbox)
      (replied_first new.ledger old.kept message)
  pub kept : new.kept ≡ asked old.kept message
  pub booked : IsBooked new
