-- The seats of the ledger actor and of a client: what no turn of it changes.
use Rattle.std.specs.Prelude.{ℕ, List}
use Rattle.cdc_ledger_actors.specs.Client.{ClientCore}
use Rattle.cdc_ledger_actors.specs.Ledger.{LedgerCore, links_of}
use Rattle.cdc_links.specs.Links.{LinkId}
use Rattle.cdc_traffic.specs.declared.messages.ToConnector.{ToConnector}
use Rattle.cdc_traffic.specs.declared.messages.ToLedger.{ToLedger}
use Rattle.cdc_traffic.specs.declared.requests.Reply.{Reply}

-- the ledger's: its inbox and how many send to it, and over which links it replies to the clients and the connector
pub record LedgerSeat : Type 0 where
  pub inbox : LinkId ToLedger
  pub senders : ℕ
  pub clients : List (LinkId Reply)
  pub connector : LinkId ToConnector

abbrev pub ledger_seat : LedgerCore → LedgerSeat
ledger_seat d = record {
  inbox = d.inbox.link;
  senders = d.inbox.senders;
  clients = links_of d.clients;
  connector = d.connector.link;
}

-- a client's: its number, over which link it asks, and over which it is answered
pub record ClientSeat : Type 0 where
  pub number : ℕ
  pub requests : LinkId ToLedger
  pub answers : LinkId Reply

abbrev pub client_seat : ClientCore → ClientSeat
client_seat c = record { number = c.number; requests = c.requests.link; answers = c.answers.link }
