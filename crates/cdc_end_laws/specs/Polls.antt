-- Which polls the ledger actor has replied to.
use Rattle.std.specs.Prelude.{◌≡◌, ℕ, zero, suc, true, Option, None, Some, List, []}
use Rattle.std.specs.List.{filter_map}
use Rattle.cdc_links.specs.Links.{Incoming, Outgoing}
use Rattle.cdc_traffic.specs.declared.messages.ToConnector.{ToConnector}
use Rattle.cdc_traffic.specs.declared.messages.ToConnector.TheVariants.{PollReply, Confirm}
use Rattle.cdc_traffic.specs.declared.messages.ToLedger.{ToLedger}
use Rattle.cdc_traffic.specs.declared.pasts.Past.{Past}
use Rattle.cdc_traffic.specs.declared.polls.Poll.{Poll}
use Rattle.cdc_traffic.specs.declared.requests.Reply.{Reply}
use Rattle.cdc_actors.specs.Connector.{poll_in}
use Rattle.cdc_ledger_actors.specs.Ledger.{IsLedgerTurn, LedgerCore, first_ledger, is_over}
use Rattle.cdc_end_laws.specs.Said.{Lacks}

-- the polls that were received, in order
abbrev pub polls_received : List (ℕ × (ToLedger × Unit {0})) → List Poll
polls_received received = filter_map (λ e. poll_in e.1.0) received

-- the poll that a message replies to
abbrev pub poll_replied : ToConnector → Option Poll
poll_replied (PollReply reply) = Some reply.poll
poll_replied (Confirm confirm) = None

-- the polls that these messages reply to, in order
abbrev pub polls_replied : List (ToConnector × Option Past) → List Poll
polls_replied sent = filter_map (λ m. poll_replied m.0) sent

-- so many turns of the ledger actor, one after another
abbrev pub TurnsTo : ℕ → LedgerCore → LedgerCore → Type 0
TurnsTo zero old new = new ≡ old
TurnsTo (suc n) old new = (between : LedgerCore) × (TurnsTo n old between × IsLedgerTurn between new)

-- a ledger actor that has come to this by turns, with nothing received or sent before them
pub record HasWorked (d : LedgerCore) : Type 0 where
  pub inbox : Incoming ToLedger (Unit {0})
  pub clients : List (Outgoing Reply Past)
  pub connector : Outgoing ToConnector (Option Past)
  pub fresh : inbox.received ≡ []
  pub silent : connector.sent ≡ []
  pub count : ℕ
  pub turns : TurnsTo count (first_ledger inbox clients connector) d

-- it has replied to each poll that it has received, in their order, but for the last one perhaps
abbrev pub PollsLackOne : Type 0
PollsLackOne = (d : LedgerCore) → HasWorked d
    → Lacks 1 (polls_replied d.connector.sent) (polls_received d.inbox.received)

-- and to each one once it has finished
abbrev pub FinishedLedgersReplyToAll : Type 0
FinishedLedgersReplyToAll = (d : LedgerCore) → HasWorked d → is_over d ≡ true
    → polls_replied d.connector.sent ≡ polls_received d.inbox.received
