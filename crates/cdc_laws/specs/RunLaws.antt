-- What holds for runs: for what a connector has sent, what a broker took of it, and what subscribers received of
-- that.
use Rattle.std.specs.Prelude.{◌≡◌, ℕ, true, List, Contains}
use Rattle.cdc_broker.specs.Broker.{BrokerState}
use Rattle.cdc_broker.specs.Packets.{items_of}
use Rattle.cdc_broker.specs.Queues.{QueueState}
use Rattle.cdc_ledger.specs.History.{History}
use Rattle.cdc_ledger.specs.Sound.{IsSound}
use Rattle.cdc_ledger.specs.Submit.{Extends}
use Rattle.cdc_laws.specs.Arrivals.{AreAmong, AreOfTaken, taken_of}
use Rattle.cdc_laws.specs.ConnectorRuns.{IsConnectorRun}
use Rattle.cdc_laws.specs.Faithful.{IsFaithful}
use Rattle.cdc_laws.specs.GoingOn.{GoesOn}
use Rattle.cdc_laws.specs.Receiving.{ReceivesFrom, IsTrafficOf, Traffic}
use Rattle.cdc_laws.specs.Line.{line_after}
use Rattle.cdc_message.specs.declared.items.Item.{Item}
use Rattle.cdc_message.specs.declared.items.Item.TheVariants.{EndMark}
use Rattle.cdc_message.specs.declared.packets.Confirm.{Confirm}
use Rattle.cdc_message.specs.declared.packets.Packet.{Packet}
use Rattle.cdc_message.specs.Items.{same_item}
use Rattle.cdc_message.specs.Replays.{IsPrefix, IsReplay, firsts}
use Rattle.cdc_subscriber.specs.Reception.{Reception}

-- whatever arrives of a connector run, in whatever order, again or not at all: what a broker takes of it is a replay
-- of the line after the start, if each confirm that the connector has received is for a publish that the broker took
abbrev pub TakenOfRunsIsAReplay : Type 0
TakenOfRunsIsAReplay = (h : History) (start : ℕ) (sent arrived : List Packet) (confirms : List Confirm) → IsSound h
    → IsConnectorRun h start sent confirms → AreAmong arrived sent → AreOfTaken confirms (taken_of arrived)
    → IsReplay (items_of (taken_of arrived)) (line_after h start)

-- the first ones of each item of a replay of a line are a prefix of the line
abbrev pub ReplaysOfLinesBegin : Type 0
ReplaysOfLinesBegin = (h : History) (start : ℕ) (items : List Item) → IsSound h → IsReplay items (line_after h start)
    → IsPrefix (firsts same_item items) (line_after h start)

-- and if the end mark is among them, the ledger is closed and they are the whole line
abbrev pub ReplaysOfLinesEnd : Type 0
ReplaysOfLinesEnd = (h : History) (start : ℕ) (items : List Item) → IsSound h → IsReplay items (line_after h start)
    → Contains items EndMark → (h.closed ≡ true) × (firsts same_item items ≡ line_after h start)

-- a connector run stays one if more confirms are received
abbrev pub RunsStayUnderConfirms : Type 0
RunsStayUnderConfirms = (h : History) (start : ℕ) (sent : List Packet) (confirms more : List Confirm)
    → IsConnectorRun h start sent confirms → AreAmong confirms more → IsConnectorRun h start sent more

-- and if the ledger goes on
abbrev pub RunsStayOnLongerLines : Type 0
RunsStayOnLongerLines = (h g : History) (start : ℕ) (sent : List Packet) (confirms : List Confirm) → GoesOn h g
    → IsConnectorRun h start sent confirms → IsConnectorRun g start sent confirms

-- whatever batches and a close make of a sound history goes on from it, and is sound
abbrev pub ExtensionsGoOn : Type 0
ExtensionsGoOn = (g h : History) → IsSound h → Extends g h → GoesOn h g × IsSound g

-- so every subscriber of a run that took a prefix of what its queue has delivered is faithful
abbrev pub SubscribersOfRunsAreFaithful : Type 0
SubscribersOfRunsAreFaithful = (h : History) (start : ℕ) (b : BrokerState) (t : Traffic) (q : QueueState)
    (reception : Reception)
    → IsSound h → IsTrafficOf h start b t → Contains b.queues q → ReceivesFrom q reception
    → IsFaithful h start q.binding reception
