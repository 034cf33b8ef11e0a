-- How far a connector actor has come, whether it has met a fault or not.
use Rattle.std.specs.Prelude.{◌≡◌, ◌⊎◌, ℕ, ◌+◌, Bool, IsTrue, true, false, None, Err, List, ◌++◌, length, map}
use Rattle.std.specs.List.{filter}
use Rattle.cdc_actor_work.specs.Packets.{packets_in}
use Rattle.cdc_connector_actor.specs.Connector.{HasRestarted, IsAtStart, IsConnectorActor, IsOfSame, IsWired, ConnectorCore, confirms_in, connector_of, finish_if, is_publish, origin_of, polls_in}
use Rattle.cdc_actor_work.specs.declared.faults.RunFault.{RunFault}
use Rattle.cdc_actor_work.specs.declared.faults.RunFault.TheVariants.{PeerGone, OutOfMemory, Store, SessionsExhausted, NotOneSystem, StartNotAllowed}
use Rattle.cdc_laws.specs.ConnectorRuns.{IsConnectorRun}
use Rattle.cdc_laws.specs.Readings.{KeepsToReadings}
use Rattle.cdc_links.specs.Links.{CanSend, TakesMany, of_sender}
use Rattle.cdc_progress.specs.StoreError.TheVariants as store
use Rattle.cdc_publisher.specs.Courses.{begun}
use Rattle.cdc_publisher.specs.declared.errors.StartError.TheVariants as start
use Rattle.cdc_traffic.specs.Following.{FollowsToConnector, last_named}
use Rattle.cdc_traffic.specs.Laws.{readings_of}
use Rattle.cdc_traffic.specs.Pasts.{history_of}
use Rattle.cdc_traffic.specs.declared.messages.ToBroker.{ToBroker}
use Rattle.cdc_traffic.specs.declared.messages.ToBroker.TheVariants as to_broker
use Rattle.cdc_traffic.specs.declared.messages.ToLedger.{ToLedger}
use Rattle.cdc_traffic.specs.declared.messages.ToLedger.TheVariants as to_ledger

-- ---- faults

-- a connector in this state may have met this fault. Its store has failed if it may fail; an honest store holds no
-- bad record. No session starts if what is held and the given timestamp to start after allow none
abbrev pub IsFaultOf : ConnectorCore → RunFault → Type 0
IsFaultOf c PeerGone = Unit {0}
IsFaultOf c OutOfMemory = Unit {0}
IsFaultOf c (Store store.ReadFault) = IsTrue c.risks.faults
IsFaultOf c (Store store.WriteFault) = IsTrue c.risks.faults
IsFaultOf c (Store store.BadRecord) = IsTrue c.risks.faults × (c.honest ≡ true → ⊥)
IsFaultOf c (Store store.OutOfMemory) = ⊥
IsFaultOf c SessionsExhausted = begun c.held c.start ≡ Err start.SessionsExhausted
IsFaultOf c NotOneSystem = ⊥
IsFaultOf c StartNotAllowed = begun c.held c.start ≡ Err start.StartNotAllowed

-- ---- at any time

-- it has sent polls to the ledger and packets to the broker, so many publish packets among them, and then that it is
-- done: to the ledger first, and to both once it has finished
pub record HasSentSoFar (polls : List (ToLedger × Unit {0})) (packets : List (ToBroker × Unit {0})) (published : ℕ)
    (finished : Bool) : Type 0 where
  pub emitted : Bool
  pub asked : map (λ m. m.0) polls ≡ map to_ledger.Poll (polls_in polls) ++ finish_if to_ledger.Finish emitted
  pub sent : map (λ m. m.0) packets ≡ map to_broker.Packet (packets_in packets) ++ finish_if to_broker.Finish finished
  pub counted : published ≡ length (filter is_publish (packets_in packets))
  pub order : finished ≡ true → emitted ≡ true

-- of its packets so many have no confirm yet, or one confirm more came than there are packets
abbrev pub AreUnansweredSoFar : ℕ → ℕ → ℕ → Type 0
AreUnansweredSoFar sent received unanswered =
    (unanswered + received ≡ sent) ⊎ ((unanswered ≡ 0) × (received ≡ sent + 1))

-- with a fault or without one: if its store is honest and the run began at its start, what it has sent and received,
-- and what is held, keeps to every history of which the replies to polls that it has received are readings. It has
-- restarted as planned
pub record IsConnectorSoFar (c : ConnectorCore) : Type 0 where
  pub wired : IsWired c.inbox.senders c.polls.number c.packets.number c.window
  pub dispatched : HasSentSoFar c.polls.sent c.packets.sent c.published c.finished
  pub answers : AreUnansweredSoFar (length (packets_in c.packets.sent))
      (length (confirms_in (of_sender 1 c.inbox.received))) c.unanswered
  pub restarted : HasRestarted c
  pub keeps : c.honest ≡ true → IsAtStart (origin_of c)
      → KeepsToReadings (readings_of (of_sender 0 c.inbox.received)) (connector_of c None)

-- ---- a turn that fails

-- a turn of an actor that hasn't finished fails. It may have received messages
pub record HasFailed (old : ConnectorCore) (fault : RunFault) (new : ConnectorCore) : Type 0 where
  pub working : old.finished ≡ false
  pub inbox : (n : ℕ) × TakesMany FollowsToConnector n old.inbox new.inbox
  pub same : IsOfSame old new
  pub risked : IsFaultOf new fault
  pub so_far : IsConnectorSoFar new

-- ---- laws

-- over an honest store, in a run that began at its start, if the replies are such as the ledger may send: what was
-- sent and confirmed up to now is a connector run over what is to be published after the start. It is of the history
-- that the ledger's last reply names, and of the empty one if no reply has come
abbrev pub PacketsMakeRuns : Type 0
PacketsMakeRuns = (c : ConnectorCore) → IsConnectorSoFar c → CanSend FollowsToConnector 0 (of_sender 0 c.inbox.received)
    → c.honest ≡ true → IsAtStart (origin_of c)
    → IsConnectorRun (history_of (last_named (of_sender 0 c.inbox.received))) (origin_of c).start
    (packets_in c.packets.sent) (confirms_in (of_sender 1 c.inbox.received))

-- this holds of a connector actor between two turns, as it does after a turn that has failed
pub record ConnectorsComeSoFar : Type 0 where
  pub between : (c : ConnectorCore) → IsConnectorActor c → IsConnectorSoFar c
  pub runs : PacketsMakeRuns
