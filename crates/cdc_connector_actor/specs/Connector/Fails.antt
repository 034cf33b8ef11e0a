-- What the parts of a connector's turn leave if they fail. Only private contracts and proofs cite this file.
use Rattle.std.specs.Prelude.{◌≡◌, ◌⊎◌, ℕ, ◌+◌, true, IsTrue, Option, Some, Ok, is_some}
use Rattle.cdc_connector_actor.specs.Connector.{ConnectorCore}
use Rattle.cdc_publisher.specs.Stands.{SessionStands}
use Rattle.cdc_connector_actor.specs.Connector.Moves.{GoesOn}
use Rattle.cdc_connector_actor.specs.Connector.SoFar.{IsConnectorSoFar, IsFaultOf}
use Rattle.cdc_actor_work.specs.declared.faults.RunFault.{RunFault}
use Rattle.cdc_actor_work.specs.declared.faults.RunFault.TheVariants.{PeerGone, OutOfMemory, Store, SessionsExhausted, NotOneSystem, StartNotAllowed}
use Rattle.cdc_links.specs.Links.{with_sent as with_message}
use Rattle.cdc_message.specs.declared.packets.Answer.{Answer}
use Rattle.cdc_message.specs.declared.packets.Answer.TheVariants.{Connected, Confirmed, Ignored, Broken}
use Rattle.cdc_message.specs.declared.packets.Confirm.{Confirm}
use Rattle.cdc_progress.specs.Records.{Saved}
use Rattle.cdc_progress.specs.Stores.{Risks}
use Rattle.cdc_progress.specs.StoreError.TheVariants as store
use Rattle.cdc_traffic.specs.declared.messages.ToLedger.TheVariants as to_ledger
use Rattle.cdc_publisher.specs.Courses.{Course, begun, has_event, next_packet, progress_of, with_confirm, with_sent}

-- what was held is held, or what is saved as a session begins
abbrev pub IsHeldOrNext : Option Saved → Option ℕ → Option Saved → Type 0
IsHeldOrNext held at new = (new ≡ held) ⊎ ((saved : Saved) × ((begun held at ≡ Ok saved) × (new ≡ Some saved)))

-- no session has begun: nothing but what is held is another, and that is the next record at most
pub record IsNotBegun (old : ConnectorCore) (fault : RunFault) (new : ConnectorCore) : Type 0 where
  pub after : new ≡ record old { held = new.held }
  pub held : old.honest ≡ true → IsHeldOrNext old.held old.start new.held
  pub risked : IsFaultOf new fault

-- the session's next packet wasn't sent. Either there was no memory for it, and the session is unchanged; or the
-- broker is gone, and the session has gone on without it
abbrev pub IsUnsent : ConnectorCore → Course → RunFault → ConnectorCore → Type 0
IsUnsent old course PeerGone new =
    IsTrue (is_some (next_packet course))
    × SessionStands new.session (Some (with_sent (next_packet course) course))
    × (new ≡ record old { session = new.session })
IsUnsent old course OutOfMemory new = IsTrue (has_event (next_packet course)) × (new ≡ old)
IsUnsent old course (Store why) new = ⊥
IsUnsent old course SessionsExhausted new = ⊥
IsUnsent old course NotOneSystem new = ⊥
IsUnsent old course StartNotAllowed new = ⊥

-- the last messages weren't sent: none, or to the ledger alone
abbrev pub IsUnfinished : ConnectorCore → ConnectorCore → Type 0
IsUnfinished old new = (new ≡ old) ⊎ (new ≡ record old { polls = with_message old.polls (to_ledger.Finish, tt) })

-- a part of a turn that receives nothing has failed: how far the connector has come by then
pub record IsCutShort (old : ConnectorCore) (fault : RunFault) (new : ConnectorCore) : Type 0 where
  pub goes_on : GoesOn old new
  pub risked : IsFaultOf new fault
  pub so_far : IsConnectorSoFar new

-- a store of these risks doesn't save: memory ran out, or it can't write
abbrev pub IsSaveRisked : Risks → RunFault → Type 0
IsSaveRisked risks PeerGone = ⊥
IsSaveRisked risks OutOfMemory = IsTrue risks.memory
IsSaveRisked risks (Store store.ReadFault) = ⊥
IsSaveRisked risks (Store store.WriteFault) = IsTrue risks.faults
IsSaveRisked risks (Store store.BadRecord) = ⊥
IsSaveRisked risks (Store store.OutOfMemory) = ⊥
IsSaveRisked risks SessionsExhausted = ⊥
IsSaveRisked risks NotOneSystem = ⊥
IsSaveRisked risks StartNotAllowed = ⊥

-- the session has taken the confirm of a tag, and how far it has come then wasn't saved, or half
pub record IsUnsaved (old : ConnectorCore) (course : Course) (fault : RunFault) (new : ConnectorCore) : Type 0 where
  pub stands : SessionStands new.session (Some course)
  pub after : new ≡ record old { held = new.held; session = new.session }
  pub held : (new.held ≡ old.held) ⊎ (new.held ≡ Some (progress_of course))
  pub without_memory : fault ≡ OutOfMemory → new.held ≡ old.held
  pub risked : IsSaveRisked old.risks fault

-- a session couldn't take the broker's answer to a packet of the session of this number
abbrev pub IsAnswerFailed : ConnectorCore → Course → ℕ → Answer → RunFault → ConnectorCore → Type 0
IsAnswerFailed old course session (Confirmed tag) fault new =
    IsUnsaved old (with_confirm session tag course) fault new
IsAnswerFailed old course session Connected fault new = ⊥
IsAnswerFailed old course session Ignored fault new = ⊥
IsAnswerFailed old course session Broken fault new = (session ≡ course.number) × IsNotBegun old fault new

-- nor could it take a confirm: it answers no packet; or its answer couldn't be taken
abbrev pub IsConfirmFailed : ConnectorCore → Course → Confirm → RunFault → ConnectorCore → Type 0
IsConfirmFailed old course confirm fault new =
    ((fault ≡ PeerGone) × ((old.unanswered ≡ 0) × (new ≡ old)))
    ⊎ ((unanswered : ℕ) × ((old.unanswered ≡ unanswered + 1)
    × IsAnswerFailed (record old { unanswered = unanswered }) course confirm.session confirm.answer fault new))
