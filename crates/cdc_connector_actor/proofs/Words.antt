-- The words of the standard library and of specifications that the proofs of this crate share.
pub use Rattle.cdc_actor_work.proofs.PassedOn.{passed_on}
pub use Rattle.cdc_laws.proofs.Connectors.{KeepsTo-begin, KeepsTo-confirm, KeepsTo-end, KeepsTo-half_started, KeepsTo-save, KeepsTo-sent, KeepsTo-start}
pub use Rattle.cdc_laws.proofs.ListElements.{Contains_slice_get, none_there}
pub use Rattle.cdc_publisher.proofs.Wanted.{IsReply-wanted, IsWanted-now, confirms_widen, packets_keep}
pub use Rattle.std.proofs.Common.{Bool, Err, List, None, Option, Some, [], ap, append-nil, ap₂, arith, false, inl, inr, length, map, refl, rules, subst, suc, sym, take, true, true≢false, zero, ℕ, ◌++◌, ◌+◌, ◌-◌, ◌<◌, ◌==◌, ◌∙◌, ◌∷◌, ◌≡◌, ◌≤◌}
pub use Rattle.std.specs.Prelude.{Contains, IfOk, IsTrue, Ok, Result, cond, filter, if◌then◌else◌, is_some, nat_le, nat_lt, not, slice_get, unwrap_or, ◌&&◌, ◌||◌, ◌⊎◌}
pub use Rattle.std.proofs.lemmas.Bool.{and_parts, cases_Bool, eqb-false, eqb-true, false≢true, leb-true, or_from, or_parts}
pub use Rattle.std.proofs.lemmas.Bool.Decides.{nat_tests}
pub use Rattle.std.proofs.lemmas.List.{length-append, length_push, map-append}
pub use Rattle.std.proofs.lemmas.List.Elements.{Contains-append_cases, Contains-append_left, Contains-push, filter-append, filter_map-append}
pub use Rattle.std.proofs.lemmas.Option.{cond_some, none-some, same_Some}
pub use Rattle.std.proofs.lemmas.Result.{IfErr-weaker, IfOk-weaker}
pub use Rattle.std.specs.List.{AllByRecursion, list_any}
pub use Rattle.std.specs.Option.{option_map}
pub use Rattle.cdc_actor_work.specs.Faults.{start_fault, store_fault}
pub use Rattle.cdc_actor_work.specs.Packets.{packet_in, packets_in}
pub use Rattle.cdc_actor_work.specs.declared.faults.RunFault.{RunFault}
pub use Rattle.cdc_actor_work.specs.declared.faults.RunFault.TheVariants.{NotOneSystem, OutOfMemory, PeerGone, SessionsExhausted, StartNotAllowed, Store}
pub use Rattle.cdc_connector_actor.specs.Connector.{AreUnanswered, ConnectorCore, FinishedConnectorsAreDone, HasFollowed, HasRestarted, HasSent, HasTaken, HasTakenAll, IsAtRest, IsAtStart, IsBroken, IsConnectorActor, IsDone, IsInTurn, IsOfSame, IsPollOf, IsPublishing, IsRunning, IsTurnOf, IsUnasked, IsUnplanned, IsWired, IsWorkingTurn, MayBeSent, MayConnect, MayPublish, MayRestart, Origin, RestartsAsPlanned, RisesBy, broken_by, confirm_in, confirms_in, connector_of, finish_if, first_connector, first_origin, is_planned, is_publish, last_of, origin_of, planned_up_to, poll_for, poll_in, polls_in, saved_by, session_of, timestamp_after}
pub use Rattle.cdc_connector_actor.specs.Connector.Fails.{IsAnswerFailed, IsConfirmFailed, IsCutShort, IsHeldOrNext, IsNotBegun, IsSaveRisked, IsUnfinished, IsUnsaved, IsUnsent}
pub use Rattle.cdc_connector_actor.specs.Connector.Moves.{AreReceived, AreSent, GoesOn, IsAdvanced, IsAnswerTaken, IsBegun, IsBegunOrReceived, IsBrokenOff, IsConfirmTaken, IsFollowed, IsPacketSent, IsReceivedIf, IsReplyReceived, IsReplyTaken, IsSending, IsSentNext, KeepsTimestamp, asked_if, finished_if, publish_count, wanted_by, with_poll}
pub use Rattle.cdc_connector_actor.specs.Connector.SoFar.{ConnectorsComeSoFar, HasFailed, HasFailed as WorkHasFailed, IsConnectorSoFar, IsFaultOf, PacketsMakeRuns}
pub use Rattle.cdc_laws.specs.Connectors.{ConnectorState, KeepsTo, held_number, held_start, held_timestamp}
pub use Rattle.cdc_laws.specs.Readings.{AreReadings, KeepsToReadings, Reading}
pub use Rattle.cdc_ledger.specs.History.{History}
pub use Rattle.cdc_links.specs.Links.{CanSend, Incoming, Outgoing, Takes, TakesIfSome, TakesMany, of_sender, with_received, with_sent as with_message}
pub use Rattle.cdc_message.specs.declared.items.Item.TheVariants.{EndMark, Event as OfEvent}
pub use Rattle.cdc_message.specs.declared.packets.Answer.{Answer}
pub use Rattle.cdc_message.specs.declared.packets.Answer.TheVariants.{Broken, Confirmed, Connected, Ignored}
pub use Rattle.cdc_message.specs.declared.packets.Confirm.{Confirm}
pub use Rattle.cdc_message.specs.declared.packets.Packet.{Packet}
pub use Rattle.cdc_message.specs.declared.packets.Packet.TheVariants.{Connect, Publish}
pub use Rattle.cdc_progress.specs.Records.{Saved}
pub use Rattle.cdc_progress.specs.Stores.{IsRisked, MayRefuseSave, Risks}
pub use Rattle.cdc_publisher.specs.Courses.{Course, after_answer, begun, confirmed_timestamp, first_saved, has_event, is_confirmed, is_done, last_session, may_end, new_course, next_packet, next_poll, progress_of, publish_packet, tags_sent, takes_confirm, unconfirmed, with_confirm, with_offer, with_sent}
pub use Rattle.cdc_publisher.specs.Offers.{IsOffered, IsReply}
pub use Rattle.cdc_publisher.specs.SessionState.{SessionState}
pub use Rattle.cdc_publisher.specs.Stands.{SessionStands, StandsFor}
pub use Rattle.cdc_publisher.specs.Starts.{HasStarted, IsStartRisked, MayRefuseStart}
pub use Rattle.cdc_publisher.specs.declared.errors.StartError.{StartError}
pub use Rattle.cdc_publisher.specs.declared.session.Poll.{Poll as Wanted}
pub use Rattle.cdc_traffic.specs.Following.{FollowsToBroker, FollowsToConnector, FollowsToLedger, IsEmitted, IsPacket, IsReadOf, ends_to_broker, ends_to_ledger, has_ended, last_named}
pub use Rattle.cdc_traffic.specs.Laws.{reading_of, readings_of, with_reading}
pub use Rattle.cdc_traffic.specs.Pasts.{Continues, history_of}
pub use Rattle.cdc_traffic.specs.declared.messages.ToBroker.{ToBroker}
pub use Rattle.cdc_traffic.specs.declared.messages.ToConnector.{ToConnector}
pub use Rattle.cdc_traffic.specs.declared.messages.ToLedger.{ToLedger}
pub use Rattle.cdc_traffic.specs.declared.pasts.Past.{Past}
pub use Rattle.cdc_traffic.specs.declared.polls.Poll.{Poll}
pub use Rattle.cdc_traffic.specs.declared.polls.PollReply.{PollReply}
pub use Rattle.cdc_types.specs.declared.events.Event.{Event}
