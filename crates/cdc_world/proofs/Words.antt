-- The terms of std and of specifications that the proofs of this crate share.
pub use Rattle.cdc_broker.specs.Broker.{BrokerState, after_packet, empty_broker, nobody, queue_of, takes_packet, with_queue}
pub use Rattle.cdc_broker.specs.Cursors.{Cursor, after_ack, after_delivery, delivery_at, rewound}
pub use Rattle.cdc_broker.specs.Packets.{expected_after, is_taken, is_taken_at, items_of, packet_item, session_after}
pub use Rattle.cdc_broker.specs.Queues.{QueueState, acknowledged, empty_queue, is_unknown, item_for, next_delivery as next_of_queue, queued, rewound_queue, with_delivery as with_delivery_of, with_item}
pub use Rattle.cdc_laws.proofs.ListElements.{Contains_slice_get, none_there}
pub use Rattle.cdc_laws.proofs.Taking.{current_session-push, expected_tag-push, items_of-push, taken_after-true}
pub use Rattle.cdc_laws.specs.Log.{events_after}
pub use Rattle.cdc_laws.specs.Readings.{Reading, none_follow}
pub use Rattle.cdc_ledger.specs.Events.{events}
pub use Rattle.cdc_ledger.specs.History.{History, empty_history}
pub use Rattle.cdc_ledger.specs.Submit.{submit}
pub use Rattle.cdc_ledger.specs.declared.errors.BatchError.{BatchError}
pub use Rattle.cdc_match.specs.Arguments.{Arguments}
pub use Rattle.cdc_match.specs.Queue.{queue, takes_item}
pub use Rattle.cdc_message.specs.Replays.{IsPrefix, IsReplay}
pub use Rattle.cdc_message.specs.declared.items.Delivery.{Delivery}
pub use Rattle.cdc_message.specs.declared.items.Item.{Item}
pub use Rattle.cdc_message.specs.declared.packets.Confirm.{Confirm}
pub use Rattle.cdc_message.specs.declared.packets.Packet.{Packet}
pub use Rattle.cdc_message.specs.declared.packets.Packet.TheVariants.{Connect, Publish}
pub use Rattle.cdc_progress.specs.Records.{Saved, saved, saved_from}
pub use Rattle.cdc_progress.specs.Stores.{IsCounted, IsRisked, MayRefuseSave, Risks}
pub use Rattle.cdc_publisher.specs.Courses.{Course, after_answer, all_sent, begun, last_session, new_course, next_packet, next_poll, progress_of, unconfirmed, with_offer, with_sent}
pub use Rattle.cdc_publisher.specs.SessionState.{SessionState, poll_of}
pub use Rattle.cdc_publisher.specs.declared.errors.StartError.{StartError}
pub use Rattle.cdc_publisher.specs.declared.session.Poll.{Poll}
pub use Rattle.cdc_subscriber.specs.Reception.{Reception, has_ended, kept_of, next as next_reception}
pub use Rattle.cdc_subscriber.specs.SubscriberState.{SubscriberState}
pub use Rattle.cdc_subscriber.specs.declared.errors.TakeError.{TakeError}
pub use Rattle.cdc_subscriber.specs.declared.subscriber.Taking.{Taking}
pub use Rattle.cdc_types.specs.declared.batches.BatchResults.{BatchResults}
pub use Rattle.cdc_types.specs.declared.steps.Step.{Step}
pub use Rattle.cdc_types.specs.declared.steps.Step.TheVariants.{Ack, Answer, Arrive, Break, Close, CloseLedger, Crash, Poll as PollStep, Publish as PublishStep, Rewind, Save, Send, Start, StartAt, Submit, Take}
pub use Rattle.cdc_world.specs.Moves.{DoesAll, Going, IsPlay, IsPlayBy, IsStoreCounted, Moves, MovesBy, PlayFixesClosedBy, Plays, PlaysBy, StepFixesClosed, StopsAt}
pub use Rattle.cdc_world.specs.Next.{IsAtStart, IsReached, IsStepRisked, IsTried, Leads, Next, NextOver, Outcome, acknowledgement, confirms_of, counts, first_flight, loads, next, next_delivery, saved_in, saves, start_after, success, takes_memory, taking, uses_store, with_ack, with_answer, with_arrival, with_batch, with_break, with_close, with_crash, with_delivery, with_ledger_closed, with_packet, with_poll, with_progress, with_rewind, with_session, with_start, with_subscription, with_taking, ◌>>=◌}
pub use Rattle.cdc_world.specs.Orderly.{IsOrderly, connector_in}
pub use Rattle.cdc_world.specs.Parts.{ActorParts, Parts, SubscriptionParts, subscription_parts}
pub use Rattle.cdc_world.specs.Refusals.{start_refusal, store_refusal}
pub use Rattle.cdc_world.specs.Runs.{Run, going_on, run_of}
pub use Rattle.cdc_world.specs.Served.{AreQueued, IsQueued, IsServed, queue_at, sent_to}
pub use Rattle.cdc_world.specs.Stands.{ActorsStand, BrokerSide, HaveDelivered, IsDelivered, QueueView, Stands, SubscribersStand, WereDelivered, broker_of, broker_parts, parts_of, queue_for, view_of}
pub use Rattle.cdc_world.specs.Tries.{FailsTimes, HaveTriesCounted, IsStoreCountedPast, MovesPast, NextPast, is_passing}
pub use Rattle.cdc_world.specs.Turns.{ActorsMove, ComesTo, DeliversAt, HasClosed, HasTakenFirst, IsOfActors, Offers, OffersAt, Sends, SendsAt, TakesAt, empty_actors, empty_subscription, place_in}
pub use Rattle.cdc_world.specs.Worlds.{Finds, Subscription, WorldState, new_subscription, new_world, numbered, queue_in, start_of, taken_items, with_numbered}
pub use Rattle.cdc_world.specs.declared.steps.Did.{Did}
pub use Rattle.cdc_world.specs.declared.steps.Did.TheVariants.{Arrived, Counted, Done, Submitted, Took}
pub use Rattle.cdc_world.specs.declared.steps.StepError.{StepError}
pub use Rattle.cdc_world.specs.declared.steps.StepError.TheVariants.{NotEnabled, OutOfMemory, Refused, SessionsExhausted, StartNotAllowed, Store}
pub use Rattle.cdc_world.specs.declared.subscriptions.Subscription.{Subscription as Kept_subscription}
pub use Rattle.std.proofs.Common.{Bool, Err, IsTrue, List, None, Ok, OnOk, Option, Result, Some, [], add-one, ap, append-nil, ap₂, arith, drop, false, get_or, inl, inr, length, map, max, refl, replicate, subst, suc, sym, take, true, vec_len, zero, ℕ, ◌++◌, ◌+◌, ◌-◌, ◌<◌, ◌==◌, ◌∙◌, ◌∷◌, ◌≡◌, ◌≤◌, ◌⊎◌}
pub use Rattle.std.proofs.lemmas.Bool.{cases_Bool, cases_lt, eqb-false, eqb-true}
pub use Rattle.std.proofs.lemmas.List.{append_assoc, drop_more, get_or-take, length-map, length-replicate, length-take, map-set, map_push, take_more}
pub use Rattle.std.proofs.lemmas.List.Elements.{Contains-append_left, Contains-push, Contains-push_cases, filter-append, filter_map-append}
pub use Rattle.std.proofs.lemmas.Option.{cond_some, none-some, same_Some, slice_get-get_or, slice_get-map, slice_get_past, slice_get_read}
pub use Rattle.std.specs.List.{list_any}
pub use Rattle.std.specs.Option.{option_or}
pub use Rattle.std.specs.Prelude.{Contains, MatchResult, if◌then◌else◌, is_ok, is_some, nat_lt, not, ok_or, option_copied, option_map, slice_get, slice_set, unwrap_or, vec_capacity, ◌&&◌, ◌||◌}
