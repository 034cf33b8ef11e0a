-- The terms of std and of specifications that the proofs of this crate share.
pub use Rattle.cdc_commands.specs.Seen.{Seen}
pub use Rattle.cdc_commands.specs.Simulations.{ActsTo, AnswersTo, Plan, PlaysActs, Stage, at_start, seen_of, step_for}
pub use Rattle.cdc_deliveries.specs.Arrivals.{Arriving, arrivals, arriving, is_closed, nothing_sent, subscriber_of, with_own, with_step, with_taken}
pub use Rattle.cdc_deliveries.specs.DeliveryLines.{content_members, deliveries_from, delivery_line, delivery_text, flag_text, line_of}
pub use Rattle.cdc_deliveries.specs.Expected.{answer_line, changed, entry_text, expected_from, expected_line, item_of, next_placed, result_text}
pub use Rattle.cdc_deliveries.specs.Feeds.{placed, placed_after}
pub use Rattle.cdc_deliveries.specs.Indexes.{Indexes, IsIndexOf}
pub use Rattle.cdc_deliveries.specs.Recorded.{delivery_step, delivery_steps, step_of}
pub use Rattle.cdc_deliveries.specs.Taken.{ArrivesAsTaken, IsArrivalOf, LastOpen, positions_sent, sent_to}
pub use Rattle.cdc_deliveries.specs.declared.arrivals.Arrival.{Arrival}
pub use Rattle.cdc_deliveries.specs.declared.feeds.Placed.{Placed}
pub use Rattle.cdc_deliveries.specs.declared.steps.DeliveryStep.{DeliveryStep}
pub use Rattle.cdc_laws.proofs.ListElements.{Contains-cons_cases, each_from, each_has, none_there, slice_get-behind}
pub use Rattle.cdc_laws.specs.Deliveries.{deliveries, items_in}
pub use Rattle.cdc_ledger.specs.Events.{events}
pub use Rattle.cdc_match.specs.Arguments.{Arguments}
pub use Rattle.cdc_match.specs.Queue.{feed, takes_event, takes_item}
pub use Rattle.cdc_message.specs.Bodies.{body, in_quotes, member_text, narrow_member, object_text}
pub use Rattle.cdc_message.specs.Headers.{headers_of_event}
pub use Rattle.cdc_message.specs.declared.items.Delivery.{Delivery}
pub use Rattle.cdc_message.specs.declared.items.Item.{Item}
pub use Rattle.cdc_queue_lines.specs.Lines.{ended, headers_text, seconds_of}
pub use Rattle.cdc_script.specs.declared.scripts.ClientBatch.{ClientBatch}
pub use Rattle.cdc_script.specs.declared.step_files.Act.{Act}
pub use Rattle.cdc_subscriber.specs.Answers.{answer_to, received_answer}
pub use Rattle.cdc_subscriber.specs.Reception.{Reception, has_ended, kept_of, next as next_reception, nothing}
pub use Rattle.cdc_subscriber.specs.declared.subscriber.Taking.{Taking}
pub use Rattle.cdc_types.specs.Timestamps.{last_timestamp, last_timestamp_from}
pub use Rattle.cdc_types.specs.declared.events.Event.{Event}
pub use Rattle.cdc_types.specs.declared.steps.Step.{Step}
pub use Rattle.cdc_types.specs.declared.steps.Step.TheVariants.{Ack, Answer, Arrive, Break, Close, CloseLedger, Crash, Poll, Publish, Rewind, Save, Send, Start, StartAt, Submit, Take}
pub use Rattle.cdc_world.proofs.NumberedElements.{Contains_numbered, numbered_from, numbered_parts}
pub use Rattle.cdc_world.specs.Cursors.{Cursor, after_ack, rewound}
pub use Rattle.cdc_world.specs.Moved.{delivery_sent, delivery_taken, first_taken, item_name, last_sent, moved}
pub use Rattle.cdc_world.specs.Next.{IsReached, Next, Outcome, first_flight, next, next_delivery, with_ack, with_arrival, with_batch, with_break, with_close, with_delivery, with_rewind, with_session, with_start, with_subscription, with_taking, ◌>>=◌}
pub use Rattle.cdc_world.specs.Worlds.{Subscription, WorldState, new_subscription, numbered, queue_in, start_of, taken_items, with_numbered}
pub use Rattle.cdc_world.specs.declared.moved.ItemName.{ItemName}
pub use Rattle.cdc_world.specs.declared.steps.StepError.{StepError}
pub use Rattle.std.proofs.Common.{Bool, Err, List, None, Ok, Option, Some, [], ap, append-nil, arith, codes, cond, decimal, drop, false, fold, inl, inr, is_some, length, map, max, nat_eq, refl, rules, subst, suc, sym, tests, true, zero, ℕ, ◌&&◌, ◌++◌, ◌+◌, ◌-◌, ◌<◌, ◌==◌, ◌∙◌, ◌∷◌, ◌≡◌, ◌≤◌, ◌⊎◌}
pub use Rattle.std.proofs.lemmas.Bool.{cases_Bool, cases_lt, eq-eqb, eqb-false, eqb-true}
pub use Rattle.std.proofs.lemmas.List.{append_assoc, drop_all, length-append, map_push}
pub use Rattle.std.proofs.lemmas.List.Elements.{All-contains, All-contains_itself, All-filter, Contains-append_cases, Contains-append_left, Contains-append_right, Contains-push, Contains-push_cases, filter_map-append, filter_passes}
pub use Rattle.std.proofs.lemmas.List.Sums.{fold-append, fold_push}
pub use Rattle.std.proofs.lemmas.Option.{slice_get-get_or, slice_get-map}
pub use Rattle.std.specs.List.{AllByRecursion, AllZip, cons_option, join_with_byte, slice_get}
pub use Rattle.std.specs.Option.{option_and_then, option_map, option_or}
pub use Rattle.std.specs.Prelude.{Contains, IfSome, OnOk, Result, filter, if◌then◌else◌, nat_le, nat_lt, slice_set, string_bytes, unwrap_or, ◌||◌}
pub use Rattle.std.specs.declared.alloc.Global.{Global}
pub use Rattle.std.specs.declared.vec.Vec.{Vec}
