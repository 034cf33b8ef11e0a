-- The terms of std and of specifications that the proofs of this crate share.
pub use Rattle.cdc_broker.specs.Broker.{BrokerState, connected, empty_broker, nobody, published, queue_of, takes_packet, with_queue}
pub use Rattle.cdc_broker.specs.Queues.{QueueState, acknowledged, empty_queue, is_unknown, next_delivery, queued, with_delivery, with_item}
pub use Rattle.cdc_codec.specs.Texts.{spaced}
pub use Rattle.cdc_commands.specs.FaultWords.{IsParsedAs, PrintsAtWord, bytes_at}
pub use Rattle.cdc_commands.specs.Feeds.{kept_by, received_of, receiving, subscribers_text}
pub use Rattle.cdc_commands.specs.JsonValues.{account_result, answered_values, transfer_result}
pub use Rattle.cdc_commands.specs.Messages.{headers_line, kind_header, message_lines, number_header, seconds_of}
pub use Rattle.cdc_commands.specs.Observed.{SawPlan}
pub use Rattle.cdc_commands.specs.Outcomes.{IsPrinted, IsReadFault, IsSimulationFault, IsWriteFault, MayFailScript, Outcome, PrintsFailure, Writes, ending_of, outcome_of, refusal_ending}
pub use Rattle.cdc_commands.specs.Printed.{PrintsScript, answers_to, history_after, history_of, printed_books, printed_messages}
pub use Rattle.cdc_commands.specs.Private.Stages.{AbortsAt, IsAt, SimulationParts}
pub use Rattle.cdc_commands.specs.Private.Takers.{AreFed, TakesDelivery, caught_up, kept_text, receiving_delivery, with_ack, with_taken}
pub use Rattle.cdc_commands.specs.Report.{answered_lines, batch_line, script_fault_line}
pub use Rattle.cdc_commands.specs.Seen.{Seen}
pub use Rattle.cdc_commands.specs.ShownWords.{shown_byte, shown_bytes}
pub use Rattle.cdc_commands.specs.Simulated.{IsGoodScript, PrintsNone, PrintsPlan, ReportsPlan, SimulationInput, of_acts, of_files}
pub use Rattle.cdc_commands.specs.SimulationReports.{ComesTo, IsReportOf}
pub use Rattle.cdc_commands.specs.Simulations.{ActsTo, AnswersTo, Plan, PlaysActs, Simulates, Stage, after_act, at_start, did_answer, progress_line, refusal_line, simulation_text, step_for, steps_line, subscriptions_text}
pub use Rattle.cdc_commands.specs.declared.batches.Answered.{Answered}
pub use Rattle.cdc_commands.specs.declared.endings.Ending.TheVariants.{BadScript, BadSteps, BadWords, Done, Failed, Refused}
pub use Rattle.cdc_commands.specs.declared.output.Output.{Output}
pub use Rattle.cdc_commands.specs.declared.simulations.Simulated.{Simulated}
pub use Rattle.cdc_laws.specs.Faithful.{IsFaithful, applied}
pub use Rattle.cdc_laws.specs.Line.{emitted, feed_of, line, line_after}
pub use Rattle.cdc_ledger.specs.Events.{event_of, events}
pub use Rattle.cdc_ledger.specs.History.{History, empty_history}
pub use Rattle.cdc_match.specs.Arguments.{Arguments}
pub use Rattle.cdc_match.specs.Queue.{feed, queue, takes_event, takes_item}
pub use Rattle.cdc_message.specs.Bodies.{body}
pub use Rattle.cdc_message.specs.declared.items.Delivery.{Delivery}
pub use Rattle.cdc_message.specs.declared.items.Item.{Item}
pub use Rattle.cdc_message.specs.declared.items.Item.TheVariants.{EndMark, Event as OfEvent}
pub use Rattle.cdc_output.proofs.FoundElements.{drop_found, found_at, found_within, take_found}
pub use Rattle.cdc_output.proofs.LineLemmas.{json_lines-append, kept_more, kept_whole}
pub use Rattle.cdc_output.proofs.TextLemmas.{pieces, texts_more}
pub use Rattle.cdc_output.specs.Lines.{json_lines, kept_values, subscriber_values}
pub use Rattle.cdc_output.specs.Private.Sending.{entry_value}
pub use Rattle.cdc_progress.specs.Stores.{Risks, no_risks}
pub use Rattle.cdc_script.specs.Faults.{kind_name, whole_fault}
pub use Rattle.cdc_script.specs.Scripts.{max_bytes, script_of}
pub use Rattle.cdc_script.specs.StepFiles.{acts_of}
pub use Rattle.cdc_script.specs.declared.faults.ScriptFault.{ScriptFault}
pub use Rattle.cdc_script.specs.declared.scripts.ClientBatch.{ClientBatch}
pub use Rattle.cdc_script.specs.declared.scripts.Script.{Script}
pub use Rattle.cdc_script.specs.declared.step_files.Act.{Act}
pub use Rattle.cdc_subscriber.specs.Lines.{subscriber_text}
pub use Rattle.cdc_subscriber.specs.Reception.{Reception, has_ended, kept_of, next, nothing}
pub use Rattle.cdc_subscriber.specs.SubscriberState.{SubscriberState}
pub use Rattle.cdc_types.specs.Results.{account_number, transfer_number}
pub use Rattle.cdc_types.specs.Widths.{max_64}
pub use Rattle.cdc_types.specs.declared.events.Event.{Event}
pub use Rattle.cdc_types.specs.declared.steps.Step.{Step}
pub use Rattle.cdc_world.specs.Next.{IsReached, Leads, Next, NextOver}
pub use Rattle.cdc_world.specs.Parts.{Parts}
pub use Rattle.cdc_world.specs.Stands.{Stands}
pub use Rattle.cdc_world.specs.Worlds.{Subscription, WorldState, numbered, start_of}
pub use Rattle.cdc_world.specs.declared.steps.StepError.{StepError}
pub use Rattle.std.proofs.Common.{Bool, Err, List, None, Ok, Some, [], ap, append-nil, append_assoc, ap₂, arith, codes, drop, false, get_or, inl, inr, length, map, max, refl, rules, subst, suc, sym, take, true, zero, ℕ, ◌++◌, ◌+◌, ◌-◌, ◌<◌, ◌^◌, ◌∙◌, ◌∷◌, ◌≡◌, ◌≤◌, ◌⊎◌}
pub use Rattle.std.proofs.lemmas.Bool.{cases_lt, false≢true, le-ltb, lt-ltb}
pub use Rattle.std.proofs.lemmas.Bool.Decides.{nat_tests}
pub use Rattle.std.proofs.lemmas.List.{drop_all, drop_more, get_or-set_same, length-map, length-set, length_push, map-append, map_push, set-set, take_all, take_more, with_items_is}
pub use Rattle.std.proofs.lemmas.List.Elements.{All-cons, All-nil, filter-append}
pub use Rattle.std.proofs.lemmas.Option.{get_or_from_slice_get, same_Some, slice_get-get_or, slice_get-map, slice_get_cases, slice_get_past, slice_get_read, slice_get_within, unwrap_or-slice_get}
pub use Rattle.std.proofs.lemmas.Result.{IfErr-weaker, IfOk-weaker, on_err_weaker}
pub use Rattle.std.specs.List.{AllByRecursion, flat_map, slice_get}
pub use Rattle.std.specs.Prelude.{All, IfErr, IfOk, IfSome, IsSomeAnd, OnErr, Option, Result, filter, if◌then◌else◌, is_some, min, nat_lt, not, option_map, slice_index, slice_set, string_bytes, unwrap_or, ◌==◌, ◌||◌}
pub use Rattle.std.specs.Str.{IsUtf8}
