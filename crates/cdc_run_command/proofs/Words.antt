-- The terms of std and of specifications that the proofs of this crate share.
pub use Rattle.cdc_commands.specs.Outcomes.{IsPrinted, IsWriteFault, Outcome, PrintsFailure, Writes}
pub use Rattle.cdc_commands.specs.Report.{answered_lines, batch_line}
pub use Rattle.cdc_commands.specs.declared.endings.Ending.{Ending}
pub use Rattle.cdc_commands.specs.declared.endings.Ending.TheVariants.{BadScript, BadSteps, BadWords, Done, Failed, Refused}
pub use Rattle.cdc_ledger.specs.History.{History, empty_history}
pub use Rattle.cdc_output.proofs.FoundElements.{drop_found, found_at, take_found}
pub use Rattle.cdc_output.proofs.LineLemmas.{json_lines-append, kept_more, kept_whole}
pub use Rattle.cdc_output.specs.Lines.{json_line, json_lines, kept_values}
pub use Rattle.cdc_output.specs.declared.faults.ProgramFault.{ProgramFault}
pub use Rattle.cdc_progress.specs.Records.{Saved}
pub use Rattle.cdc_progress.specs.Stores.{Risks}
pub use Rattle.cdc_run.specs.Arrival.{Arrival as Received}
pub use Rattle.cdc_run.specs.Made.{AreCloses, made_subscribers}
pub use Rattle.cdc_run.specs.Ran.{RanFrom}
pub use Rattle.cdc_run.specs.Reports.{AreSubscribed, HasRun, deliveries_of, replies_of}
pub use Rattle.cdc_run.specs.declared.configs.Config.{Config}
pub use Rattle.cdc_plans.specs.declared.faults.Faults.{Faults}
pub use Rattle.cdc_run.specs.declared.reports.Report.{Report}
pub use Rattle.cdc_run_command.specs.Arrived.{arrival_after, arrived, arrived_from}
pub use Rattle.cdc_run_command.specs.ClientOrders.{IsOrderOf, times_in}
pub use Rattle.cdc_run_command.specs.Private.Diagnostics.{numbered_values}
pub use Rattle.cdc_run_command.specs.Private.Merging.{HasNext, TakesNext, numbered_lines}
pub use Rattle.cdc_run_command.specs.RunObjects.{reply_values}
pub use Rattle.cdc_run_command.specs.RunPrinted.{RunCommandPrints}
pub use Rattle.cdc_run_command.specs.Runnable.{IsClient, IsRunnable}
pub use Rattle.cdc_run_command.specs.Runs.{AreMerged, HasRunOf, IsPrintedOf, RanBy, RunsTo, Setting, StatesScript, client_count, entries_of, kept_text, own_of, owners_of, reply_lines, scripts_of, setting_of, shares_from}
pub use Rattle.cdc_run_command.specs.declared.failures.RunFailed.{RunFailed}
pub use Rattle.cdc_script.specs.Arguments.{Arguments}
pub use Rattle.cdc_script.specs.Scripts.{Numbered, after_line, at_top, batches_of, bindings_of, lines_of, max_bytes, numbered, script_of, script_of_lines, script_stated, script_with, statements, statements_from}
pub use Rattle.cdc_script.specs.declared.scripts.ClientBatch.{ClientBatch}
pub use Rattle.cdc_script.specs.declared.scripts.Script.{Script}
pub use Rattle.cdc_subscriber.specs.Lines.{subscriber_text}
pub use Rattle.cdc_subscriber.specs.SubscriberState.{SubscriberState}
pub use Rattle.cdc_traffic.specs.declared.requests.Reply.{Reply}
pub use Rattle.cdc_types.specs.declared.batches.Batch.{Batch}
pub use Rattle.cdc_types.specs.declared.bounds.TheConstants.Limits.{CLIENTS, SUBSCRIBERS}
pub use Rattle.std.proofs.Common.{Bool, Err, List, None, Ok, Some, [], ap, append-nil, append_assoc, ap₂, arith, drop, eq-eqb, false, inl, inr, length, map, refl, subst, suc, sym, take, true, zero, ℕ, ◌++◌, ◌+◌, ◌-◌, ◌<◌, ◌∙◌, ◌∷◌, ◌≡◌, ◌≢◌, ◌≤◌}
pub use Rattle.std.proofs.lemmas.Bool.Decides.{eqb_tells, nat_tests}
pub use Rattle.std.proofs.lemmas.List.{drop_all, length-map, length-set, map-append, take_all}
pub use Rattle.std.proofs.lemmas.List.Elements.{All-cons, All-head, All-nil, All-tail, filter-append}
pub use Rattle.std.proofs.lemmas.Option.{get_or_from_slice_get, slice_get-get_or, slice_get-map, slice_get_read, slice_get_within}
pub use Rattle.std.specs.List.{AllZip, cons_option, take_while}
pub use Rattle.std.specs.Option.{option_map}
pub use Rattle.std.specs.Prelude.{All, IfOk, IfSome, Option, Result, codes, cond, filter, find, fold, if◌then◌else◌, max, nat_le, nat_lt, not, slice_get, slice_index_or, slice_set, string_bytes, unwrap_or, vec_len, ◌==◌, ◌||◌, ◌⊎◌}
