-- The words that the files of proofs import from here: those of the library, the types, and the definitions of specs/.
pub use Rattle.cdc_expiry.specs.Triples.{IsLeast, IsNewTimestamp, TimestampsDiffer, Triples, due_at, triple_cmp, without}
pub use Rattle.cdc_expiry.specs.declared.triple.Triple.{Triple}
pub use Rattle.cdc_ledger.specs.Accounts.{HasBoundedSums, event_from, fresh_account, lines_between, no_balances, opened_as, shown_as, shown_in}
pub use Rattle.cdc_ledger.specs.Answers.{Answers}
pub use Rattle.cdc_ledger.specs.Balances.{IsBounded, balances, credit_side, debit_side, held_amount, moved_amount, resolved, resolves, share, some_by}
pub use Rattle.cdc_ledger.specs.BatchErrors.{batch_error_number}
pub use Rattle.cdc_ledger.specs.Chains.{Rules, before_others, chains_from, chains_of, history_after, in_front, is_none_left, items_from, played, refused_in_chain, unvalidated, unvalidated_one}
pub use Rattle.cdc_ledger.specs.Changes.{expiry, pushed, timed, with_account}
pub use Rattle.cdc_ledger.specs.Contents.{Contents}
pub use Rattle.cdc_ledger.specs.Due.{due, in_order_of_end, insert_by_end, is_due, is_sooner}
pub use Rattle.cdc_ledger.specs.Effects.{Effect, account_after, amount_of, effect_by, effect_of, part, settled_by, settled_in}
pub use Rattle.cdc_ledger.specs.EmittedHistory.{IsEmitted}
pub use Rattle.cdc_ledger.specs.Endings.{ended_refusal, ending_among, ending_by, ending_from, ending_of, endings_after, endings_before, endings_of}
pub use Rattle.cdc_ledger.specs.Events.{account_at, account_now, account_with, accounts_now, event_of, events, nobody, shown_account, shown_transfer}
pub use Rattle.cdc_ledger.specs.Filling.{as_asked, expires_at, filled, filled_by, filled_from, or_own, settled_amount, stored, stored_in}
pub use Rattle.cdc_ledger.specs.Fits.{BatchFits, NewAccountFits, NewTransferFits}
pub use Rattle.cdc_ledger.specs.Follows.{Follows, HasRoom, IsDueNext, SettlesOpen}
pub use Rattle.cdc_ledger.specs.History.{History, Opened, empty_history, opened}
pub use Rattle.cdc_ledger.specs.Kinds.{expires, holds, moves, posts, settled_id, settles, stores, voids}
pub use Rattle.cdc_ledger.specs.Movements.{IsMovement, IsPlace, IsPlaced, IsStoredAt, IsValidated, SideFits, Takes, account_ids, accounts_after, credited_account, debited_account, effect_of_movement, settled_transfer}
pub use Rattle.cdc_ledger.specs.OpenTriples.{ends_after, index_of, is_open, open_triples, opens, triple_at, triples_from}
pub use Rattle.cdc_ledger.specs.PlacesById.{PlacesById, account_place, place_of, stored_place}
pub use Rattle.cdc_ledger.specs.Recorded.{AreRecorded, IsLastOpened, IsLastRecorded, IsRecorded, grown, without_account, without_entry}
pub use Rattle.cdc_ledger.specs.Sound.{AreApart, HasAccounts, IsSound, RiseFrom, Settles, Stands, stored_ids}
pub use Rattle.cdc_ledger.specs.Stops.{AreUnrefused, IsStopped, taken_all}
pub use Rattle.cdc_ledger.specs.Submit.{Extends, IsLegal, account_rules, accounts_from, after_batches, answered, base, closed_if, entry_of, expiries_from, history_or, is_past_the_end, is_too_large, items_of, kind_of, opened_by, refusal_at, refusal_of, submit, taken, time, transfer_rules, transfers_from}
pub use Rattle.cdc_ledger.specs.Tables.{IsKept, contents_of, history_of}
pub use Rattle.cdc_ledger.specs.Verdict.{account_refused, field_lines, is_other, is_over, known_account_lines, known_transfer_lines, limit_lines, max_timestamp, overflow_lines, plain_lines, settling_lines, timeout_lines, transfer_lines}
pub use Rattle.cdc_ledger.specs.declared.emitted.Emitted.{Emitted}
pub use Rattle.cdc_ledger.specs.declared.endings.Ending.{Ending}
pub use Rattle.cdc_ledger.specs.declared.endings.Ending.TheVariants.{Open}
pub use Rattle.cdc_ledger.specs.declared.errors.BatchError.{BatchError}
pub use Rattle.cdc_ledger.specs.declared.errors.BatchError.TheVariants.{BatchTooLarge, LedgerClosed, OutOfMemory, TimestampsExhausted}
pub use Rattle.cdc_ledger.specs.declared.movements.Movement.{Movement}
pub use Rattle.cdc_ledger.specs.declared.movements.Pending.{Pending}
pub use Rattle.cdc_ledger.specs.declared.recording.Recorded.{Recorded}
pub use Rattle.cdc_ledger.specs.declared.tables.Tables.TheInside.{Inside}
pub use Rattle.cdc_types.specs.Flags.{is_linked_account, is_linked_transfer, is_pending_request, is_plain_request, is_post_request, is_void_request}
pub use Rattle.cdc_types.specs.Lines.{first_line}
pub use Rattle.cdc_types.specs.Results.{account_number, transfer_number}
pub use Rattle.cdc_types.specs.Shapes.{account_shape_lines, asks_for_two_kinds, transfer_refusal, transfer_shape_lines}
pub use Rattle.cdc_types.specs.Timestamps.{last_timestamp, last_timestamp_from}
pub use Rattle.cdc_types.specs.Widths.{max_128}
pub use Rattle.cdc_types.specs.declared.accounts.Account.{Account}
pub use Rattle.cdc_types.specs.declared.accounts.Balances.{Balances}
pub use Rattle.cdc_types.specs.declared.accounts.NewAccount.{NewAccount}
pub use Rattle.cdc_types.specs.declared.batches.Batch.{Batch}
pub use Rattle.cdc_types.specs.declared.batches.Batch.TheVariants.{Pulse}
pub use Rattle.cdc_types.specs.declared.batches.BatchResults.{BatchResults}
pub use Rattle.cdc_types.specs.declared.batches.BatchResults.TheVariants.{Pulsed}
pub use Rattle.cdc_types.specs.declared.events.Entry.{Entry}
pub use Rattle.cdc_types.specs.declared.events.Event.{Event}
pub use Rattle.cdc_types.specs.declared.events.EventAccount.{EventAccount}
pub use Rattle.cdc_types.specs.declared.events.EventKind.{EventKind}
pub use Rattle.cdc_types.specs.declared.events.EventKind.TheVariants.{SinglePhase, TwoPhaseExpired, TwoPhasePending, TwoPhasePosted, TwoPhaseVoided}
pub use Rattle.cdc_types.specs.declared.results.AccountResult.{AccountResult}
pub use Rattle.cdc_types.specs.declared.results.TransferResult.{TransferResult}
pub use Rattle.cdc_types.specs.declared.transfers.NewTransfer.{NewTransfer}
pub use Rattle.cdc_types.specs.declared.transfers.Transfer.{Transfer}
pub use Rattle.std.proofs.Common.{[], ⊎_elim, ◌++◌, ◌+◌, ◌-◌, ◌<◌, ◌^◌, ◌∙◌, ◌∷◌, ◌≡◌, ◌≢◌, ◌≤◌, ◌⊎◌, Bool, Err, List, None, Ok, Option, Result, Some, add-one, add-zero, ap, append-nil, append_assoc, ap₂, arith, cond, drop, false, get_or, inl, inr, le-leb, length, length-append, length-drop, map, refl, rules, set, subst, suc, sym, take, true, vec_capacity, vec_len, zero, ℕ}
pub use Rattle.std.specs.List.{AllByRecursion, AllPairs, Contains, list_any, position_from, position_or_len}
pub use Rattle.std.specs.Option.{IsSome, is_some, option_copied, option_or}
pub use Rattle.std.specs.Ordering.{is_le}
pub use Rattle.std.specs.Prelude.{◌&&◌, ◌==◌, ◌||◌, All, IfSome, OnOk, filter, find, if◌then◌else◌, nat_le, nat_lt, not, option_map, option_to_list, position, replicate, slice_get, slice_index_or, sum_by, unwrap_or}
pub use Rattle.std.specs.Result.{IfErr, IsErrAnd, IsOk, OnErr}
pub use Rattle.std.specs.Vec.{with_items}
pub use Rattle.std.specs.declared.vec.Vec.{Vec}
