-- The terms of std and of specifications that the proofs of this crate share.
pub use Rattle.cdc_audit.specs.Apart.{account_at, accounts_before, apart_lines, has_time, times_before, times_known, times_lines, times_of, together_lines, with_shown}
pub use Rattle.cdc_audit.specs.Audits.{AuditState, Audited, audited_on, bytes_audited, entry_refusal, event_refusal, is_accepted, lines_audited, next_audit, stop_at, with_event}
pub use Rattle.cdc_audit.specs.Checks.{account_lines, amount_in, balances_lines, fixed_lines, lines, nothing, released, stored_by, transfer_lines, was_settled}
pub use Rattle.cdc_audit.specs.EventShapes.{shape_lines, stored_lines}
pub use Rattle.cdc_audit.specs.Expiries.{apart_line, can_expire, expiry_lines, first_due, first_of, goes_first, late_line, sooner_of}
pub use Rattle.cdc_audit.specs.Fields.{accounts_of, created_lines, fields_before, fields_lines}
pub use Rattle.cdc_audit.specs.Foreign.{audited_event}
pub use Rattle.cdc_audit.specs.Known.{balances_after, chain_length, chain_length_from, ends_in_chain, expiry_or, is_linked, is_settled, is_stored, last_expiry, last_expiry_from, linked_from, open_event, pending_amount, pending_event, settled_id}
pub use Rattle.cdc_audit.specs.Limits.{limits_lines}
pub use Rattle.cdc_audit.specs.Rooms.{after_lines, can_link, is_link, is_link_at, links_before, links_known, links_lines, links_of, own_chain_lines, room_before, room_lines, run_down, run_up}
pub use Rattle.cdc_audit.specs.Rules.{chain_lines, event_lines, held, order_lines, posted, settled_event}
pub use Rattle.cdc_audit.specs.Settling.{expires_at, settling_lines}
pub use Rattle.cdc_audit.specs.Standing.{AreInOrder, AuditorState, IsFirst, IsIndexOf, IsKnownOf, IsLinkIndex, IsOnce, IsTimeIndex, StandsFor, due_cmp, due_of, facts_of, fields_under, is_due, kept_after, links_of_account, next_chain, open_under, room_of, stored_under, times_of_account, with_accounts, with_held, with_open, with_own, with_settled, without_settled}
pub use Rattle.cdc_audit.specs.Stops.{Audits, EndsAs, KeepsFirst, LineLeadsTo, StepLeadsTo}
pub use Rattle.cdc_audit.specs.Texts.{around, field_name, fixed_name, other_side_name, refusal_name, side_name, unless_zero}
pub use Rattle.cdc_audit.specs.declared.checks.Facts.{Facts}
pub use Rattle.cdc_audit.specs.declared.checks.Stored.{Stored}
pub use Rattle.cdc_audit.specs.declared.fields.FixedFields.{FixedFields}
pub use Rattle.cdc_audit.specs.declared.open_ones.Due.{Due}
pub use Rattle.cdc_audit.specs.declared.rooms.Links.{Links}
pub use Rattle.cdc_audit.specs.declared.rooms.Room.{Room}
pub use Rattle.cdc_audit.specs.declared.refusals.Refusal.{Refusal}
pub use Rattle.cdc_audit.specs.declared.refusals.Refusal.TheVariants.{AccountField, AccountShape, AfterEnd, Amount, Balance, BrokenChain, CreatedAtEvent, CreatedLater, CreatedTogether, ExpiresApart, ExpiresLate, KnownId, Limit, LongAccountChain, LongChain, NextIsEvent, NoNext, NoTimeout, NotLater, NotPending, OneAccount, OtherFields, OtherKind, OtherTimestamp, Settled, TooHigh, TooLarge, TooLate, TooSoon, TransferShape}
pub use Rattle.cdc_ledger.proofs.Elements.{AllByRecursion-weaker, AllByRecursion_push}
pub use Rattle.cdc_ledger.specs.Kinds.{holds, settles, stores}
pub use Rattle.cdc_subscriber.specs.Steps.{next_state}
pub use Rattle.cdc_types.specs.Lines.{first_line}
pub use Rattle.cdc_types.specs.Timestamps.{RiseFrom, last_timestamp}
pub use Rattle.cdc_types.specs.Widths.{max_128, max_64}
pub use Rattle.cdc_types.specs.declared.events.Event.{Event}
pub use Rattle.cdc_types.specs.declared.events.EventAccount.{EventAccount}
pub use Rattle.cdc_types.specs.declared.events.EventKind.{EventKind}
pub use Rattle.cdc_types.specs.declared.events.EventKind.TheVariants.{SinglePhase, TwoPhaseExpired, TwoPhasePending, TwoPhasePosted, TwoPhaseVoided}
pub use Rattle.indexmap.specs.IndexMap.{insert_entry}
pub use Rattle.std.proofs.Common.{Bool, Err, List, None, Ok, Option, Result, Some, [], ap, append-nil, append_assoc, ap₂, arith, cond, false, get_or, inl, inr, length, length-append, map, min, refl, subst, suc, sym, take, true, zero, ℕ, ◌++◌, ◌+◌, ◌<◌, ◌∙◌, ◌∷◌, ◌≡◌, ◌≢◌, ◌≤◌}
pub use Rattle.std.proofs.lemmas.Bool.{and_from, and_parts, cases_lt, eq-eqb, eqb-true, false≢true, lt-ltb, ltb-false, ltb-true, ne_eqb, not-true, not_from_false}
pub use Rattle.std.proofs.lemmas.Bool.Decides.{eqb_tells, nat_tests}
pub use Rattle.std.proofs.lemmas.List.Folds.{find-append, list_any-append}
pub use Rattle.std.specs.BTreeSet.{BTreeSet, IsLowerBound, btree_set_len, contains}
pub use Rattle.std.specs.List.{AllByRecursion, flat_map, list_any}
pub use Rattle.std.specs.Map.{lookup}
pub use Rattle.std.specs.Option.{option_or}
pub use Rattle.std.specs.Ordering.{is_eq, is_gt, nat_cmp, ordering_then}
pub use Rattle.std.specs.Prelude.{IfOk, IfSome, IsSome, IsSomeAnd, IsTrue, OnErr, OnOk, codes, decimal, filter, find, fold, if◌then◌else◌, is_none, is_some, nat_eq, nat_le, nat_lt, not, option_map, option_to_list, unwrap_or, ◌&&◌, ◌-◌, ◌==◌, ◌^◌, ◌||◌, ◌↔◌}
pub use Rattle.std.specs.Result.{is_err, is_ok}
