-- The terms of std and of specifications that the proofs of this crate share.
pub use Rattle.cdc_audit.specs.Kinds.{holds, stores}
pub use Rattle.cdc_audit.specs.Standing.{AuditorState, IsKnownOf, open_under, stored_under, with_open}
pub use Rattle.cdc_audit.specs.declared.checks.Stored.{Stored}
pub use Rattle.cdc_audit.specs.declared.checks.Stored.TheVariants.{Pending, Plain, Settled}
pub use Rattle.cdc_audit.specs.declared.fields.FixedFields.{FixedFields}
pub use Rattle.cdc_audit_state.specs.Laws.{AuditedEventsFit, AuditsCanBeSaved, AuditsGoOn, PastFits, later_by}
pub use Rattle.cdc_audit_state.specs.Parts.{GivesParts, PartsState, no_parts, parts_of, with_account, with_row}
pub use Rattle.cdc_audit_state.specs.Rows.{GivesRow, IsEventLine, ReadsFields, account_byte, expired_byte, fields_byte, fields_numbers, first_of, open_byte, pending_byte, plain_byte, settled_byte, time_byte}
pub use Rattle.cdc_audit_state.specs.Saveable.{AreDistinct, CanBeSaved, FieldsFit, IsByItsId, RowFits, StoredFits}
pub use Rattle.cdc_audit_state.specs.States.{chain_text, event_line, expiry_rows, fields_line, fields_rows, heading, known_rows, open_rows, row_line, rows_text, state_text, time_line, time_rows, transfer_line, transfer_rows}
pub use Rattle.cdc_audit_state.specs.declared.rows.Row.{Row}
pub use Rattle.cdc_audit_state.specs.declared.rows.Row.TheVariants.{Account, Expired, Fields, Open, Time, Transfer}
pub use Rattle.cdc_codec.specs.ReadBack.{ReadsLine, ReadsNumber}
pub use Rattle.cdc_codec.specs.Texts.{is_in_line, spaced, yes_or_no}
pub use Rattle.cdc_follow.specs.Saved.{AreBook, EntryFits}
pub use Rattle.cdc_message.specs.Bodies.{body, in_quotes, member_text, narrow_member, wide_member}
pub use Rattle.cdc_message.specs.Widths.{AccountFits, EventFits}
pub use Rattle.cdc_subscriber.proofs.BookLemmas.{book_of-push, eqb_same, eqb_swap, neither}
pub use Rattle.cdc_subscriber.specs.Book.{are_distinct, book_of, entry_of, ids_of, is_among, put}
pub use Rattle.cdc_subscriber.specs.Lines.{account_line, subscriber_line, subscriber_text}
pub use Rattle.cdc_subscriber.specs.declared.book.BookEntry.{BookEntry}
pub use Rattle.cdc_types.specs.declared.events.Event.{Event}
pub use Rattle.cdc_types.specs.declared.events.EventAccount.{EventAccount}
pub use Rattle.std.proofs.Common.{Bool, Err, List, None, Ok, Option, Result, Some, [], ap, append-nil, append_assoc, arith, cond, drop, false, inl, inr, length, length-drop, refl, subst, sym, take, true, ℕ, ◌++◌, ◌+◌, ◌<◌, ◌^◌, ◌∙◌, ◌∷◌, ◌≡◌, ◌≢◌}
pub use Rattle.std.proofs.lemmas.Bool.{and_parts, false≢true}
pub use Rattle.std.proofs.lemmas.Bool.Decides.{eqb_tells}
pub use Rattle.std.proofs.lemmas.Grind.{flat_map-append}
pub use Rattle.std.proofs.lemmas.Map.Keys.{IsDistinct-head, IsDistinct-tail}
pub use Rattle.std.proofs.lemmas.Result.{on_ok_weaker}
pub use Rattle.std.specs.List.{AllByRecursion, flat_map, join_with_byte, list_all}
pub use Rattle.std.specs.Map.{keys_of, lookup}
pub use Rattle.std.specs.Prelude.{IsSomeAnd, codes, find, fold, is_some, map, nat_eq, nat_le, not, option_map, ◌&&◌, ◌==◌, ◌||◌}
