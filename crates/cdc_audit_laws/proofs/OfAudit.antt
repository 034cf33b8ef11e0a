-- The terms and lemmas of the audit that several files use.
pub use Rattle.cdc_audit.proofs.ApartLemmas.{accounts_before-fields, accounts_before-push}
pub use Rattle.cdc_audit.proofs.FirstLemmas.{first_of-all, passing}
pub use Rattle.cdc_audit.specs.Apart.{account_at, accounts_before, apart_lines, has_time, times_before, times_known, times_lines, times_of, together_lines, with_shown}
pub use Rattle.cdc_audit.specs.Audits.{is_accepted}
unfoldable pub use Rattle.cdc_audit.specs.Audits.{follows_on}
pub use Rattle.cdc_audit.specs.EventShapes.{account_lines, asked_account, asked_transfer, is_of_kind, refused_as, shape_lines, stored_lines}
pub use Rattle.cdc_audit.specs.Expiries.{can_expire, expiry_lines, first_due, first_of, goes_first, is_sooner, sooner_of}
pub use Rattle.cdc_audit.specs.Fields.{accounts_of, created_lines, fields_before, fields_lines, fixed_fields, same_lines}
pub use Rattle.cdc_audit.specs.Known.{balances_after, chain_length, chain_length_from, ends_in_chain, is_linked, is_settled, is_stored, last_expiry, last_expiry_from, linked_from, open_event, pending_amount, pending_event, settled_id, settled_id_by}
pub use Rattle.cdc_audit.specs.Limits.{all_credits, all_debits, limit_lines, limits_lines}
pub use Rattle.cdc_audit.specs.Rooms.{after_lines, can_link, is_link, is_link_at, links_before, links_known, links_lines, links_of, own_chain_lines, room_before, room_lines, run_down, run_up, shows_link}
pub use Rattle.cdc_audit.specs.Rules.{balances_lines, chain_lines, credit_lines, debit_lines, fixed_lines, held, order_lines, posted, released, settled_event, transfer_lines}
unfoldable pub use Rattle.cdc_audit.specs.Rules.{refusal}
pub use Rattle.cdc_audit.specs.Settling.{expires_at, has_data_of, is_same_transfer, is_taken_over, settling_lines}
pub use Rattle.cdc_audit.specs.declared.fields.FixedFields.{FixedFields}
pub use Rattle.cdc_audit.specs.declared.refusals.Refusal.{Refusal}
pub use Rattle.cdc_audit.specs.declared.refusals.Refusal.TheVariants.{Balance, NotPending, OtherKind, OtherTimestamp, TransferShape}
