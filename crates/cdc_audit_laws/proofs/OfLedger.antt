-- The terms and lemmas of the ledger that several files use.
pub use Rattle.cdc_ledger.proofs.AcceptedLaws.{Follows-accepted, accepted_account, own_lines}
pub use Rattle.cdc_ledger.proofs.BalanceLaws.{balances-pushed, balances_later, balances_none, holds-settles, released_credit, released_debit, resolved_later, resolved_then, resolves_is, same_balances, settled_by_is, settled_by_none, stores-holds}
pub use Rattle.cdc_ledger.proofs.ChainLaws.{history_after-later, items_from-keeps}
pub use Rattle.cdc_ledger.proofs.Changes.{IsUpTo}
pub use Rattle.cdc_ledger.proofs.DueOrder.{All-in_order, All-insert_by_end, is_sooner-once}
pub use Rattle.cdc_ledger.proofs.Elements.{AllByRecursion-both, AllByRecursion-every, AllByRecursion-weaker, AllByRecursion_push}
pub use Rattle.cdc_ledger.proofs.EventLaws.{events-pushed, events-with_account}
pub use Rattle.cdc_ledger.proofs.KeptLaws.{IsSound-from_legal, after_last, submit_parts, within_end}
pub use Rattle.cdc_ledger.proofs.LegalLaws.{IsLegal-empty, IsLegal-submit, answered_ok}
pub use Rattle.cdc_ledger.proofs.LineLaws.{first_line-append_none, first_line_append_none_parts, test_fails, test_of}
pub use Rattle.cdc_ledger.proofs.OpenedLaws.{opened-with_account, opened-with_account_same, opened_id}
pub use Rattle.cdc_ledger.proofs.PulseLaws.{Follows-open, HaveOwnIds, IsOpen, due_ids, due_open}
pub use Rattle.cdc_ledger.proofs.SoundLaws.{IsSound-empty, IsSound-pushed, IsSound-timed, IsSound-with_account}
pub use Rattle.cdc_ledger.proofs.StoredLaws.{find_all, find_none, is_stored, stored-pushed_kept, stored_each, stored_has}
pub use Rattle.cdc_ledger.specs.Balances.{balances, resolved, resolves, some_by}
pub use Rattle.cdc_ledger.specs.Chains.{Rules, before_others, chains_from, chains_of, history_after, in_front, is_none_left, played, refused_in_chain}
pub use Rattle.cdc_ledger.specs.Changes.{expiry, pushed, timed, with_account}
pub use Rattle.cdc_ledger.specs.Due.{due, in_order_of_end, insert_by_end, is_due, is_sooner}
pub use Rattle.cdc_ledger.specs.Effects.{amount_of, balances_after, balances_after_entry, effect_of, part}
pub use Rattle.cdc_ledger.specs.Events.{event_of, events, nobody, shown_account, shown_transfer}
pub use Rattle.cdc_ledger.specs.Filling.{as_asked, expires_at, filled, filled_by, filled_from, or_own, settled_amount, stored, stored_in}
pub use Rattle.cdc_ledger.specs.Fits.{NewAccountFits, NewTransferFits}
pub use Rattle.cdc_ledger.specs.Follows.{Follows, SettlesOpen}
pub use Rattle.cdc_ledger.specs.History.{History, Opened, empty_history, opened}
pub use Rattle.cdc_ledger.specs.Kinds.{expires, holds, moves, posts, settled_id, settles, stores, voids}
pub use Rattle.cdc_ledger.specs.Sound.{HasAccounts, IsSound}
pub use Rattle.cdc_ledger.specs.Submit.{IsLegal, account_rules, accounts_from, after_batches, answered, base, closed_if, entry_of, expiries_from, history_or, is_past_the_end, is_too_large, items_of, kind_of, opened_by, refusal_at, refusal_of, submit, taken, time, transfer_rules, transfers_from}
pub use Rattle.cdc_ledger.specs.Verdict.{account_refused, is_other, known_account_lines, known_transfer_lines, max_timestamp, plain_lines, settling_lines, sum_lines, transfer_refused}
pub use Rattle.cdc_ledger.specs.declared.errors.BatchError.{BatchError}
