use Rattle.std.specs.Prelude.{◌++◌, codes, decimal}
use Rattle.cdc_message.specs.Kinds.{kind_text}
use Rattle.cdc_sql.specs.Statements.{account_numbers, numbers_text, transfer_numbers}
use Rattle.cdc_sql.proofs.TextLemmas.{on_ok_then, pieces}
use Rattle.cdc_sql.proofs.statements.push_event.Goals as goal

pub returns : goal.returns
returns c =
    let e = c.args.event.now in
    on_ok_then c.push-3.result c.push-3.ensures (λ last.
    pieces _ c.push.new.text.items _ (codes "('") _ c.in_ok-push.ensures
    (pieces _ c.push-2.new.text.items _ (kind_text e.kind) _ (rw c.kind_text.ensures at c.in_ok-push-2.ensures)
    (pieces _ c.push_named.new.text.items _ (codes "', " ++ decimal e.timestamp) _ c.in_ok-push_named.ensures
    (pieces _ c.push_named-2.new.text.items _ (codes ", " ++ decimal e.ledger) _ c.in_ok-push_named-2.ensures
    (pieces _ c.push_transfer.new.text.items _ (numbers_text (transfer_numbers e.transfer)) _
    c.in_ok-push_transfer.ensures
    (pieces _ c.push_account.new.text.items _ (numbers_text (account_numbers e.debit_account)) _
    c.in_ok-push_account.ensures
    (pieces _ c.push_account-2.new.text.items _ (numbers_text (account_numbers e.credit_account)) _
    c.in_ok-push_account-2.ensures
    last)))))))
