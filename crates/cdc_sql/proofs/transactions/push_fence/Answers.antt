use Rattle.std.specs.Prelude.{codes}
use Rattle.cdc_sql.specs.Texts.{book_table, columns_text}
use Rattle.cdc_sql.proofs.TextLemmas.{on_ok_then, pieces}
use Rattle.cdc_sql.proofs.transactions.push_fence.Goals as goal

pub returns : goal.returns
returns c =
    on_ok_then c.push-4.result c.push-4.ensures (λ last.
    pieces _ c.push.new.text.items _ (codes "\nWHERE id = 1 AND ") _ c.in_ok-push.ensures
    (pieces _ c.push_columns.new.text.items _ (columns_text (codes " AND ") c.args.chained c.args.binding.now c.args.before)
    _
    c.in_ok-push_columns.ensures
    (pieces _ c.push-2.new.text.items _ (codes ";\n") _ c.in_ok-push-2.ensures
    (pieces _ c.push-3.new.text.items _ (codes "IF NOT FOUND THEN RAISE '") _
    (rw c.refusal.ensures at c.in_ok-push-3.ensures)
    (pieces _ c.push_book_table.new.text.items _ (book_table c.args.name.now.text.items) _
    c.in_ok-push_book_table.ensures
    last)))))
