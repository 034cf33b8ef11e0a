use Rattle.std.specs.Prelude.{codes}
use Rattle.cdc_sql.specs.Texts.{book_table, columns_text}
use Rattle.cdc_sql.proofs.TextLemmas.{on_ok_then, pieces}
use Rattle.cdc_sql.proofs.transactions.push_move.Goals as goal

pub returns : goal.returns
returns c =
    on_ok_then c.push_fence.result c.push_fence.ensures (λ last.
    pieces _ c.push.new.text.items _ (codes "BEGIN;\nDO $$BEGIN\nUPDATE ") _ c.in_ok-push.ensures
    (pieces _ c.push_book_table.new.text.items _ (book_table c.args.name.now.text.items) _
    c.in_ok-push_book_table.ensures
    (pieces _ c.push-2.new.text.items _ (codes " SET ") _ c.in_ok-push-2.ensures
    (pieces _ c.push_columns.new.text.items _ (columns_text (codes ", ") c.args.chained c.args.binding.now c.args.after)
    _
    c.in_ok-push_columns.ensures
    last))))
