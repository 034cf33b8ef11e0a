use Rattle.std.specs.Prelude.{codes}
use Rattle.cdc_sql.specs.Texts.{book_table}
use Rattle.cdc_sql.proofs.TextLemmas.{on_ok_then, pieces}
use Rattle.cdc_sql.proofs.transactions.push_report.Goals as goal

pub returns : goal.returns
returns c =
    on_ok_then c.push_end_if.result c.push_end_if.ensures (λ last.
    pieces _ c.push.new.text.items _ (codes "SELECT ('saved ' || seen) FROM ") _ c.in_ok-push.ensures
    (pieces _ c.push_book_table.new.text.items _ (book_table c.args.name.now.text.items) _
    c.in_ok-push_book_table.ensures
    (pieces _ c.push-2.new.text.items _ (codes " WHERE id = 1;\n") _ c.in_ok-push-2.ensures
    last)))
