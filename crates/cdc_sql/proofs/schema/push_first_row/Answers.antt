use Rattle.std.specs.Prelude.{◌++◌, codes, decimal}
use Rattle.cdc_sql.specs.Texts.{book_table, position_text}
use Rattle.cdc_sql.proofs.TextLemmas.{on_ok_then, pieces}
use Rattle.cdc_sql.proofs.schema.push_first_row.Goals as goal

pub returns : goal.returns
returns c =
    on_ok_then c.push-3.result c.push-3.ensures (λ last.
    pieces _ c.push.new.text.items _ (codes "INSERT INTO ") _ c.in_ok-push.ensures
    (pieces _ c.push_book_table.new.text.items _ (book_table c.args.name.now.text.items) _
    c.in_ok-push_book_table.ensures
    (pieces _ c.push-2.new.text.items _ (codes " (id, position, seen, last, applied) VALUES (1, '") _
    c.in_ok-push-2.ensures
    (pieces _ c.push_position.new.text.items _ (position_text c.args.chained c.args.binding.now c.args.place) _
    c.in_ok-push_position.ensures
    (pieces _ c.push_named.new.text.items _ (codes "', " ++ decimal c.args.place.seen) _
    c.in_ok-push_named.ensures
    (pieces _ c.push_named-2.new.text.items _ (codes ", " ++ decimal c.args.place.last) _
    c.in_ok-push_named-2.ensures
    (pieces _ c.push_named-3.new.text.items _ (codes ", " ++ decimal c.args.place.applied) _
    c.in_ok-push_named-3.ensures
    last)))))))
