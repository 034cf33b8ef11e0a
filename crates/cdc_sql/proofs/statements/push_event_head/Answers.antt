use Rattle.std.specs.Prelude.{codes}
use Rattle.cdc_sql.specs.Statements.{events_table, event_columns}
use Rattle.cdc_sql.proofs.TextLemmas.{on_ok_then, pieces}
use Rattle.cdc_sql.proofs.statements.push_event_head.Goals as goal

pub returns : goal.returns
returns c =
    on_ok_then c.push-4.result c.push-4.ensures (λ last.
    pieces _ c.push.new.text.items _ (codes "INSERT INTO ") _ c.in_ok-push.ensures
    (pieces _ c.push_events_table.new.text.items _ (events_table c.args.name.now.text.items) _
    c.in_ok-push_events_table.ensures
    (pieces _ c.push-2.new.text.items _ (codes " (") _ c.in_ok-push-2.ensures
    (pieces _ c.push-3.new.text.items _ event_columns _ (rw c.event_columns.ensures at c.in_ok-push-3.ensures)
    last))))
