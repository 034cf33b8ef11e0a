use Rattle.std.specs.Prelude.{codes}
use Rattle.cdc_sql.specs.Schema.{side_schema_columns, transfer_schema_columns}
use Rattle.cdc_sql.specs.Statements.{events_table}
use Rattle.cdc_sql.proofs.TextLemmas.{on_ok_then, pieces}
use Rattle.cdc_sql.proofs.schema.push_events_schema.Goals as goal

pub returns : goal.returns
returns c =
    on_ok_then c.push-6.result c.push-6.ensures (λ last.
    pieces _ c.push.new.text.items _ (codes "CREATE TABLE ") _ c.in_ok-push.ensures
    (pieces _ c.push_events_table.new.text.items _ (events_table c.args.name.now.text.items) _
    c.in_ok-push_events_table.ensures
    (pieces _ c.push-2.new.text.items _ transfer_schema_columns _
    (rw c.transfer_schema_columns.ensures at c.in_ok-push-2.ensures)
    (pieces _ c.push-3.new.text.items _ (side_schema_columns (codes "debit_account")) _
    (rw c.debit_schema_columns.ensures at c.in_ok-push-3.ensures)
    (pieces _ c.push-4.new.text.items _ (side_schema_columns (codes "credit_account")) _
    (rw c.credit_schema_columns.ensures at c.in_ok-push-4.ensures)
    (pieces _ c.push-5.new.text.items _ (codes ");\nCOMMENT ON TABLE ") _ c.in_ok-push-5.ensures
    (pieces _ c.push_events_table-2.new.text.items _ (events_table c.args.name.now.text.items) _
    c.in_ok-push_events_table-2.ensures
    last)))))))
