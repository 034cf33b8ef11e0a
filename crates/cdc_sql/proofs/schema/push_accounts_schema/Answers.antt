use Rattle.std.specs.Prelude.{codes}
use Rattle.cdc_sql.specs.Schema.{account_schema_columns}
use Rattle.cdc_sql.specs.Statements.{accounts_table}
use Rattle.cdc_sql.proofs.TextLemmas.{on_ok_then, pieces}
use Rattle.cdc_sql.proofs.schema.push_accounts_schema.Goals as goal

pub returns : goal.returns
returns c =
    on_ok_then c.push-3.result c.push-3.ensures (λ last.
    pieces _ c.push.new.text.items _ (codes "CREATE TABLE ") _ c.in_ok-push.ensures
    (pieces _ c.push_accounts_table.new.text.items _ (accounts_table c.args.name.now.text.items) _
    c.in_ok-push_accounts_table.ensures
    (pieces _ c.push-2.new.text.items _ account_schema_columns _
    (rw c.account_schema_columns.ensures at c.in_ok-push-2.ensures)
    (pieces _ c.push_accounts_table-2.new.text.items _ (accounts_table c.args.name.now.text.items) _
    c.in_ok-push_accounts_table-2.ensures
    last))))
