use Rattle.cdc_sql.specs.Schema.{accounts_schema, book_schema, create_schema}
use Rattle.cdc_sql.proofs.TextLemmas.{on_ok_then, pieces}
use Rattle.cdc_sql.proofs.schema.push_tables.Goals as goal

pub returns : goal.returns
returns c =
    on_ok_then c.push_events_schema_if.result c.push_events_schema_if.ensures (λ last.
    pieces _ c.push_create.new.text.items _ (create_schema c.args.name.now.text.items) _
    c.in_ok-push_create.ensures
    (pieces _ c.push_book_schema.new.text.items _ (book_schema c.args.name.now.text.items) _
    c.in_ok-push_book_schema.ensures
    (pieces _ c.push_accounts_schema.new.text.items _ (accounts_schema c.args.name.now.text.items) _
    c.in_ok-push_accounts_schema.ensures
    last)))
