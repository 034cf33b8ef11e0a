use Rattle.std.proofs.Common.{◌++◌}
use Rattle.cdc_sql.specs.Statements.{account_conflict, lead_text, list_text, row_text}
use Rattle.cdc_sql.proofs.RowsLemmas.{IsRest}
use Rattle.cdc_sql.proofs.statements.push_rows.Given as goal

-- the other rows are to be added
abbrev pub invariant-rows : goal.invariant-rows
invariant-rows l =
    let lead = lead_text l.head account_conflict in
    IsRest lead row_text l.rows.entries l.text.items l.place
    (l.initial.text.items ++ list_text lead row_text 0 l.rows.entries)
