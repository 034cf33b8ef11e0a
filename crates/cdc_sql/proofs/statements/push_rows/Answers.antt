use Rattle.std.proofs.Common.{◌+◌, ◌++◌, ◌≡◌, arith, suc, subst, sym}
use Rattle.cdc_sql.specs.Statements.{account_conflict, lead_text, list_text, row_text}
use Rattle.cdc_sql.proofs.RowsLemmas.{IsRest, none_added, row_added}
use Rattle.cdc_sql.proofs.statements.push_rows.Goals as goal
use Rattle.cdc_sql.proofs.statements.push_rows.Goals.{in-Some+in_ok-push_lead+in_ok-push_row, in_default}

pub rows-preserved : goal.rows-preserved
rows-preserved c =
    let lead = lead_text c.args.head.now account_conflict in
    let entries = c.args.rows.now.entries in
    let place = c.rows.place in
    let whole = c.args.text.now.items ++ list_text lead row_text 0 entries in
    let next : suc place ≡ place + 1 = omega arith in
    elim c.match-row_at.branch [
      | in-Some+in_ok-push_lead+in_ok-push_row w ↦
          rw w.text-is
          (subst (λ n. IsRest lead row_text entries w.push_row.new.text.items n whole) next
          (row_added lead row_text entries place (w.in-Some.id, w.in-Some.row) c.rows.text.items
          w.push_lead.new.text.items w.push_row.new.text.items whole (sym w.in-Some.ensures) c.rows.invariant
          (rw w.account_conflict.ensures at w.in_ok-push_lead.ensures) w.in_ok-push_row.ensures))
      | in_default w ↦
          rw w.text-is
          (subst (λ n. IsRest lead row_text entries c.rows.text.items n whole) next
          (none_added lead row_text entries place c.rows.text.items whole (sym w.in_default.ensures) c.rows.invariant))
    ]
