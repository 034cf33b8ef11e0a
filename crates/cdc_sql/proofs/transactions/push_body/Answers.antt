use Rattle.cdc_sql.specs.Statements.{accounts_text}
use Rattle.cdc_sql.specs.Texts.{move_text}
use Rattle.cdc_sql.proofs.TextLemmas.{on_ok_then, pieces}
use Rattle.cdc_sql.proofs.transactions.push_body.Goals as goal

pub returns : goal.returns
returns c =
    on_ok_then c.push_events.result c.push_events.ensures (λ last.
    pieces _ c.push_move.new.text.items _
    (move_text c.args.name.now.text.items c.args.chained c.args.binding.now c.args.before c.args.after) _
    c.in_ok-push_move.ensures
    (pieces _ c.push_accounts.new.text.items _
    (accounts_text c.args.name.now.text.items c.args.recent.now.rows.entries) _
    c.in_ok-push_accounts.ensures
    last))
