use Rattle.std.specs.Prelude.{codes}
use Rattle.cdc_sql.specs.Texts.{position_text}
use Rattle.cdc_sql.proofs.TextLemmas.{on_ok_then, pieces}
use Rattle.cdc_sql.proofs.positions.push_columns.Goals as goal

pub returns : goal.returns
returns c =
    on_ok_then c.push_numbers.result c.push_numbers.ensures (λ last.
    pieces _ c.push.new.text.items _ (codes "position = '") _ c.in_ok-push.ensures
    (pieces _ c.push_position.new.text.items _ (position_text c.args.chained c.args.binding.now c.args.place) _
    c.in_ok-push_position.ensures
    (pieces _ c.push-2.new.text.items _ (codes "'") _ c.in_ok-push-2.ensures
    last)))
