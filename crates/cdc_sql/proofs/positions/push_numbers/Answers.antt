use Rattle.std.specs.Prelude.{◌++◌, codes, decimal}
use Rattle.cdc_sql.proofs.TextLemmas.{on_ok_then, pieces}
use Rattle.cdc_sql.proofs.positions.push_numbers.Goals as goal

pub returns : goal.returns
returns c =
    on_ok_then c.push_named-3.result c.push_named-3.ensures (λ last.
    pieces _ c.push.new.text.items _ (c.args.between.now) _ c.in_ok-push.ensures
    (pieces _ c.push_named.new.text.items _ (codes "seen = " ++ decimal c.args.place.seen) _
    c.in_ok-push_named.ensures
    (pieces _ c.push-2.new.text.items _ (c.args.between.now) _ c.in_ok-push-2.ensures
    (pieces _ c.push_named-2.new.text.items _ (codes "last = " ++ decimal c.args.place.last) _
    c.in_ok-push_named-2.ensures
    (pieces _ c.push-3.new.text.items _ (c.args.between.now) _ c.in_ok-push-3.ensures
    last)))))
