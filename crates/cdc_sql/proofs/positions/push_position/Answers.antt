use Rattle.std.specs.Prelude.{◌++◌, codes, decimal}
use Rattle.cdc_codec.specs.Texts.{flagged}
use Rattle.cdc_sql.proofs.TextLemmas.{on_ok_then, pieces}
use Rattle.cdc_sql.proofs.positions.push_position.Goals as goal

pub returns : goal.returns
returns c =
    on_ok_then c.push_subscriber.result c.push_subscriber.ensures (λ last.
    pieces _ c.push_flagged.new.text.items _ (flagged (codes "book 1 chained") c.args.chained) _
    c.in_ok-push_flagged.ensures
    (pieces _ c.push_named.new.text.items _ (codes " seen " ++ decimal c.args.place.seen) _
    c.in_ok-push_named.ensures
    (pieces _ c.push.new.text.items _ (codes "\nbinding ") _ c.in_ok-push.ensures
    (pieces _ c.push_bytes.new.text.items _ (c.args.binding.now) _ c.in_ok-push_bytes.ensures
    last))))
