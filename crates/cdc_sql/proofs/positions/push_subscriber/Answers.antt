use Rattle.std.specs.Prelude.{◌++◌, codes, decimal}
use Rattle.cdc_codec.specs.Texts.{flagged}
use Rattle.cdc_sql.proofs.TextLemmas.{on_ok_then, pieces}
use Rattle.cdc_sql.proofs.positions.push_subscriber.Goals as goal

pub returns : goal.returns
returns c =
    on_ok_then c.push_flagged-2.result c.push_flagged-2.ensures (λ last.
    pieces _ c.push_named.new.text.items _ (codes "\nsubscriber 1 applied " ++ decimal c.args.place.applied) _
    c.in_ok-push_named.ensures
    (pieces _ c.push_named-2.new.text.items _ (codes " last " ++ decimal c.args.place.last) _
    c.in_ok-push_named-2.ensures
    (pieces _ c.push_flagged.new.text.items _ (flagged (codes " ended") c.args.place.ended) _
    c.in_ok-push_flagged.ensures
    last)))
