use Rattle.std.specs.Prelude.{◌++◌, codes, decimal}
use Rattle.cdc_output.proofs.TextLemmas.{pieces}
use Rattle.cdc_expect.proofs.lines.push_kept.Goals as goal

pub returns : goal.returns
returns c =
    pieces _ c.push_named.new.text.items _ (codes ",\"applied\":" ++ decimal c.args.kept.applied) _
    c.in_ok-push_named.ensures
    (pieces _ c.push_named-2.new.text.items _ (codes ",\"last\":\"" ++ decimal c.args.kept.last) _
    c.in_ok-push_named-2.ensures c.in_ok-push.ensures)
