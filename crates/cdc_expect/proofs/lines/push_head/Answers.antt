use Rattle.std.specs.Prelude.{◌++◌, codes, decimal}
use Rattle.cdc_output.proofs.TextLemmas.{pieces}
use Rattle.cdc_expect.proofs.lines.push_head.Goals as goal

pub returns : goal.returns
returns c =
    pieces _ c.push_named.new.text.items _ (codes "{\"kind\":\"expect\",\"line\":" ++ decimal c.args.number) _
    c.in_ok-push_named.ensures
    (pieces _ c.push.new.text.items _ (codes ",\"result\":\"") _ c.in_ok-push.ensures
    (pieces _ c.push-2.new.text.items _ c.args.name.now _ c.in_ok-push-2.ensures c.in_ok-push-3.ensures))
