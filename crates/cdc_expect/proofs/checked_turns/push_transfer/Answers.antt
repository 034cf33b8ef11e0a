use Rattle.std.specs.Prelude.{◌++◌, codes, decimal}
use Rattle.cdc_output.proofs.TextLemmas.{pieces}
use Rattle.cdc_expect.proofs.checked_turns.push_transfer.Goals as goal

pub returns : goal.returns
returns c =
    pieces _ c.push_named.new.text.items _ (codes ",\"transfer\":\"" ++ decimal c.args.transfer) _
    c.in_ok-push_named.ensures c.in_ok-push.ensures
