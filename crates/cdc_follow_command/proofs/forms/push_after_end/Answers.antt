use Rattle.std.specs.Prelude.{◌++◌, codes, decimal}
use Rattle.cdc_output.proofs.TextLemmas.{pieces}
use Rattle.cdc_follow_command.proofs.forms.push_after_end.Goals as goal

pub returns : goal.returns
returns c =
    pieces _ c.push_named.new.text.items _ (codes "after_end: line " ++ decimal c.args.line) _
    c.in_ok-push_named.ensures
    (pieces _ c.push_named-2.new.text.items _ (codes ": ended after " ++ decimal c.args.seen) _
    c.in_ok-push_named-2.ensures c.in_ok-push.ensures)
