use Rattle.std.specs.Prelude.{◌++◌, codes, decimal, unwrap_or}
use Rattle.cdc_output.proofs.TextLemmas.{pieces}
use Rattle.cdc_follow_command.proofs.forms.push_gap.Goals as goal

pub returns : goal.returns
returns c =
    let after = rw c.unwrap_or.ensures at c.in_ok-push_named-2.ensures in
    pieces _ c.push_named.new.text.items _ (codes "gap: line " ++ decimal c.args.line) _ c.in_ok-push_named.ensures
    (pieces _ c.push_named-2.new.text.items _ (codes ": after " ++ decimal (unwrap_or c.args.entry.previous 0)) _ after
    (pieces _ c.push_named-3.new.text.items _ (codes ", expected after " ++ decimal c.args.seen) _
    c.in_ok-push_named-3.ensures c.in_ok-push.ensures))
