use Rattle.std.specs.Prelude.{◌++◌, codes, decimal}
use Rattle.cdc_output.proofs.TextLemmas.{pieces}
use Rattle.cdc_follow.specs.LineErrors.{line_error_name}
use Rattle.cdc_streams.proofs.forms.push_bad_line.Goals as goal

pub returns : goal.returns
returns c =
    let name = rw c.name.ensures at c.in_ok-push-2.ensures in
    pieces _ c.push_named.new.text.items _ (codes "fault: line " ++ decimal c.args.line) _ c.in_ok-push_named.ensures
    (pieces _ c.push.new.text.items _ (codes ": ") _ c.in_ok-push.ensures
    (pieces _ c.push-2.new.text.items _ (line_error_name c.args.error) _ name c.in_ok-push-3.ensures))
