use Rattle.std.specs.Prelude.{codes}
use Rattle.cdc_follow.specs.LineErrors.{line_error_name}
use Rattle.cdc_expect.specs.Lines.{head_text, kept_text}
use Rattle.cdc_output.proofs.TextLemmas.{pieces}
use Rattle.cdc_expect.proofs.lines.push_bad_line.Goals as goal

pub returns : goal.returns
returns c =
    let named = rw c.name.ensures at c.in_ok-push-2.ensures in
    pieces _ c.push_head.new.text.items _ (head_text c.args.number (codes "bad_line")) _ c.in_ok-push_head.ensures
    (pieces _ c.push.new.text.items _ (codes ",\"name\":\"") _ c.in_ok-push.ensures
    (pieces _ c.push-2.new.text.items _ (line_error_name c.args.error) _ named
    (pieces _ c.push-3.new.text.items _ (codes "\"") _ c.in_ok-push-3.ensures
    (pieces _ c.push_kept.new.text.items _ (kept_text c.args.kept) _ c.in_ok-push_kept.ensures
    c.in_ok-push-4.ensures))))
