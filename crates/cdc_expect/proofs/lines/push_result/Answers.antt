use Rattle.cdc_expect.specs.Lines.{head_text, kept_text}
use Rattle.cdc_output.proofs.TextLemmas.{pieces}
use Rattle.cdc_expect.proofs.lines.push_result.Goals as goal

pub returns : goal.returns
returns c =
    pieces _ c.push_head.new.text.items _ (head_text c.args.number c.args.name.now) _ c.in_ok-push_head.ensures
    (pieces _ c.push_kept.new.text.items _ (kept_text c.args.kept) _ c.in_ok-push_kept.ensures
    c.in_ok-push.ensures)
