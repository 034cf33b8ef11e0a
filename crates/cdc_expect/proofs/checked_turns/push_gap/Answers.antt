use Rattle.std.specs.Prelude.{codes}
use Rattle.cdc_audit.specs.Texts.{refusal_name}
use Rattle.cdc_expect.specs.Checked.{refusal_text}
use Rattle.cdc_expect.specs.Lines.{head_text, kept_text}
use Rattle.cdc_output.proofs.TextLemmas.{pieces}
use Rattle.cdc_expect.proofs.checked_turns.push_gap.Goals as goal

pub returns : goal.returns
returns c =
    let named = rw c.name.ensures at c.in_ok-push-2.ensures in
    pieces _ c.push_head.new.text.items _ (head_text c.args.number (codes "gap")) _ c.in_ok-push_head.ensures
    (pieces _ c.push.new.text.items _ (codes ",\"rule\":\"") _ c.in_ok-push.ensures
    (pieces _ c.push-2.new.text.items _ (refusal_name c.args.why) _ named
    (pieces _ c.push-3.new.text.items _ (codes "\"") _ c.in_ok-push-3.ensures
    (pieces _ c.push_refusal.new.text.items _ (refusal_text c.args.why) _ c.in_ok-push_refusal.ensures
    (pieces _ c.push_kept.new.text.items _ (kept_text c.args.kept) _ c.in_ok-push_kept.ensures
    c.in_ok-push-4.ensures)))))
