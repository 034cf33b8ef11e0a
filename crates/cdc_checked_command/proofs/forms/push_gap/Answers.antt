use Rattle.std.specs.Prelude.{◌++◌, codes, decimal}
use Rattle.cdc_output.proofs.TextLemmas.{pieces}
use Rattle.cdc_audit.specs.Texts.{refusal_text}
use Rattle.cdc_checked_command.proofs.forms.push_gap.Goals as goal

pub returns : goal.returns
returns c =
    pieces _ c.push_named.new.text.items _ (codes "gap: line " ++ decimal c.args.line) _ c.in_ok-push_named.ensures
    (pieces _ c.push.new.text.items _ (codes ": ") _ c.in_ok-push.ensures
    (pieces _ c.push_refusal.new.text.items _ (refusal_text c.args.why) _ c.in_ok-push_refusal.ensures
    c.in_ok-push-2.ensures))
