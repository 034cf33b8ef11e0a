use Rattle.cdc_audit.proofs.Words.{codes, refusal_name}
use Rattle.cdc_audit.specs.Texts.{refusal_text}
use Rattle.cdc_audit.proofs.TextLemmas.{on_ok_then, pieces}
use Rattle.cdc_audit.proofs.texts.push_refusal.Goals as goal

pub returns : goal.returns
unfolding refusal_text
returns c =
    on_ok_then c.push_reason.result c.push_reason.ensures
    (λ reason. pieces _ c.push.new.text.items _ (refusal_name c.args.why.now) _
    (rw c.name.ensures at c.in_ok-push.ensures)
    (pieces _ c.push-2.new.text.items _ (codes ": ") _ c.in_ok-push-2.ensures reason))
