use Rattle.cdc_audit.proofs.Words.{around, codes, decimal}
use Rattle.cdc_audit.proofs.TextLemmas.{on_ok_then, pieces}
use Rattle.cdc_audit.proofs.texts.push_expiry.Goals as goal

pub returns : goal.returns
returns c =
    on_ok_then c.push.result c.push.ensures
    (λ last. pieces _ c.push_around.new.text.items _ (around (codes "pending transfer ") c.args.id c.args.between.now) _
    c.in_ok-push_around.ensures
    (pieces _ c.push_number.new.text.items _ (decimal c.args.other) _ c.in_ok-push_number.ensures last))
