use Rattle.cdc_audit.proofs.Words.{around, codes}
use Rattle.cdc_audit.proofs.TextLemmas.{on_ok_then, pieces}
use Rattle.cdc_audit.proofs.texts.push_invalid.Goals as goal

pub returns : goal.returns
returns c =
    on_ok_then c.push.result c.push.ensures
    (λ name. pieces _ c.push_around.new.text.items _ (around c.args.before.now c.args.id (codes " is invalid: ")) _
    c.in_ok-push_around.ensures name)
