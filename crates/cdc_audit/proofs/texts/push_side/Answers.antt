use Rattle.cdc_audit.proofs.Words.{around, codes, side_name}
use Rattle.cdc_audit.proofs.TextLemmas.{on_ok_then, pieces}
use Rattle.cdc_audit.proofs.texts.push_side.Goals as goal

pub returns : goal.returns
returns c =
    on_ok_then c.push-2.result c.push-2.ensures
    (λ last. pieces _ c.push_around.new.text.items _ (around (codes "account ") c.args.id (codes " has ")) _
    c.in_ok-push_around.ensures
    (pieces _ c.push.new.text.items _ (side_name c.args.side) _ (rw c.name.ensures at c.in_ok-push.ensures) last))
