use Rattle.cdc_audit.proofs.Words.{around, codes, fixed_name}
use Rattle.cdc_audit.proofs.TextLemmas.{on_ok_then, pieces}
use Rattle.cdc_audit.proofs.texts.push_field.Goals as goal

pub returns : goal.returns
returns c =
    let m = c.args.mismatch.now in
    on_ok_then c.push_number.result c.push_number.ensures
    (λ before. pieces _ c.push_around.new.text.items _ (around (codes "account ") m.account (codes " has ")) _
    c.in_ok-push_around.ensures
    (pieces _ c.push.new.text.items _ (fixed_name m.field) _ (rw c.name.ensures at c.in_ok-push.ensures)
    (pieces _ c.push_around-2.new.text.items _ (around (codes " ") m.shown (codes ", after ")) _
    c.in_ok-push_around-2.ensures before)))
