use Rattle.cdc_audit.proofs.Words.{around, codes, decimal, field_name, unless_zero}
use Rattle.cdc_audit.proofs.TextLemmas.{on_ok_then, pieces}
use Rattle.cdc_audit.proofs.texts.push_mismatch.Goals as goal

pub returns : goal.returns
returns c =
    let m = c.args.mismatch.now in
    on_ok_then c.push_unless_zero-2.result c.push_unless_zero-2.ensures
    (λ released. pieces _ c.push_around.new.text.items _ (around (codes "account ") m.account (codes " has ")) _
    c.in_ok-push_around.ensures
    (pieces _ c.push.new.text.items _ (field_name m.field) _ (rw c.name.ensures at c.in_ok-push.ensures)
    (pieces _ c.push_around-2.new.text.items _ (around (codes " ") m.shown (codes ", after ")) _
    c.in_ok-push_around-2.ensures
    (pieces _ c.push_number.new.text.items _ (decimal m.before) _ c.in_ok-push_number.ensures
    (pieces _ c.push_unless_zero.new.text.items _ (unless_zero (codes " and this transfer's ") m.added) _
    c.in_ok-push_unless_zero.ensures released)))))
