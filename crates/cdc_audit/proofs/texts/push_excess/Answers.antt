use Rattle.cdc_audit.proofs.Words.{around, codes, other_side_name, side_name}
use Rattle.cdc_audit.proofs.TextLemmas.{on_ok_then, pieces}
use Rattle.cdc_audit.proofs.texts.push_excess.Goals as goal

pub returns : goal.returns
returns c =
    let x = c.args.excess.now in
    on_ok_then c.push_number.result c.push_number.ensures
    (λ limit. pieces _ c.push_around.new.text.items _ (around (codes "account ") x.account (codes " has ")) _
    c.in_ok-push_around.ensures
    (pieces _ c.push.new.text.items _ (side_name x.side) _ (rw c.name.ensures at c.in_ok-push.ensures)
    (pieces _ c.push_around-2.new.text.items _ (around (codes " of ") x.sum (codes ", above its ")) _
    c.in_ok-push_around-2.ensures
    (pieces _ c.push-2.new.text.items _ (other_side_name x.side) _ (rw c.other_name.ensures at c.in_ok-push-2.ensures)
    (pieces _ c.push-3.new.text.items _ (codes " of ") _ c.in_ok-push-3.ensures limit)))))
