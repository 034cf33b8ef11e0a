use Rattle.cdc_audit.proofs.Words.{[], around, codes, decimal}
use Rattle.cdc_audit.proofs.TextLemmas.{on_ok_then, pieces}
use Rattle.cdc_audit.proofs.texts.push_amount.Goals as goal

pub returns : goal.returns
returns c =
    on_ok_then c.push_number-2.result c.push_number-2.ensures
    (λ held. pieces _ c.push_around.new.text.items _ (around [] c.args.amount (codes " of pending transfer ")) _
    c.in_ok-push_around.ensures
    (pieces _ c.push_number.new.text.items _ (decimal c.args.id) _ c.in_ok-push_number.ensures
    (pieces _ c.push.new.text.items _ (codes ", which holds ") _ c.in_ok-push.ensures held)))
