use Rattle.cdc_deliveries.proofs.Words.{List, ap, codes, decimal, string_bytes, ℕ, ◌++◌, ◌∙◌}
use Rattle.cdc_deliveries.proofs.LineTexts.{entry_pieces, pieces}
use Rattle.cdc_deliveries.proofs.expected.push_account.Goals as goal

pub returns : goal.returns
returns c =
    let account = c.args.account.now in
    pieces (string_bytes c.args.text.now) (string_bytes c.push_field.new.text) _
    (codes "{\"id\":\"" ++ decimal account.id) _
    c.in_ok-push_field.ensures
    (pieces _ (string_bytes c.push_field-2.new.text) _
    (codes "\",\"debits_pending\":\"" ++ decimal account.debits_pending) _ c.in_ok-push_field-2.ensures
    (pieces _ (string_bytes c.push_field-3.new.text) _
    (codes "\",\"debits_posted\":\"" ++ decimal account.debits_posted) _ c.in_ok-push_field-3.ensures
    (pieces _ (string_bytes c.push_field-4.new.text) _
    (codes "\",\"credits_pending\":\"" ++ decimal account.credits_pending) _ c.in_ok-push_field-4.ensures
    (pieces _ (string_bytes c.push_field-5.new.text) _
    (codes "\",\"credits_posted\":\"" ++ decimal account.credits_posted) (codes "\"}") c.in_ok-push_field-5.ensures
    c.in_ok-push_str.ensures.bytes))))
    ∙ ap (λ (entry : List ℕ). string_bytes c.args.text.now ++ entry)
    (entry_pieces (decimal account.id) (decimal account.debits_pending) (decimal account.debits_posted)
    (decimal account.credits_pending) (decimal account.credits_posted))
