use Rattle.std.proofs.Common.{◌∙◌, ◌++◌, List, ℕ, ap, codes, decimal}
use Rattle.std.specs.Prelude.{string_bytes}
use Rattle.cdc_message.specs.Kinds.{kind_text}
use Rattle.cdc_queue_lines.proofs.LineTexts.{header_pieces, pieces}
use Rattle.cdc_queue_lines.proofs.lines.push_headers.Goals as goal

pub returns : goal.returns
returns c =
    let headers = c.args.headers in
    pieces (string_bytes c.args.text.now) (string_bytes c.push_str.new.self) _ (codes "{\"event_type\":\"") _
    c.in_ok-push_str.ensures.bytes
    (pieces _ (string_bytes c.push_str-2.new.self) _ (kind_text headers.kind) _
    (rw (← c.kind_text.ensures) c.in_ok-push_str-2.ensures.bytes)
    (pieces _ (string_bytes c.push_field.new.text) _ (codes "\",\"ledger\":" ++ decimal headers.ledger) _
    c.in_ok-push_field.ensures
    (pieces _ (string_bytes c.push_field-2.new.text) _
    (codes ",\"transfer_code\":" ++ decimal headers.transfer_code) _ c.in_ok-push_field-2.ensures
    (pieces _ (string_bytes c.push_field-3.new.text) _
    (codes ",\"debit_account_code\":" ++ decimal headers.debit_account_code) _ c.in_ok-push_field-3.ensures
    (pieces _ (string_bytes c.push_field-4.new.text) _
    (codes ",\"credit_account_code\":" ++ decimal headers.credit_account_code) (codes "}")
    c.in_ok-push_field-4.ensures c.in_ok-push_str-3.ensures.bytes)))))
    ∙ ap (λ (text : List ℕ). string_bytes c.args.text.now ++ text)
    (header_pieces (kind_text headers.kind) (decimal headers.ledger) (decimal headers.transfer_code)
    (decimal headers.debit_account_code) (decimal headers.credit_account_code))
