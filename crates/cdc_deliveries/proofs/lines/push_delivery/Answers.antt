use Rattle.cdc_deliveries.proofs.Words.{List, ap, codes, content_members, decimal, flag_text, join_with_byte, string_bytes, ℕ, ◌++◌, ◌∙◌, ◌≡◌}
use Rattle.cdc_deliveries.specs.DeliveryLines.{delivery_line}
use Rattle.cdc_deliveries.proofs.LineTexts.{delivery_pieces_of, pieces}
use Rattle.cdc_deliveries.proofs.lines.push_delivery.Goals as goal

pub returns : goal.returns
unfolding delivery_line
returns c =
    let arrival = c.args.arrival in
    let old = string_bytes c.args.text.now in
    let content = join_with_byte 44 (content_members c.args.placed.event) in
    let flag : string_bytes c.push_str-2.new.self
    ≡ string_bytes c.push_str.new.self ++ flag_text c.args.arrival.redelivered =
    rw (c.flag_text.ensures) at c.in_ok-push_str-2.ensures.bytes in
    pieces old (string_bytes c.push_field.new.text) _
    (codes "{\"kind\":\"delivery\",\"delivery\":" ++ decimal c.args.number) _ c.in_ok-push_field.ensures
    (pieces _ (string_bytes c.push_field-2.new.text) _ (codes ",\"position\":" ++ decimal arrival.position) _
    c.in_ok-push_field-2.ensures
    (pieces _ (string_bytes c.push_str.new.self) _ (codes ",\"redelivered\":") _ c.in_ok-push_str.ensures.bytes
    (pieces _ (string_bytes c.push_str-2.new.self) _ (flag_text arrival.redelivered) _ flag
    (pieces _ (string_bytes c.push_field-3.new.text) _ (codes ",\"previous\":\"" ++ decimal c.args.placed.previous) _
    c.in_ok-push_field-3.ensures
    (pieces _ (string_bytes c.push_str-3.new.self) _ (codes "\",") _ c.in_ok-push_str-3.ensures.bytes
    (pieces _ (string_bytes c.push_content.new.text) _ content (codes "}\n") c.in_ok-push_content.ensures
    c.in_ok-push_str-4.ensures.bytes))))))
    ∙ ap (λ (line : List ℕ). old ++ line)
    (delivery_pieces_of (decimal c.args.number) (decimal arrival.position) (flag_text arrival.redelivered)
    (decimal c.args.placed.previous) c.args.placed.event)
