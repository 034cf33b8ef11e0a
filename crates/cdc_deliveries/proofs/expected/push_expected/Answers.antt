use Rattle.cdc_deliveries.proofs.Words.{List, ap, changed, codes, decimal, entry_text, join_with_byte, map, result_text, string_bytes, ℕ, ◌++◌, ◌∙◌, ◌≡◌}
use Rattle.cdc_deliveries.specs.Expected.{expected_line}
use Rattle.cdc_deliveries.proofs.LineTexts.{expected_pieces, pieces}
use Rattle.cdc_deliveries.proofs.expected.push_expected.Goals as goal

pub returns : goal.returns
unfolding expected_line
returns c =
    let kept = c.args.subscriber.now in
    let old = string_bytes c.args.text.now in
    let entries = join_with_byte 44 (map entry_text (changed c.args.answer c.args.placed.event)) in
    let result : string_bytes c.push_str-2.new.self ≡ string_bytes c.push_str.new.self ++ result_text c.args.answer =
    rw (c.result_text.ensures) at c.in_ok-push_str-2.ensures.bytes in
    let applied : string_bytes c.push_field-2.new.text
    ≡ string_bytes c.push_str-2.new.self ++ (codes "\",\"applied\":" ++ decimal c.args.subscriber.now.applied) =
    rw (c.applied_count.ensures) at c.in_ok-push_field-2.ensures in
    let last : string_bytes c.push_field-3.new.text
    ≡ string_bytes c.push_field-2.new.text ++ (codes ",\"last\":\"" ++ decimal c.args.subscriber.now.last) =
    rw (c.last.ensures) at c.in_ok-push_field-3.ensures in
    pieces old (string_bytes c.push_field.new.text) _
    (codes "{\"kind\":\"expect\",\"delivery\":" ++ decimal c.args.number) _
    c.in_ok-push_field.ensures
    (pieces _ (string_bytes c.push_str.new.self) _ (codes ",\"result\":\"") _ c.in_ok-push_str.ensures.bytes
    (pieces _ (string_bytes c.push_str-2.new.self) _ (result_text c.args.answer) _ result
    (pieces _ (string_bytes c.push_field-2.new.text) _ (codes "\",\"applied\":" ++ decimal kept.applied) _ applied
    (pieces _ (string_bytes c.push_field-3.new.text) _ (codes ",\"last\":\"" ++ decimal kept.last) _ last
    (pieces _ (string_bytes c.push_str-3.new.self) _ (codes "\",\"accounts\":[") _ c.in_ok-push_str-3.ensures.bytes
    (pieces _ (string_bytes c.push_changed.new.text) _ entries (codes "]}\n") c.in_ok-push_changed.ensures
    c.in_ok-push_str-4.ensures.bytes))))))
    ∙ ap (λ (line : List ℕ). old ++ line)
    (expected_pieces (decimal c.args.number) (result_text c.args.answer) (decimal kept.applied) (decimal kept.last)
    entries)
