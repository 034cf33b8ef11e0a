use Rattle.cdc_deliveries.proofs.Words.{List, ap, body, codes, decimal, headers_of_event, headers_text, seconds_of, string_bytes, ℕ, ◌++◌, ◌∙◌, ◌≡◌}
use Rattle.cdc_deliveries.proofs.LineTexts.{content_pieces, pieces}
use Rattle.cdc_deliveries.proofs.lines.push_message.Goals as goal

pub returns : goal.returns
returns c =
    let event = c.args.event.now in
    let old = string_bytes c.args.text.now in
    let headers : string_bytes c.push_headers.new.text
    ≡ string_bytes c.push_str.new.self ++ headers_text (headers_of_event c.args.event.now) =
    rw (c.headers.ensures, c.in_ok-message.ensures) at c.in_ok-push_headers.ensures in
    let seconds : string_bytes c.push_field.new.text
    ≡ string_bytes c.push_headers.new.text ++ (codes ",\"timestamp\":" ++ decimal (seconds_of c.args.event.now)) =
    rw (c.properties.ensures.timestamp, c.in_ok-message.ensures) at c.in_ok-push_field.ensures in
    let text : string_bytes c.push_str-3.new.self ≡ string_bytes c.push_str-2.new.self ++ body c.args.event.now =
    rw (c.body.ensures.text, c.in_ok-message.ensures) at c.in_ok-push_str-3.ensures.bytes in
    pieces old (string_bytes c.push_str.new.self) _ (codes "\"headers\":") _ c.in_ok-push_str.ensures.bytes
    (pieces _ (string_bytes c.push_headers.new.text) _ (headers_text (headers_of_event event)) _ headers
    (pieces _ (string_bytes c.push_field.new.text) _ (codes ",\"timestamp\":" ++ decimal (seconds_of event)) _ seconds
    (pieces _ (string_bytes c.push_str-2.new.self) _ (codes ",\"body\":") (body event) c.in_ok-push_str-2.ensures.bytes
    text)))
    ∙ ap (λ (content : List ℕ). old ++ content)
    (content_pieces (headers_text (headers_of_event event)) (decimal (seconds_of event)) (body event))
