use Rattle.std.proofs.Common.{◌≡◌, ◌∙◌, ◌++◌, List, ℕ, ap, codes, decimal}
use Rattle.std.specs.Prelude.{string_bytes}
use Rattle.cdc_message.specs.Bodies.{body}
use Rattle.cdc_message.specs.Headers.{headers_of_event}
use Rattle.cdc_queue_lines.specs.Lines.{headers_text, seconds_of}
use Rattle.cdc_queue_lines.proofs.LineTexts.{pieces}
use Rattle.cdc_chain.specs.Lines.{line_text}
use Rattle.cdc_chain.proofs.TextLemmas.{message_pieces}
use Rattle.cdc_chain.proofs.lines.push_message.Goals as goal

pub returns : goal.returns
unfolding line_text
returns c =
    let event = c.args.message.now in
    let old = string_bytes c.args.text.now in
    let queue = decimal c.args.queue.queue in
    let previous = decimal c.args.queue.previous in
    let headers : string_bytes c.push_headers.new.text
    ≡ string_bytes c.push_str.new.self ++ headers_text (headers_of_event c.args.message.now) =
    rw c.headers.ensures at c.in_ok-push_headers.ensures in
    let seconds : string_bytes c.push_field-3.new.text
    ≡ string_bytes c.push_headers.new.text ++ (codes ",\"timestamp\":" ++ decimal (seconds_of c.args.message.now)) =
    rw c.properties.ensures.timestamp at c.in_ok-push_field-3.ensures in
    let text : string_bytes c.push_str-3.new.self ≡ string_bytes c.push_str-2.new.self ++ body c.args.message.now =
    rw c.body.ensures.text at c.in_ok-push_str-3.ensures.bytes in
    pieces old (string_bytes c.push_field.new.text) _ (codes "{\"queue\":" ++ queue) _ c.in_ok-push_field.ensures
    (pieces _ (string_bytes c.push_field-2.new.text) _ (codes ",\"kind\":\"message\",\"previous\":\"" ++ previous) _
    c.in_ok-push_field-2.ensures
    (pieces _ (string_bytes c.push_str.new.self) _ (codes "\",\"headers\":") _ c.in_ok-push_str.ensures.bytes
    (pieces _ (string_bytes c.push_headers.new.text) _ (headers_text (headers_of_event event)) _ headers
    (pieces _ (string_bytes c.push_field-3.new.text) _ (codes ",\"timestamp\":" ++ decimal (seconds_of event)) _ seconds
    (pieces _ (string_bytes c.push_str-2.new.self) _ (codes ",\"body\":") _ c.in_ok-push_str-2.ensures.bytes
    (pieces _ (string_bytes c.push_str-3.new.self) _ (body event) (codes "}\n") text
    c.in_ok-push_str-4.ensures.bytes))))))
    ∙ ap (λ (line : List ℕ). old ++ line)
    (message_pieces queue previous (headers_text (headers_of_event event)) (decimal (seconds_of event)) (body event))
