use Rattle.cdc_commands.proofs.Terms.{body, codes, headers_line, pieces, seconds_of, string_bytes, ◌++◌, ◌≡◌}
use Rattle.cdc_message.specs.Headers.{headers_of_event}
use Rattle.cdc_commands.proofs.event_lines.push_message.Goals as goal

pub returns : goal.returns
returns c =
    let line : string_bytes c.push_headers.new.text
    ≡ string_bytes c.args.text.now ++ headers_line (headers_of_event c.args.event.now) (seconds_of c.args.event.now) =
    rw (c.headers.ensures, c.properties.ensures.timestamp, c.in_ok-message.ensures) at c.in_ok-push_headers.ensures in
    let text : string_bytes c.push_str.new.self ≡ string_bytes c.push_headers.new.text ++ body c.args.event.now =
    rw (c.body.ensures.text, c.in_ok-message.ensures) at c.in_ok-push_str.ensures.bytes in
    pieces _ (string_bytes c.push_headers.new.text) _
    (headers_line (headers_of_event c.args.event.now) (seconds_of c.args.event.now)) (body c.args.event.now
    ++ codes "\n") line
    (pieces _ (string_bytes c.push_str.new.self) _ (body c.args.event.now) (codes "\n") text
    c.in_ok-push_str-2.ensures.bytes)
