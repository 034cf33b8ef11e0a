use Rattle.std.proofs.Common.{◌∙◌, ◌++◌, List, ℕ, ap, codes, decimal}
use Rattle.std.specs.Prelude.{string_bytes}
use Rattle.cdc_queue_lines.proofs.LineTexts.{pieces}
use Rattle.cdc_chain.specs.Lines.{line_text}
use Rattle.cdc_chain.proofs.TextLemmas.{end_pieces}
use Rattle.cdc_chain.proofs.lines.push_end.Goals as goal

pub returns : goal.returns
unfolding line_text
returns c =
    let old = string_bytes c.args.text.now in
    pieces old (string_bytes c.push_field.new.text) _ (codes "{\"queue\":" ++ decimal c.args.queue) _
    c.in_ok-push_field.ensures
    (pieces _ (string_bytes c.push_field-2.new.text) _
    (codes ",\"kind\":\"end\",\"previous\":\"" ++ decimal c.args.place) (codes "\",\"end\":true}\n")
    c.in_ok-push_field-2.ensures c.in_ok-push_str.ensures.bytes)
    ∙ ap (λ (line : List ℕ). old ++ line) (end_pieces (decimal c.args.queue) (decimal c.args.place))
