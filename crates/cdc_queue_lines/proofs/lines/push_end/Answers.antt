use Rattle.std.proofs.Common.{◌∙◌, ◌++◌, List, ℕ, ap, codes, decimal}
use Rattle.std.specs.Prelude.{string_bytes}
use Rattle.cdc_queue_lines.specs.Lines.{end_line}
use Rattle.cdc_queue_lines.proofs.LineTexts.{end_pieces, pieces}
use Rattle.cdc_queue_lines.proofs.lines.push_end.Goals as goal

pub returns : goal.returns
unfolding end_line
returns c =
    pieces (string_bytes c.args.text.now) (string_bytes c.push_field.new.text) _
    (codes "{\"kind\":\"end\",\"previous\":\"" ++ decimal c.args.previous) (codes "\",\"end\":true}\n")
    c.in_ok-push_field.ensures c.in_ok-push_str.ensures.bytes
    ∙ ap (λ (line : List ℕ). string_bytes c.args.text.now ++ line) (end_pieces (decimal c.args.previous))
