use Rattle.cdc_diagnostics.proofs.Words.{Bool, [], ap, append-nil, diagram_head, diagram_text, if_asked, sym, ◌∙◌}
use Rattle.cdc_diagnostics.proofs.recordings.head.Goals as goal

-- a diagram of no steps is its head
pub returns-then-is_asked : goal.returns-then-is_asked
returns-then-is_asked c kept =
    c.begin.ensures [] c.new-diagram.ensures kept
    ∙ (sym (append-nil (diagram_head c.args.subscribers))
    ∙ ap (λ (asked : Bool). if_asked asked (diagram_text c.args.subscribers [])) (sym c.if-is_asked.true))
