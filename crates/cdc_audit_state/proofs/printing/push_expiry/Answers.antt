use Rattle.cdc_audit_state.proofs.Words.{ap, append-nil, codes, event_line, expiry_rows, on_ok_weaker, rows_text, sym, ◌++◌, ◌∙◌}
use Rattle.cdc_audit_state.specs.States.{row_line}
use Rattle.cdc_audit_state.proofs.printing.push_expiry.Goals as goal

pub returns-in-Some : goal.returns-in-Some
unfolding row_line
returns-in-Some c =
    on_ok_weaker c.push_event.result
    (λ is. is ∙ ap (λ text. c.args.text.now.items ++ text)
    (sym (append-nil (event_line (codes "expired ") c.in-Some.event))
    ∙ ap (λ expired. rows_text (expiry_rows expired)) (sym c.in-Some.is)))
    c.push_event.ensures
