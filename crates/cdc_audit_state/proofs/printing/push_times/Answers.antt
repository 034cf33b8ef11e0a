use Rattle.cdc_audit_state.proofs.Words.{ap, on_ok_weaker, sym, ◌++◌, ◌∙◌}
use Rattle.cdc_audit_state.proofs.PrintingLemmas.{times_text}
use Rattle.cdc_audit_state.proofs.printing.push_times.Goals as goal

pub returns : goal.returns
returns c =
    on_ok_weaker c.push_time_lines.result
    (λ is. is ∙ ap (λ text. c.args.text.now.items ++ text) (sym (times_text c.args.times.now)))
    c.push_time_lines.ensures
