use Rattle.std.proofs.Common.{◌∙◌, List, ℕ, ap}
use Rattle.cdc_page.specs.Pages.{page_text}
use Rattle.cdc_page.proofs.page.recorded_page.Goals as goal

pub returns-in-Ok : goal.returns-in-Ok
returns-in-Ok c = λ seen has.
    let frame = c.args.frame in
    let labels = c.args.labels in
    c.in-Ok.ensures
    ∙ ap (λ (steps : List ℕ). page_text frame.before.now labels.name.now labels.refusal.now labels.trace.now
    labels.window steps frame.after.now) (c.as_slice.ensures.value ∙ has.0)
