use Rattle.std.proofs.Common.{◌++◌, codes}
use Rattle.std.proofs.lemmas.Result.{on_ok_weaker}
use Rattle.cdc_diagnostics.specs.StepTexts.{step_line}
use Rattle.cdc_drawing.specs.Drawings.{place}
use Rattle.cdc_drawing.specs.Labels.{label}
use Rattle.cdc_drawing.specs.Shapes.{shape}
use Rattle.cdc_drawing.proofs.Joined.{pieces}
use Rattle.cdc_drawing.proofs.rows.push_row.Goals as goal

pub returns : goal.returns
returns c = λ seen step did moved.
    let placed = c.push_place.new.text.items in
    let shaped = c.push_shape.new.text.items in
    let opened = c.push.new.page.items in
    let named = c.push_step.new.text.items in
    let labelled = c.push_label.new.text.items in
    let whole = c.push-2.new.page.items in
    let last_part = codes "</text></g>\n" in
    let label_on = label c.args.moved ++ last_part in
    let step_on = step_line c.args.step.now ++ label_on in
    let text_on = codes "<text x=\"5\">" ++ step_on in
    let shape_on = shape c.args.step.now c.args.did.now ++ text_on in
    rw (step, did, moved) (on_ok_weaker c.push-2.result (λ last.
    pieces c.args.text.now.items placed whole (place c.args.number) shape_on c.in_ok-push_place.ensures
    (pieces placed shaped whole (shape c.args.step.now c.args.did.now) text_on c.in_ok-push_shape.ensures
    (pieces shaped opened whole (codes "<text x=\"5\">") step_on c.in_ok-push.ensures
    (pieces opened named whole (step_line c.args.step.now) label_on c.in_ok-push_step.ensures
    (pieces named labelled whole (label c.args.moved) last_part c.in_ok-push_label.ensures last))))) c.push-2.ensures)
