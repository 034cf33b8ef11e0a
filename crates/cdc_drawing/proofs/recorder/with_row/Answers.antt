use Rattle.cdc_drawing.proofs.RowLemmas.{step_drawn}
use Rattle.cdc_drawing.proofs.recorder.with_row.Goals as goal

pub returns-in-Ok : goal.returns-in-Ok
returns-in-Ok c = λ seen last step did moved has.
    step_drawn c.args.rows c.push.new.self seen last (c.in-Ok.ensures.text last step did moved) c.in-Ok.ensures.count has
