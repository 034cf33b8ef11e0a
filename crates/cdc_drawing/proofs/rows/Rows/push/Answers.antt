use Rattle.std.proofs.Common.{◌≡◌, ◌++◌, List, ℕ, OnOk, subst}
use Rattle.cdc_drawing.specs.Drawings.{row}
use Rattle.cdc_drawing.proofs.rows.Rows.push.Goals as goal

pub returns-clause-text : goal.returns-clause-text
returns-clause-text c = λ seen step did moved.
    subst (λ (n : ℕ). OnOk c.push_row.result (c.push_row.new.text.items ≡ c.args.self.now.text.items ++ row n seen))
    c.in_ok-number.ensures (c.push_row.ensures seen step did moved)
