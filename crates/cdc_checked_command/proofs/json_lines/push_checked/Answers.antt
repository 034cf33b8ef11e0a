use Rattle.cdc_checked_command.proofs.json_lines.push_checked.Goals as goal

pub returns : goal.returns
returns c =
    rw c.applied_count.ensures at (rw c.last.ensures at (rw c.ended.ensures at (rw c.into.ensures at c.push.ensures)))
