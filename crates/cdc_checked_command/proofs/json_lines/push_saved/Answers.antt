use Rattle.cdc_checked_command.proofs.json_lines.push_saved.Goals as goal

pub returns : goal.returns
returns c = rw (c.into.ensures) at c.push.ensures
