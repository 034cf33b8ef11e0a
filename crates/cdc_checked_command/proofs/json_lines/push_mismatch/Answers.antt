use Rattle.cdc_checked_command.proofs.json_lines.push_mismatch.Goals as goal

pub returns : goal.returns
returns c = rw (c.name.ensures) at c.push.ensures
