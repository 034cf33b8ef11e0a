use Rattle.cdc_commands.proofs.json_form.faults.push_fault.Goals as goal

pub returns : goal.returns
returns c = rw (c.name.ensures) at c.push.ensures
