use Rattle.cdc_commands.proofs.json_form.batches.push_refused.Goals as goal

pub returns : goal.returns
returns c = rw (c.into.ensures, c.number.ensures, c.name.ensures) at c.push.ensures
