use Rattle.cdc_consume_command.proofs.forms.push_end.Goals as goal

pub returns : goal.returns
returns c = rw c.into.ensures at c.push.ensures
