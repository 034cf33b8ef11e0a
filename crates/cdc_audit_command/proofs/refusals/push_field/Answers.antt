use Rattle.cdc_audit_command.proofs.refusals.push_field.Goals as goal

pub returns : goal.returns
returns c = rw (c.name.ensures) at c.push.ensures
