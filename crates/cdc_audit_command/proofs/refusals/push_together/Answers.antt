use Rattle.cdc_audit_command.proofs.refusals.push_together.Goals as goal

pub returns : goal.returns
returns c = rw (c.into.ensures) at c.push.ensures
