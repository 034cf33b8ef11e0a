use Rattle.cdc_audit_command.proofs.refusals.push_created.Goals as goal

pub returns : goal.returns
returns c = rw (c.into-2.ensures) at (rw (c.into.ensures) at c.push.ensures)
