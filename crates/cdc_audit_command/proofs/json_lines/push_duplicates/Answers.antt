use Rattle.cdc_audit_command.proofs.json_lines.push_duplicates.Goals as goal

pub returns-in-Some : goal.returns-in-Some
returns-in-Some c = rw c.in-Some.is c.push.ensures
