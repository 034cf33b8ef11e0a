use Rattle.cdc_audit_command.proofs.json_lines.push_refused.Goals as goal

pub returns-in-Balance : goal.returns-in-Balance
returns-in-Balance c =
    rw c.in-Balance.is (rw (c.in-Balance.is) at (rw (c.name-rule.ensures) at c.push_mismatch.ensures))
