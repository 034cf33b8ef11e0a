use Rattle.cdc_audit_command.proofs.SkipLemmas.{left_out}
use Rattle.cdc_audit_command.proofs.laws.duplicates_are_left_out.Goals as goal

pub returns : goal.returns
returns c = left_out
