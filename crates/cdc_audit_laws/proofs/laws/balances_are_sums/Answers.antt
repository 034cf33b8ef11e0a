use Rattle.cdc_audit_laws.proofs.Sums.{balances_are_sums, what_is_left_out_moved_nothing}
use Rattle.cdc_audit_laws.proofs.laws.balances_are_sums.Goals as goal

pub returns-clause-sums : goal.returns-clause-sums
returns-clause-sums c = balances_are_sums

pub returns-clause-moved : goal.returns-clause-moved
returns-clause-moved c = what_is_left_out_moved_nothing
