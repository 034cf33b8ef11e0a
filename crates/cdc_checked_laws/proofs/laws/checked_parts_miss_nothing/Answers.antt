use Rattle.cdc_checked_laws.proofs.Closed.{checked_parts_are_a_prefix, checked_parts_miss_nothing, ledger_bindings_are_closed, whole_parts_are_applied}
use Rattle.cdc_checked_laws.proofs.laws.checked_parts_miss_nothing.Goals as goal

pub returns-clause-missed : goal.returns-clause-missed
returns-clause-missed c = checked_parts_miss_nothing

pub returns-clause-prefix : goal.returns-clause-prefix
returns-clause-prefix c = checked_parts_are_a_prefix

pub returns-clause-whole : goal.returns-clause-whole
returns-clause-whole c = whole_parts_are_applied

pub returns-clause-ledgers : goal.returns-clause-ledgers
returns-clause-ledgers c = ledger_bindings_are_closed
