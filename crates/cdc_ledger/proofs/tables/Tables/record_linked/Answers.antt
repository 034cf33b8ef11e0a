use Rattle.cdc_ledger.proofs.tables.Tables.record_linked.Goals as goal

pub returns-clause-fits : goal.returns-clause-fits
returns-clause-fits c = assumption
