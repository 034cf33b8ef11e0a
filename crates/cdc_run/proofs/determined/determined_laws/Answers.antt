use Rattle.cdc_run.proofs.Alone.{lone_clients}
use Rattle.cdc_run.proofs.Kept.{all_keep, unasked_keep}
use Rattle.cdc_run.proofs.determined.determined_laws.Goals as goal

pub returns-clause-alone : goal.returns-clause-alone
returns-clause-alone c = lone_clients

pub returns-clause-unasked : goal.returns-clause-unasked
returns-clause-unasked c = unasked_keep

pub returns-clause-all_unasked : goal.returns-clause-all_unasked
returns-clause-all_unasked c = all_keep
