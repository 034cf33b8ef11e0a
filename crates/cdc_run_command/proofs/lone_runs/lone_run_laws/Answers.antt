use Rattle.cdc_run_command.proofs.LoneRuns.{lone_runs}
use Rattle.cdc_run_command.proofs.lone_runs.lone_run_laws.Goals as goal

pub returns : goal.returns
returns c = lone_runs c.determined_laws.ensures.alone c.determined_laws.ensures.all_unasked
