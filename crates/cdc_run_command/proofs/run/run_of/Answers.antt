use Rattle.cdc_run_command.proofs.ClientLemmas.{runnable}
use Rattle.cdc_run_command.proofs.run.run_of.Goals as goal

pub run_script-requires-clause-script : goal.run_script-requires-clause-script
run_script-requires-clause-script g c κs within = runnable c.args.bytes.now c.in-Ok.script c.in-Ok.ensures
