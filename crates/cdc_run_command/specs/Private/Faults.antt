-- The faults of the program that correspond to those of a run.
use Rattle.cdc_actor_work.specs.declared.faults.RunFault.{RunFault}
use Rattle.cdc_actor_work.specs.declared.faults.RunFault.TheVariants as run
use Rattle.cdc_output.specs.declared.faults.ProgramFault.{ProgramFault}
use Rattle.cdc_output.specs.declared.faults.ProgramFault.TheVariants as program
use Rattle.cdc_output.specs.Faults.{store_fault}

-- why a run failed, as the fault of the program
abbrev pub run_fault : RunFault → ProgramFault
run_fault run.PeerGone = program.PeerGone
run_fault run.OutOfMemory = program.OutOfMemory
run_fault (run.Store why) = store_fault why
run_fault run.SessionsExhausted = program.SessionsExhausted
run_fault run.NotOneSystem = program.NotOneSystem
run_fault run.StartNotAllowed = program.StartNotAllowed
