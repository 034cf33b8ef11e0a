-- Why a run has no report.
use Rattle.std.specs.Prelude.{Result, Ok, Err}
use Rattle.cdc_actors.specs.Stops.{fault_met}
use Rattle.cdc_actor_work.specs.declared.faults.RunFault.{RunFault}
use Rattle.cdc_actor_work.specs.declared.faults.RunFault.TheVariants as fault
use Rattle.cdc_run.specs.declared.failures.Failure.{Failure}
use Rattle.cdc_run.specs.declared.failures.Failure.TheVariants.{OutOfMemory, Stopped}

-- the fault that is answered
abbrev pub fault_answered : {S : Type 0} → Failure S → RunFault
fault_answered OutOfMemory = fault.OutOfMemory
fault_answered (Stopped place met outcomes) = fault_met met

-- the result of a run, of whose failure only the fault is kept
abbrev pub unexplained : {R S : Type 0} → Result R (Failure S) → Result R RunFault
unexplained (Ok report) = Ok report
unexplained (Err failure) = Err (fault_answered failure)
