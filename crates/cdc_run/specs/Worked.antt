-- What the actors of a run come to of which not all have finished.
use Rattle.std.specs.Prelude.{◌≡◌, Some, List}
use Rattle.std.specs.List.{AllZip}
use Rattle.cdc_run.specs.Jobs.{ComesTo}
use Rattle.cdc_run.specs.Outcomes.{first_stop}
use Rattle.cdc_run.specs.Tasks.{Leaves, Stops}
use Rattle.cdc_run.specs.declared.failures.Failure.{Failure}
use Rattle.cdc_run.specs.declared.failures.Failure.TheVariants.{OutOfMemory, Stopped}
use Rattle.cdc_run.specs.declared.tasks.Task.{Task}

-- these are their outcomes, and that is the stop that counts among them; or there was no memory for a list of them
abbrev pub HaveStopped : {S : Type 0} → List (Task S) → Failure S → Type 0
HaveStopped tasks OutOfMemory = Unit {0}
HaveStopped tasks (Stopped place met outcomes) =
    AllZip (ComesTo Leaves Stops) tasks outcomes.items × (first_stop outcomes.items ≡ Some (place, met))
