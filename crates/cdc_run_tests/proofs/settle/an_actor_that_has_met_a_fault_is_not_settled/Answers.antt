use Rattle.cdc_run_tests.proofs.Sitting.{system_seated}
use Rattle.cdc_run_tests.proofs.settle.an_actor_that_has_met_a_fault_is_not_settled.Goals as goal

pub are_refused-requires : goal.are_refused-requires
are_refused-requires g c = system_seated 1 c.failed_actors-ends.result c.failed_actors-ends.ensures
