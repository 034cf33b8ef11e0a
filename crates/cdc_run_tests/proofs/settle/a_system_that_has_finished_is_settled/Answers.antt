use Rattle.cdc_run_tests.proofs.Sitting.{system_seated}
use Rattle.cdc_run_tests.proofs.settle.a_system_that_has_finished_is_settled.Goals as goal

pub settle-requires : goal.settle-requires
settle-requires g c = system_seated 1 c.finished_actors-ends.result c.finished_actors-ends.ensures
