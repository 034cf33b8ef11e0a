use Rattle.cdc_run_tests.proofs.Sitting.{system_seated}
use Rattle.cdc_run_tests.proofs.settle.nothing_is_settled_before_any_turn.Goals as goal

pub are_refused-requires : goal.are_refused-requires
are_refused-requires g c = system_seated 1 c.new_actors-ends.result c.new_actors-ends.ensures
