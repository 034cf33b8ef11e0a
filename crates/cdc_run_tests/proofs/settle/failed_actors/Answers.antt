use Rattle.std.proofs.Common.{refl, sym, subst}
use Rattle.cdc_run_tests.specs.Systems.{AreOfSystem}
use Rattle.cdc_run_tests.proofs.Sitting.{same_seats}
use Rattle.cdc_run_tests.proofs.settle.failed_actors.Goals as goal

pub returns : goal.returns
returns g c =
    subst (AreOfSystem c.args.system) (sym (same_seats refl refl c.fail_connector.ensures refl refl))
    c.actors_over-ends.ensures
