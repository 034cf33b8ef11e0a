use Rattle.std.proofs.Common.{refl}
use Rattle.cdc_run_tests.proofs.Sitting.{same_seats}
use Rattle.cdc_run_tests.proofs.settle.deliver.Goals as goal

pub returns : goal.returns
returns g c = same_seats refl refl refl c.turn_broker.ensures c.turn_subscribers.ensures
