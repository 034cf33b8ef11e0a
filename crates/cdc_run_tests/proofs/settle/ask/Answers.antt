use Rattle.std.proofs.Common.{refl}
use Rattle.cdc_run_tests.proofs.Sitting.{same_seats}
use Rattle.cdc_run_tests.proofs.settle.ask.Goals as goal

pub returns : goal.returns
returns g c = same_seats refl c.finish_clients.ensures c.turn_connector.ensures refl refl
