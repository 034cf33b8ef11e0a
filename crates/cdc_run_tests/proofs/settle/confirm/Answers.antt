use Rattle.std.proofs.Common.{refl}
use Rattle.cdc_run_tests.proofs.Sitting.{same_seats}
use Rattle.cdc_run_tests.proofs.settle.confirm.Goals as goal

pub returns : goal.returns
returns g c = same_seats c.turn_ledger.ensures refl c.turn_connector.ensures refl refl
