use Rattle.std.proofs.Common.{◌∙◌, ap}
use Rattle.std.proofs.lemmas.Result.{IfOk-at_ok}
use Rattle.cdc_actors.specs.Seats.{client_seat}
use Rattle.cdc_run_tests.specs.Systems.{sits_at}
use Rattle.cdc_run_tests.proofs.Sitting.{finished_sits}
use Rattle.cdc_run_tests.proofs.settle.finish_client.Goals as goal

pub returns : goal.returns
returns g c =
    ap (sits_at client_seat) (IfOk-at_ok _ c.expect.ensures c.finish.ensures.done)
    ∙ finished_sits c.args.end.now.system c.args.end.now.work
