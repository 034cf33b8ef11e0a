use Rattle.std.proofs.Common.{◌∙◌}
use Rattle.std.proofs.Math.Seq.{map-set_same}
use Rattle.cdc_actors.specs.Seats.{client_seat}
use Rattle.cdc_run_tests.specs.Systems.{sits_at}
use Rattle.cdc_run_tests.proofs.settle.finish_clients.Goals as goal

pub loop-end-preserved : goal.loop-end-preserved
loop-end-preserved g c =
    map-set_same (sits_at client_seat) c.loop-end.end-items c.loop-end.end-index c.finish_client.new.end
    c.end-item.result
    c.finish_client.ensures
    ∙ c.loop-end.invariant
