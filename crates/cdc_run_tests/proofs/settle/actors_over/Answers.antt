use Rattle.cdc_run_tests.proofs.Sitting.{wired_up}
use Rattle.cdc_run_tests.proofs.settle.actors_over.Goals as goal

pub returns : goal.returns
returns g c =
    wired_up c.config_of-config.result c.none.result _ _ _ c.args.system c.wire_up.result c.expect.result
    c.wire_up.ensures.made c.expect.ensures c.config_of-config.ensures.system
