use Rattle.std.proofs.Common.{◌∙◌}
use Rattle.cdc_run_tests.proofs.settle.fail_connector.Goals as goal

pub returns : goal.returns
returns g c =
    (λ i. (c.turn-again.ensures.system i, c.turn-again.ensures.seat i))
    ∙ (λ i. (c.turn-turn.ensures.system i, c.turn-turn.ensures.seat i))
