use Rattle.cdc_run_tests.proofs.settle.turn_ledger.Goals as goal

pub returns : goal.returns
returns g c = λ i. (c.turn.ensures.system i, c.turn.ensures.seat i)
