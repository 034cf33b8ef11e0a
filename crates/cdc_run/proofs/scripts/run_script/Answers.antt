use Rattle.cdc_run.proofs.Words.{IsTurnFault, ap, client_place, client_seat, ◌∙◌}
use Rattle.cdc_run.proofs.Stopped.{has_met}
use Rattle.cdc_run.proofs.scripts.run_script.Goals as goal

-- a batch got no reply, and the client's seat is unchanged
pub returns-in-Err-clause-stopped : goal.returns-in-Err-clause-stopped
returns-in-Err-clause-stopped g c =
    has_met client_seat client_place (λ _. IsTurnFault) c.args.end c.stop.result c.submit.new.self _
    (c.submit.ensures.seat ∙ c.loop-batch.invariant.1) (c.submit.ensures.system ∙ c.loop-batch.invariant.0)
    c.in-Err.ensures.fault c.in-Err.ensures.kind c.stop.ensures

-- or it couldn't report that it is done
pub returns-in-Err-finish-clause-stopped : goal.returns-in-Err-finish-clause-stopped
returns-in-Err-finish-clause-stopped g c =
    has_met client_seat client_place (λ _. IsTurnFault) c.args.end c.stop-in-Err-finish.result c.finish.new.self _
    (ap client_seat c.in-Err-finish.ensures.failed ∙ c.loop-batch.invariant.1)
    (c.finish.ensures.system ∙ c.loop-batch.invariant.0) c.in-Err-finish.ensures.fault c.in-Err-finish.ensures.kind
    c.stop-in-Err-finish.ensures
