use Rattle.std.proofs.Common.{◌∙◌}
use Rattle.cdc_run.proofs.Stopped.{has_met}
use Rattle.cdc_run.proofs.turn_loop.run_to_end.Goals as goal

-- the actor that has met it, in the same seat
pub returns-in-Err-clause-stopped : goal.returns-in-Err-clause-stopped
returns-in-Err-clause-stopped g c =
    has_met g.W.Work.seat g.W.Work.place g.W.Work.fails_as c.args.end c.stop.result c.turn_with.new.self _
    (c.turn_with.ensures.seat ∙ c.loop.invariant.1) (c.turn_with.ensures.system ∙ c.loop.invariant.0)
    c.in-Err.ensures.fault c.in-Err.ensures.kind c.stop.ensures
