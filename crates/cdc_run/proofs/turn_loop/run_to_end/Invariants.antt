use Rattle.std.proofs.Common.{◌≡◌}
use Rattle.cdc_run.proofs.turn_loop.run_to_end.Given as goal

-- it has the same system and seat
abbrev pub invariant-loop : goal.invariant-loop
invariant-loop g l =
    (l.end.system ≡ l.fn.end.system) × (g.W.Work.seat l.end.work ≡ g.W.Work.seat l.fn.end.work)
