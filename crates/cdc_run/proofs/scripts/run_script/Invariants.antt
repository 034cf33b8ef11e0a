use Rattle.cdc_run.proofs.Words.{client_seat, false, map, ◌++◌, ◌≡◌}
use Rattle.cdc_run.proofs.scripts.run_script.Given as goal

-- it has the same system and seat, hasn't finished, and has submitted the batches so far
abbrev pub invariant-loop-batch : goal.invariant-loop-batch
invariant-loop-batch g l =
    (l.end.system ≡ l.fn.end.system)
    × (client_seat l.end.work ≡ client_seat l.fn.end.work)
    × (l.end.work.finished ≡ false)
    × (map (λ r. r.batch) l.end.work.replies ≡ map (λ r. r.batch) l.fn.end.work.replies ++ l.yielded)
