use Rattle.cdc_run.proofs.Words.{ComesTo, subst}
use Rattle.cdc_run.proofs.Zips.{zip_push}
use Rattle.cdc_run.proofs.jobs.+work_all.Goals as goal
use Rattle.cdc_run.proofs.jobs.+work_all.Goals.{in-Ok, in-Err}

-- the last job's outcome is what its thread has promised, or why it stopped; those of the jobs before it come from
-- the call
pub returns-clause-outcomes : goal.returns-clause-outcomes
returns-clause-outcomes g t c =
    let R = g.J.Job.ends_as in
    let F = g.J.Job.stops_as in
    let job = c.in-Some.job in
    let outcome = c.match-started.outcome in
    let come : ComesTo R F job outcome =
    elim c.match-started.branch [
      | in-Ok w ↦ rw w.outcome-is (subst (λ j. ComesTo R F j w.join-outcome.result) w.in-Ok.ensures.started
          w.join-outcome.ensures)
      | in-Err w ↦ rw w.outcome-is w.in-Err.ensures.refused
    ] in
    rw c.in-Some.ensures.items (rw c.push_reserved.ensures.items
    (zip_push (ComesTo R F) c.pop.new.self.items c.work_all-all.result.items job outcome
    c.work_all-all.ensures.outcomes come))
