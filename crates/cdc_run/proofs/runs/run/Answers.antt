use Rattle.cdc_run.proofs.Unexplained.{report_kept}
use Rattle.cdc_run.proofs.runs.run.Goals as goal

-- what its subscribers have come to stays known
pub returns-clause-subscribers : goal.returns-clause-subscribers
returns-clause-subscribers g c =
    report_kept _ c.run_explained.result c.without_explanation.result c.without_explanation.ensures
    c.run_explained.ensures.subscribers
