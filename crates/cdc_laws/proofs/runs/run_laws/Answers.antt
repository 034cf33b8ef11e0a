use Rattle.cdc_ledger.specs.Events.{events}
use Rattle.cdc_laws.proofs.Arrivals.{IsReplay-taken}
use Rattle.cdc_laws.proofs.Feeds.{IsPrefix-line, whole-line}
use Rattle.cdc_laws.proofs.GoingOn.{GoesOn-extends}
use Rattle.cdc_laws.proofs.Receiving.{IsFaithful-run}
use Rattle.cdc_laws.proofs.Rising.{after_rise}
use Rattle.cdc_log.specs.Log.{events_after}
use Rattle.cdc_laws.proofs.LongerRuns.{IsConnectorRun-goes_on, IsConnectorRun-more}
use Rattle.cdc_laws.proofs.runs.run_laws.Goals as goal

pub returns-clause-taken : goal.returns-clause-taken
returns-clause-taken c = IsReplay-taken

pub returns-clause-begins : goal.returns-clause-begins
returns-clause-begins c = λ h start items is replay.
    IsPrefix-line (events_after start (events h)) (after_rise h start is) h.closed items replay

pub returns-clause-ends : goal.returns-clause-ends
returns-clause-ends c = λ h start items is replay there.
    whole-line (events_after start (events h)) (after_rise h start is) h.closed items replay there

pub returns-clause-confirmed : goal.returns-clause-confirmed
returns-clause-confirmed c = IsConnectorRun-more

pub returns-clause-longer : goal.returns-clause-longer
returns-clause-longer c = IsConnectorRun-goes_on

pub returns-clause-extended : goal.returns-clause-extended
returns-clause-extended c = GoesOn-extends

pub returns-clause-faithful : goal.returns-clause-faithful
returns-clause-faithful c = IsFaithful-run
