use Rattle.cdc_run.proofs.Passed.{ends_come, ends_pass}
use Rattle.cdc_run.proofs.laws.passing_laws.Goals as goal

pub returns-clause-pass : goal.returns-clause-pass
returns-clause-pass c = ends_pass c.connector_actor_laws.ensures.finished c.broker_actor_laws.ensures.arrived

pub returns-clause-come : goal.returns-clause-come
returns-clause-come c =
    ends_come c.connector_actor_laws.ensures.finished
    (ends_pass c.connector_actor_laws.ensures.finished c.broker_actor_laws.ensures.arrived)
    c.settle_laws.ensures.come
