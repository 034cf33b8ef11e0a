use Rattle.cdc_connector_actor.proofs.ConnectorLemmas.Sessions.{begun_entry, begun_so}
use Rattle.cdc_connector_actor.proofs.Words.{IsNotBegun, passed_on}
use Rattle.cdc_connector_actor.proofs.ConnectorLemmas.Failing.{not_begun, not_begun_entry}
use Rattle.cdc_connector_actor.proofs.connector.cores.ConnectorCore.begin.Goals as goal

pub returns-clause-after : goal.returns-clause-after
returns-clause-after g c =
    begun_entry _ c.args.self.now _ c.self.view_is
    (begun_so _ c.in_ok-session.session _ _ _ c.first_base.result _ _
    c.in_ok-session.ensures.ok c.in_ok-session.ensures.loads
    c.in_ok-session.ensures.honest c.in_ok-session.ensures.same_risks c.first_base.ensures)

pub returns-in_err-session-clause-failed : goal.returns-in_err-session-clause-failed
returns-in_err-session-clause-failed g c =
    let refused = c.in_err-session.ensures in
    passed_on (λ fault. IsNotBegun c.args.self.now fault _) _ _ c.from_residual.ensures.1
    (not_begun_entry _ c.args.self.now _ _ c.self.view_is
    (not_begun _ _ _ _ _ _ c.in_err-session.field-0.0 refused.err refused.risked refused.honest refused.same_risks))
