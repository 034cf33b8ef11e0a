use Rattle.cdc_connector_actor.proofs.Words.{◌∙◌, ◌≡◌, ConnectorCore, IsNotBegun, SessionStands, Some, eqb-true, passed_on, subst, sym}
use Rattle.cdc_connector_actor.proofs.connector.cores.ConnectorCore.break_off.Goals as goal

pub returns-in_err-begin-clause-failed : goal.returns-in_err-begin-clause-failed
returns-in_err-begin-clause-failed g c = λ course stands.
    let now = c.args.self.now in
    let own : c.args.session ≡ course.number =
    eqb-true c.args.session course.number
    (sym (c.is_own.ensures course
    (subst (λ (w : ConnectorCore). SessionStands w.session (Some course)) (sym c.self.view_is) stands))
    ∙ c.if-is_own.true) in
    passed_on (λ fault. (c.args.session ≡ course.number) × IsNotBegun now fault c.begin.new.self) _ _
    c.from_residual.ensures.1 (own, c.in_err-begin.ensures.failed)
