use Rattle.cdc_connector_actor.proofs.Words.{◌∙◌, ConnectorCore, Course, Err, IsUnsaved, StandsFor, ap, passed_on, sym, with_confirm}
use Rattle.cdc_connector_actor.proofs.ConnectorLemmas.Failing.{not_saved, unsaved_entry}
use Rattle.cdc_connector_actor.proofs.ConnectorLemmas.Steps.{stands_of}
use Rattle.cdc_connector_actor.proofs.connector.cores.ConnectorCore.confirm.Goals as goal

pub returns-in_err-save-clause-failed : goal.returns-in_err-save-clause-failed
returns-in_err-save-clause-failed g c = λ course stands.
    let now = c.args.self.now in
    let next : Course = with_confirm c.args.session c.args.tag course in
    let err = c.in_err-save.ensures in
    let stood : StandsFor c.in-Some.running course =
    stands_of now.session c.in-Some.running course
    (ap (λ (w : ConnectorCore). w.session) (sym c.self.view_is) ∙ c.in-Some.is) stands in
    let takes : StandsFor c.confirm.new.self next = c.confirm.ensures.stands course stood in
    passed_on (λ fault. IsUnsaved now next fault _) _ _ c.from_residual.ensures.1
    (unsaved_entry _ now _ next _ c.self.view_is
    (not_saved _ next _ _ _ _ _ _ c.in_err-save.field-0.0 takes (err.refused next takes)
    (λ is. err.without_memory (ap Err is)) err.refusals err.risked err.honest err.same_risks))
