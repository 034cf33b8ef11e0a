use Rattle.cdc_connector_actor.proofs.Words.{◌∙◌, ◌≡◌, AreReceived, ConnectorCore, HasFailed, IsAdvanced, ap, arith, false, is_some, passed_on, refl, sym, true}
use Rattle.cdc_connector_actor.proofs.ConnectorLemmas.Counted.{few_kept}
use Rattle.cdc_connector_actor.proofs.ConnectorLemmas.Rounds.{first_so, received_so, running}
use Rattle.cdc_connector_actor.proofs.ConnectorLemmas.Turns.{if_ok_then}
use Rattle.cdc_connector_actor.proofs.ConnectorLemmas.Failing.{cut_begin, failed_of, publishing_so_far}
use Rattle.cdc_connector_actor.proofs.ConnectorLemmas.Turns.{GoesOn-same, same_of}
use Rattle.cdc_connector_actor.proofs.connector.cores.ConnectorCore.advance.Goals as goal

pub receive_all-requires : goal.receive_all-requires
receive_all-requires g c =
    let up : is_some c.args.self.now.session ≡ true =
    ap (λ (w : ConnectorCore). is_some w.session) (sym c.self.view_is) ∙ sym c.is_some.ensures ∙ c.if-is_some.true in
    running c.args.self.now c.requires.rest c.requires.working up

pub returns-then-is_some-clause-after : goal.returns-then-is_some-clause-after
returns-then-is_some-clause-after g c =
    let now = c.args.self.now in
    let up : is_some now.session ≡ true =
    ap (λ (w : ConnectorCore). is_some w.session) (sym c.self.view_is) ∙ sym c.is_some.ensures ∙ c.if-is_some.true in
    let sends = running now c.requires.rest c.requires.working up in
    if_ok_then c.receive_all.result (λ moved. AreReceived now sends.course moved c.receive_all.new.self)
    (λ moved. IsAdvanced now moved c.receive_all.new.self)
    (λ moved are. received_so now c.requires.rest c.requires.working up moved c.receive_all.new.self are)
    (c.receive_all.ensures.after sends.course sends.publishing sends.turn)

pub returns-clause-after : goal.returns-clause-after
returns-clause-after g c =
    let down : is_some c.args.self.now.session ≡ false =
    ap (λ (w : ConnectorCore). is_some w.session) (sym c.self.view_is) ∙ sym c.is_some.ensures ∙ c.if-is_some.false in
    first_so c.args.self.now c.requires.rest c.requires.working c.begin.new.self down c.in_ok-begin.ensures.after

pub returns-clause-few : goal.returns-clause-few
returns-clause-few g c =
    let now = c.args.self.now in
    few_kept c.args.more now now c.begin.new.self (omega arith)
    (ap (λ (w : ConnectorCore). w.inbox) c.in_ok-begin.ensures.after.after)

pub returns-in_err-begin-clause-failed : goal.returns-in_err-begin-clause-failed
returns-in_err-begin-clause-failed g c =
    let now = c.args.self.now in
    let fault = c.in_err-begin.field-0.0 in
    passed_on (λ f. HasFailed now f c.begin.new.self) _ _ c.from_residual.ensures.1
    (failed_of now now c.begin.new.self fault c.requires.working (0, refl) (same_of now now (GoesOn-same now))
    (cut_begin now c.begin.new.self fault (publishing_so_far now c.requires.rest.course c.requires.rest.publishing)
    c.in_err-begin.ensures.failed))
