use Rattle.cdc_connector_actor.proofs.Words.{◌∙◌, ConnectorCore, FollowsToBroker, IsUnsent, OutOfMemory, Outgoing, Some, StandsFor, ToBroker, ap, passed_on, refl, subst, sym}
use Rattle.cdc_traffic.specs.declared.messages.ToBroker.TheVariants as to_broker
use Rattle.cdc_connector_actor.proofs.ConnectorLemmas.Steps.{may_publish, stands_of}
use Rattle.cdc_connector_actor.proofs.ConnectorLemmas.Failing.{unsent_memory}
use Rattle.cdc_connector_actor.proofs.connector.cores.ConnectorCore.send_packet.Goals as goal

pub publish-requires : goal.publish-requires
publish-requires g c =
    let sending = c.requires.sending in
    let now = c.args.self.now in
    let stands : StandsFor c.in-Some.session sending.course =
    stands_of now.session c.in-Some.session sending.course
    (ap (λ (w : ConnectorCore). w.session) (sym c.self.view_is) ∙ c.in-Some.is) sending.publishing.stands in
    let next = sym (c.in_ok-packet.ensures.packet sending.course stands) ∙ c.in-Some-2.is in
    subst
    (λ (p : Outgoing ToBroker (Unit {0})). FollowsToBroker p.number p.sent (to_broker.Packet c.in-Some-2.packet, tt))
    (ap (λ (w : ConnectorCore). w.packets) (sym c.self.view_is))
    (may_publish now sending.course sending.publishing sending.working c.in-Some-2.packet next)

pub returns-in_err-packet-clause-failed : goal.returns-in_err-packet-clause-failed
returns-in_err-packet-clause-failed g c = λ course is.
    let now = c.args.self.now in
    let stands : StandsFor c.in-Some.session course =
    stands_of now.session c.in-Some.session course
    (ap (λ (w : ConnectorCore). w.session) (sym c.self.view_is) ∙ c.in-Some.is) is.stands in
    let err = c.in_err-packet.ensures in
    passed_on (λ fault. IsUnsent now course fault _) _ _ c.from_residual.ensures.1
    (unsent_memory _ now _ course OutOfMemory c.self.view_is (ap Some err.err ∙ sym c.in-Some.is)
    (err.memory course stands) refl)
