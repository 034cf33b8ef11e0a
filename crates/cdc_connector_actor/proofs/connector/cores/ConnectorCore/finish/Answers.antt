use Rattle.cdc_connector_actor.proofs.Words.{ConnectorCore, ap, sym}
use Rattle.cdc_connector_actor.proofs.ConnectorLemmas.Steps.{may_finish_to_broker, may_finish_to_ledger}
use Rattle.cdc_connector_actor.proofs.connector.cores.ConnectorCore.finish.Goals as goal

pub send_message-requires : goal.send_message-requires
send_message-requires g c =
    rw (ap (λ (w : ConnectorCore). w.polls) (sym c.self.view_is))
    at (may_finish_to_ledger c.args.self.now c.requires.course c.requires.publishing c.requires.working)

pub publish-requires : goal.publish-requires
publish-requires g c =
    rw (ap (λ (w : ConnectorCore). w.packets) (sym c.self.view_is))
    at (may_finish_to_broker c.args.self.now c.requires.course c.requires.publishing c.requires.working)
