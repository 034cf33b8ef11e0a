use Rattle.cdc_connector_actor.proofs.Words.{ConnectorCore, HasFailed, ap, passed_on}
use Rattle.cdc_connector_actor.proofs.ConnectorLemmas.Failing.{failed_unheard, same_inbox}
use Rattle.cdc_connector_actor.proofs.ConnectorLemmas.Rounds.{took}
use Rattle.cdc_connector_actor.proofs.connector.cores.ConnectorCore.receive_next.Goals as goal

pub handle-requires : goal.handle-requires
handle-requires g c = (
  c.args.self.now,
  record {
    sends = c.requires;
    takes = took _ c.args.self.now _ c.receive.new.inbox c.self.view_is c.in_ok-message.ensures.taken;
    after = ap (λ (w : ConnectorCore). record w { inbox = c.receive.new.inbox }) c.self.view_is;
  },
)

pub returns-in_err-message-clause-failed : goal.returns-in_err-message-clause-failed
returns-in_err-message-clause-failed g c =
    let gone = c.in_err-message.ensures.refused in
    passed_on (λ fault. HasFailed c.args.self.now fault _) _ _ c.from_residual.ensures.1
    (failed_unheard c.args.self.now _ c.in_err-message.field-0.0 c.requires
    (gone.0, same_inbox _ c.args.self.now c.receive.new.inbox c.self.view_is gone.1))

pub returns-clause-failed : goal.returns-clause-failed
returns-clause-failed g c = c.handle.ensures.failed c.args.self.now (record {
  sends = c.requires;
  takes = took _ c.args.self.now _ c.receive.new.inbox c.self.view_is c.in_ok-message.ensures.taken;
  after = ap (λ (w : ConnectorCore). record w { inbox = c.receive.new.inbox }) c.self.view_is;
})
