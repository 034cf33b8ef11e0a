use Rattle.cdc_connector_actor.proofs.Words.{◌∙◌, ConnectorCore, FollowsToConnector, HasFailed, Takes, ap, passed_on, sym}
use Rattle.cdc_traffic.specs.declared.messages.ToConnector.TheVariants as to_connector
use Rattle.cdc_connector_actor.proofs.ConnectorLemmas.Receiving.{offered_lawful, reply_came}
use Rattle.cdc_connector_actor.proofs.ConnectorLemmas.Rounds.{received_confirm, received_reply}
use Rattle.cdc_connector_actor.proofs.ConnectorLemmas.Failing.{failed_confirm}
use Rattle.cdc_connector_actor.proofs.connector.cores.ConnectorCore.handle.Goals as goal

pub take_reply-requires : goal.take_reply-requires
take_reply-requires g c = λ asked.
    let before = c.requires.0 in
    let come = c.requires.1 in
    let now = c.args.self.now in
    let reply = c.in-PollReply.reply in
    let takes : Takes FollowsToConnector before.inbox (to_connector.PollReply reply) now.inbox =
    rw c.in-PollReply.is at come.takes in
    rw (ap (λ (w : ConnectorCore). w.session) (sym come.after))
    at (offered_lawful before come.sends.course come.sends.publishing now.inbox reply
    (reply_came before.inbox now.inbox reply takes) (ap (λ (w : ConnectorCore). w.poll) (sym come.after) ∙ asked))

pub returns-in-PollReply-clause-after : goal.returns-in-PollReply-clause-after
returns-in-PollReply-clause-after g c = λ before come course is.
    let now = c.args.self.now in
    let reply = c.in-PollReply.reply in
    let takes : Takes FollowsToConnector before.inbox (to_connector.PollReply reply) now.inbox =
    rw c.in-PollReply.is at come.takes in
    received_reply before course is now.inbox reply takes c.take_reply.result c.take_reply.new.self
    (rw come.after at c.take_reply.ensures)

pub returns-in_ok-take_confirm-in-Confirm-clause-after : goal.returns-in_ok-take_confirm-in-Confirm-clause-after
returns-in_ok-take_confirm-in-Confirm-clause-after g c = λ before come course is.
    let now = c.args.self.now in
    let confirm = c.in-Confirm.confirm in
    let takes : Takes FollowsToConnector before.inbox (to_connector.Confirm confirm) now.inbox =
    rw c.in-Confirm.is at come.takes in
    received_confirm before course is now.inbox confirm takes c.take_confirm.new.self
    (rw come.after at (c.in_ok-take_confirm-in-Confirm.ensures.after course (rw come.after is.stands)))

pub returns-in_err-take_confirm-in-Confirm-clause-failed : goal.returns-in_err-take_confirm-in-Confirm-clause-failed
returns-in_err-take_confirm-in-Confirm-clause-failed g c = λ before come.
    let now = c.args.self.now in
    let confirm = c.in-Confirm.confirm in
    let course = come.sends.course in
    let fault = c.in_err-take_confirm-in-Confirm.field-0.0 in
    let takes : Takes FollowsToConnector before.inbox (to_connector.Confirm confirm) now.inbox =
    rw c.in-Confirm.is at come.takes in
    passed_on (λ f. HasFailed before f c.take_confirm.new.self) _ _ c.from_residual.ensures.1
    (failed_confirm before come.sends now.inbox confirm takes fault c.take_confirm.new.self
    (rw come.after at (c.in_err-take_confirm-in-Confirm.ensures.failed course
    (rw come.after come.sends.publishing.stands))))
