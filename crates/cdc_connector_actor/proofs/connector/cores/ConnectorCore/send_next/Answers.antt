use Rattle.cdc_connector_actor.proofs.Words.{◌∙◌, ConnectorCore, IsCutShort, Some, ap, passed_on}
use Rattle.cdc_connector_actor.proofs.ConnectorLemmas.Turns.{due_so, sent_and_begun, sent_before, sent_none, sent_on}
use Rattle.cdc_connector_actor.proofs.ConnectorLemmas.Failing.{cut_begin, cut_trans, cut_unsent, publishing_so_far}
use Rattle.cdc_connector_actor.proofs.connector.cores.ConnectorCore.send_next.Goals as goal

pub returns-then-not-branch-clause-after : goal.returns-then-not-branch-clause-after
returns-then-not-branch-clause-after g c =
    let sending = c.requires.sending in
    let now = c.args.self.now in
    let mid = c.send_packet.new.self in
    sent_none now mid
    (rw c.if-not-branch.true at (sent_before now mid sending c.requires.room c.in_ok-send_packet.field-0
    (c.in_ok-send_packet.ensures.after sending.course sending.publishing)))

pub returns-in_ok-begin-clause-after : goal.returns-in_ok-begin-clause-after
returns-in_ok-begin-clause-after g c =
    let sending = c.requires.sending in
    let now = c.args.self.now in
    let mid = c.send_packet.new.self in
    let before = rw c.if-not-branch.false at (sent_before now mid sending c.requires.room c.in_ok-send_packet.field-0
    (c.in_ok-send_packet.ensures.after sending.course sending.publishing)) in
    sent_and_begun now mid before c.begin.new.self
    (due_so now mid c.deref.result.now c.self.inside.published c.self-2.inside.published c.is_due.result _
    (c.deref.ensures.value ∙ ap (λ (w : ConnectorCore). w.restarts) c.self-2.view_is) before.goes_on.restarts
    (ap (λ (w : ConnectorCore). w.published) c.self.view_is) (ap (λ (w : ConnectorCore). w.published) c.self-2.view_is)
    c.is_due.ensures c.if-is_due.true) c.in_ok-begin.ensures.after

pub returns-else-is_due-clause-after : goal.returns-else-is_due-clause-after
returns-else-is_due-clause-after g c =
    let sending = c.requires.sending in
    let now = c.args.self.now in
    let mid = c.send_packet.new.self in
    let before = rw c.if-not-branch.false at (sent_before now mid sending c.requires.room c.in_ok-send_packet.field-0
    (c.in_ok-send_packet.ensures.after sending.course sending.publishing)) in
    sent_on now mid before
    (due_so now mid c.deref.result.now c.self.inside.published c.self-2.inside.published c.is_due.result _
    (c.deref.ensures.value ∙ ap (λ (w : ConnectorCore). w.restarts) c.self-2.view_is) before.goes_on.restarts
    (ap (λ (w : ConnectorCore). w.published) c.self.view_is) (ap (λ (w : ConnectorCore). w.published) c.self-2.view_is)
    c.is_due.ensures c.if-is_due.false)

pub returns-in_err-send_packet-clause-failed : goal.returns-in_err-send_packet-clause-failed
returns-in_err-send_packet-clause-failed g c =
    let sending = c.requires.sending in
    passed_on (λ fault. IsCutShort c.args.self.now fault c.send_packet.new.self) _ _ c.from_residual.ensures.1
    (cut_unsent c.args.self.now sending.course sending.publishing c.in_err-send_packet.field-0.0 c.send_packet.new.self
    (c.in_err-send_packet.ensures.failed sending.course sending.publishing))

pub returns-in_err-begin-clause-failed : goal.returns-in_err-begin-clause-failed
returns-in_err-begin-clause-failed g c =
    let sending = c.requires.sending in
    let now = c.args.self.now in
    let mid = c.send_packet.new.self in
    let before = rw c.if-not-branch.false at (sent_before now mid sending c.requires.room c.in_ok-send_packet.field-0
    (c.in_ok-send_packet.ensures.after sending.course sending.publishing)) in
    passed_on (λ fault. IsCutShort now fault c.begin.new.self) _ _ c.from_residual-in_err-begin.ensures.1
    (cut_trans now mid c.begin.new.self c.in_err-begin.field-0.0 before.goes_on
    (cut_begin mid c.begin.new.self c.in_err-begin.field-0.0
    (publishing_so_far mid (Some before.course) before.publishing) c.in_err-begin.ensures.failed))
