use Rattle.cdc_connector_actor.proofs.Words.{◌&&◌, ◌==◌, ◌≡◌, IfErr-weaker, IsCutShort, IsFollowed, IsUnfinished, PeerGone, finished_if, is_done, passed_on}
use Rattle.cdc_connector_actor.proofs.ConnectorLemmas.Turns.{IsSending-asked, asked_so, followed_so, if_ok_then}
use Rattle.cdc_connector_actor.proofs.ConnectorLemmas.Failing.{cut_trans, cut_unasked, cut_unfinished}
use Rattle.cdc_connector_actor.proofs.ConnectorLemmas.Turns.{GoesOn-trans}
use Rattle.cdc_connector_actor.proofs.connector.cores.ConnectorCore.follow.Goals as goal

pub finish-requires : goal.finish-requires
finish-requires g c =
    let sends = c.in_ok-send_packets.ensures.after.sends in
    IsSending-asked c.send_packets.new.self c.ask.new.self sends
    (asked_so c.send_packets.new.self sends c.ask.new.self (c.in_ok-ask.ensures.after sends.course sends.publishing))

pub returns-clause-after : goal.returns-clause-after
returns-clause-after g c =
    let are = c.in_ok-send_packets.ensures.after in
    let course = are.sends.course in
    let sent = c.send_packets.new.self in
    let asked = c.ask.new.self in
    let is = asked_so sent are.sends asked (c.in_ok-ask.ensures.after course are.sends.publishing) in
    if_ok_then c.finish.result (λ _. c.finish.new.self ≡ finished_if (is_done course && (asked.unanswered == 0)) asked)
    (λ _. IsFollowed c.args.self.now c.finish.new.self)
    (λ _ after. followed_so c.args.self.now sent asked are is c.finish.new.self after)
    (c.finish.ensures.after course is.publishing)

pub returns-in_err-ask-clause-failed : goal.returns-in_err-ask-clause-failed
returns-in_err-ask-clause-failed g c =
    let now = c.args.self.now in
    let are = c.in_ok-send_packets.ensures.after in
    let sent = c.send_packets.new.self in
    passed_on (λ fault. IsCutShort now fault c.ask.new.self) _ _ c.from_residual-in_err-ask.ensures.1
    (cut_trans now sent c.ask.new.self c.in_err-ask.field-0.0 are.goes_on
    (cut_unasked sent c.ask.new.self c.in_err-ask.field-0.0 are.sends c.in_err-ask.ensures.failed))

pub returns-clause-failed : goal.returns-clause-failed
returns-clause-failed g c =
    let now = c.args.self.now in
    let are = c.in_ok-send_packets.ensures.after in
    let sent = c.send_packets.new.self in
    let asked = c.ask.new.self in
    let is = asked_so sent are.sends asked (c.in_ok-ask.ensures.after are.sends.course are.sends.publishing) in
    IfErr-weaker c.finish.result (λ fault. (fault ≡ PeerGone) × IsUnfinished asked c.finish.new.self)
    (λ fault. IsCutShort now fault c.finish.new.self)
    (λ fault un.
    cut_trans now asked c.finish.new.self fault (GoesOn-trans now sent asked are.goes_on is.goes_on)
    (cut_unfinished asked (IsSending-asked sent asked are.sends is) fault c.finish.new.self un)) c.finish.ensures.failed
