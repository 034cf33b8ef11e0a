use Rattle.cdc_broker_actors.proofs.Words.{◌<◌, ◌∙◌, ◌≡◌, AreStopping, PeerGone, ap, arith, length, length-set, passed_on, set-get_or, slice_set, sym, with_stop}
use Rattle.cdc_broker_actors.proofs.BrokerLemmas.Subscribers.{stopped_more}
use Rattle.cdc_broker_actors.proofs.BrokerLemmas.Failing.{stopping_so}
use Rattle.cdc_broker_actors.proofs.broker.consumers.stop_all.Goals as goal

pub loop-i-preserved : goal.loop-i-preserved
loop-i-preserved g c =
    let at = c.loop-i in
    let old = c.args.consumers.now in
    let one = c.index-consumers-i in
    let inside : at.i < length old = omega (arith, at.invariant.1) in (
      stopped_more old at.consumers at.i one.result inside at.invariant.0 one.is c.send_stop.new.self
          (c.in_ok-send_stop.ensures.after ∙ ap with_stop (sym one.is)),
      length-set at.consumers at.i c.send_stop.new.self ∙ at.invariant.1,
    )

pub returns-in_err-send_stop-clause-failed : goal.returns-in_err-send_stop-clause-failed
returns-in_err-send_stop-clause-failed g c =
    let at = c.loop-i in
    let old = c.args.consumers.now in
    let one = c.index-consumers-i in
    let gone = c.in_err-send_stop.ensures.refused in
    passed_on (λ fault. (fault ≡ PeerGone) × AreStopping old _) _ _ c.from_residual.ensures.1 (
      gone.0,
      stopping_so at.i old _
          (ap (slice_set at.consumers at.i) gone.1
          ∙ set-get_or at.consumers at.i one.result
          ∙ at.invariant.0),
    )
