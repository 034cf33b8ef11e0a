use Rattle.cdc_connector_actor.proofs.Words.{IsCutShort, passed_on}
use Rattle.cdc_connector_actor.proofs.ConnectorLemmas.Turns.{GoesOn-trans, KeepsTimestamp-trans, RisesBy-trans, all_sent}
use Rattle.cdc_connector_actor.proofs.ConnectorLemmas.Failing.{cut_trans}
use Rattle.cdc_connector_actor.proofs.connector.cores.ConnectorCore.send_packets.Goals as goal

pub returns-then-not-branch-clause-after : goal.returns-then-not-branch-clause-after
returns-then-not-branch-clause-after g c =
    all_sent c.args.self.now c.loop-self.self c.send_next.new.self c.loop-self.invariant.goes_on
    c.loop-self.invariant.sessions c.loop-self.invariant.time
    (rw c.if-not-branch.true at c.in_ok-send_next.ensures.after)

pub returns-in_err-send_next-clause-failed : goal.returns-in_err-send_next-clause-failed
returns-in_err-send_next-clause-failed g c =
    passed_on (λ fault. IsCutShort c.args.self.now fault c.send_next.new.self) _ _ c.from_residual.ensures.1
    (cut_trans c.args.self.now c.loop-self.self c.send_next.new.self c.in_err-send_next.field-0.0
    c.loop-self.invariant.goes_on c.in_err-send_next.ensures.failed)

pub loop-self-preserved : goal.loop-self-preserved
loop-self-preserved g c =
    let now = c.args.self.now in
    let here = c.loop-self.self in
    let new = c.send_next.new.self in
    let at = c.loop-self.invariant in
    let is = c.in_ok-send_next.ensures.after in
    record {
      sends = is.sends;
      goes_on = GoesOn-trans now here new at.goes_on is.goes_on;
      sessions = RisesBy-trans 0 0 now here new at.goes_on.honest at.sessions is.sessions;
      time = KeepsTimestamp-trans now here new at.goes_on.honest at.time is.time;
    }
