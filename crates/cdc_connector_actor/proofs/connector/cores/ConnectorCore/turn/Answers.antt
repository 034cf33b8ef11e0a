use Rattle.cdc_connector_actor.proofs.Words.{IfErr-weaker, IfOk-weaker, IsAdvanced, false, rules, true}
use Rattle.cdc_connector_actor.proofs.ConnectorLemmas.Counted.{few_kept}
use Rattle.cdc_connector_actor.proofs.ConnectorLemmas.Rounds.{turned, turned_still}
use Rattle.cdc_connector_actor.proofs.ConnectorLemmas.Failing.{failed_then}
use Rattle.cdc_connector_actor.proofs.connector.cores.ConnectorCore.turn.Goals as goal

pub returns-clause-few : goal.returns-clause-few
returns-clause-few g c =
    IfOk-weaker c.follow.result _ _
    (λ x is.
    few_kept c.args.more c.args.self.now c.advance.new.self c.follow.new.self c.in_ok-advance.ensures.few
    is.goes_on.inbox) c.follow.ensures.after

pub returns-clause-failed : goal.returns-clause-failed
returns-clause-failed g c =
    IfErr-weaker c.follow.result _ _
    (λ fault cut.
    failed_then c.args.self.now c.advance.new.self c.follow.new.self _ fault c.requires.goes_on
    c.in_ok-advance.ensures.after cut) c.follow.ensures.failed

pub returns-then-not-branch-clause-turned : goal.returns-then-not-branch-clause-turned
returns-then-not-branch-clause-turned g c =
    let now = c.args.self.now in
    let mid = c.advance.new.self in
    let still : IsAdvanced now false mid = search rules in
    turned_still now mid still

pub returns-clause-turned : goal.returns-clause-turned
returns-clause-turned g c =
    let now = c.args.self.now in
    let mid = c.advance.new.self in
    let moved : IsAdvanced now true mid = rw c.if-not-branch.false at c.in_ok-advance.ensures.after in
    IfOk-weaker c.follow.result _ _ (λ x is. turned now mid c.follow.new.self moved is) c.follow.ensures.after
