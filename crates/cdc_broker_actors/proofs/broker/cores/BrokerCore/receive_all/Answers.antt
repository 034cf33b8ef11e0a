use Rattle.cdc_broker_actors.proofs.Words.{◌∙◌, ◌≡◌, BrokerCore, BrokerPlan, HasFailed, HasReceivedAll, HasReceivedNext, ap, arith, false, length, passed_on, refl, rules, suc, sym, true}
use Rattle.cdc_broker_actors.proofs.BrokerLemmas.Counted.{few_first, few_next, few_none}
use Rattle.cdc_broker_actors.proofs.BrokerLemmas.Failing.{failed_after}
use Rattle.cdc_broker_actors.proofs.BrokerLemmas.Linked.{has_same}
use Rattle.cdc_broker_actors.proofs.BrokerLemmas.Receiving.{GoesOn-all, no_more, one_more}
use Rattle.cdc_broker_actors.proofs.broker.cores.BrokerCore.receive_all.Goals as goal

-- one message was received
first : (old new : BrokerCore) → HasReceivedNext old new → HasReceivedAll old new
first old new came = record { more = 0; alone = λ planned. refl; received = (old, refl, came) }

pub returns-then-not-is_empty-clause-after : goal.returns-then-not-is_empty-clause-after
returns-then-not-is_empty-clause-after g c =
    first c.args.self.now c.receive_next.new.self c.in_ok-receive_next.ensures.after

pub returns-then-not-is_empty-clause-few : goal.returns-then-not-is_empty-clause-few
returns-then-not-is_empty-clause-few g c =
    few_first c.args.self.now c.receive_next.new.self c.args.more c.in_ok-receive_next.ensures.after

pub returns-then-not-branch-clause-few : goal.returns-then-not-branch-clause-few
returns-then-not-branch-clause-few g c =
    let at = c.loop-further in
    let isnt : c.in_ok-receive_ready.field-0 ≡ false = search rules in
    few_none c.args.self.now at.self c.receive_ready.new.self c.in_ok-receive_ready.field-0 at._further c.args.more isnt
    (omega arith) at.invariant.1 c.in_ok-receive_ready.ensures.after

pub loop-further-init : goal.loop-further-init
loop-further-init g c = (
  first c.args.self.now c.receive_next.new.self c.in_ok-receive_next.ensures.after,
  few_first c.args.self.now c.receive_next.new.self 0 c.in_ok-receive_next.ensures.after,
)

pub receive_ready-requires : goal.receive_ready-requires
receive_ready-requires g c =
    (GoesOn-all c.args.self.now c.loop-further.self c.requires.core c.requires.goes_on c.loop-further.invariant.0).core

pub returns-in_err-receive_ready-clause-failed : goal.returns-in_err-receive_ready-clause-failed
returns-in_err-receive_ready-clause-failed g c =
    let has = c.loop-further.invariant.0 in
    let fault = c.in_err-receive_ready.field-0.0 in
    passed_on (λ f. HasFailed c.args.self.now f c.receive_ready.new.self) _ _
    c.from_residual-in_err-receive_ready.ensures.1
    (failed_after (suc has.more) c.args.self.now c.loop-further.self c.receive_ready.new.self fault has.received
    c.in_err-receive_ready.ensures.failed)

pub returns-then-not-branch-clause-after : goal.returns-then-not-branch-clause-after
returns-then-not-branch-clause-after g c =
    let isnt : c.in_ok-receive_ready.field-0 ≡ false = search rules in
    no_more c.args.self.now c.loop-further.self c.receive_ready.new.self c.in_ok-receive_ready.field-0 isnt
    c.loop-further.invariant.0 c.in_ok-receive_ready.ensures.after

pub loop-further-preserved : goal.loop-further-preserved
loop-further-preserved g c =
    let old = c.args.self.now in
    let first : BrokerCore = c.receive_next.new.self in
    let plan = (has_same 1 old first (old, refl, c.in_ok-receive_next.ensures.after)).plan in
    let empty : length first.plan.repeat.items ≡ 0 = search rules in
    let is : c.in_ok-receive_ready.field-0 ≡ true = search rules in
    let at = c.loop-further in (
      one_more old at.self c.receive_ready.new.self c.in_ok-receive_ready.field-0 is
          (ap (λ (p : BrokerPlan). length p.repeat.items) (sym plan) ∙ empty) at.invariant.0
          c.in_ok-receive_ready.ensures.after,
      few_next old at.self c.receive_ready.new.self at._further c.in_ok-receive_ready.field-0 is at.invariant.1
          c.in_ok-receive_ready.ensures.after,
    )
